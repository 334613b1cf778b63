use Rattle.std.proofs.Common.{◌≡◌, IfErr, Result, codes, is_some, rules, subst, sym, true}
use Rattle.edt_base.specs.EntryData.{EntryData}
use Rattle.edt_base.specs.Nodes.{prop_at}
use Rattle.edt_base.specs.Refusals.{IsStop}
use Rattle.edt_base.specs.declared.fault.Rule.{Rule}
use Rattle.irq_map.proofs.InterruptLaws.{at_controller}
use Rattle.irq_map.proofs.irqs.irq_at.Goals as goal

pub returns-in-Ok-clause-stop : goal.returns-in-Ok-clause-stop
returns-in-Ok-clause-stop c =
    let there : is_some (prop_at c.args.t.now.nodes c.args.end.node (codes "interrupt-controller")) ≡ true = search rules in
    subst (λ (q : Result EntryData Rule). IfErr c.counted.result (IsStop q))
    (sym (at_controller c.args.t.now.nodes c.args.lib.now c.args.space.now c.args.name c.args.end c.in-Ok.entry c.requires.space there c.in-Ok.ensures.entry c.in-Ok.ensures.controller))
    c.counted.ensures.stop
