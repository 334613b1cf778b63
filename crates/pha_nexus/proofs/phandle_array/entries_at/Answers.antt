use Rattle.std.proofs.Common.{◌∙◌, ℕ, List, ap}
use Rattle.edt_base.specs.Nodes.{prop_at}
use Rattle.pha_nexus.proofs.EntryLaws.{stop_at}
use Rattle.pha_nexus.proofs.phandle_array.entries_at.Goals as goal

pub returns-clause-stop : goal.returns-clause-stop
returns-clause-stop c = stop_at c.args.t.now.nodes c.args.lib.now c.args.id c.args.name.now c.args.space.now _ c.in-Some.value.now _ c.in-Err.stop
    c.in_ok-space.ensures (c.in-Some.ensures ∙ ap (λ (n : List ℕ). prop_at c.args.t.now.nodes c.args.id n) c.as_str.ensures)
    c.in_ok-names.ensures c.in-Err.ensures.stop
