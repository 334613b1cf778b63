use Rattle.std.proofs.Common.{rules}
use Rattle.edt_bound.specs.Typing.{typed_at}
use Rattle.edt_bound.proofs.PhaseSteps.{answer_more, first_broken}
use Rattle.edt_bound.proofs.typing.all_typed.Goals as goal

pub loop-place-preserved : goal.loop-place-preserved
loop-place-preserved c = answer_more (typed_at c.args.t.now.nodes c.args.lib.now) c.loop-place.all.items _ c.in-Ok.next c.loop-place.place
    c.loop-place.invariant c.in-Ok.ensures.is c.in_ok-push-in-Ok.ensures.items

pub returns-in-Err-clause-refused : goal.returns-in-Err-clause-refused
returns-in-Err-clause-refused c = first_broken c.args.t.now.nodes (typed_at c.args.t.now.nodes c.args.lib.now) c.loop-place.all.items c.loop-place.place
    c.in-Err.end c.loop-place.invariant (search rules) c.in-Err.ensures.refused
