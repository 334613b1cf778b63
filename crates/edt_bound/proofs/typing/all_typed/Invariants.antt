use Rattle.edt_bound.specs.Phases.{AreAnswers}
use Rattle.edt_bound.specs.Typing.{typed_at}
use Rattle.edt_bound.proofs.typing.all_typed.Given as goal

abbrev pub invariant-loop-place : goal.invariant-loop-place
invariant-loop-place l = AreAnswers (typed_at l.t.nodes l.lib) l.place l.all.items
