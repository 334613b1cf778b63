use Rattle.dep_order.specs.Turns.{lists}
use Rattle.edt_bound.proofs.SupportSteps.{ArePut}
use Rattle.edt_bound.proofs.relations.supports_of.Given as goal

abbrev pub invariant-loop-place : goal.invariant-loop-place
invariant-loop-place l = ArePut (lists l.needs.items) l.place l.supports.items
