use Rattle.std.proofs.Common.{length, ◌-◌, []}
use Rattle.dep_order.specs.Turns.{lists, IsUnderWay}
use Rattle.dep_order.proofs.placing.placed_all.Given as goal

abbrev pub invariant-loop-turns : goal.invariant-loop-turns
invariant-loop-turns l = IsUnderWay (lists l.needs) l.turns []

abbrev pub decreases-loop-turns : goal.decreases-loop-turns
decreases-loop-turns l = length (lists l.needs) - length l.turns.order
