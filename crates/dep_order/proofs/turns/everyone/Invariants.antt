use Rattle.std.proofs.Common.{◌≡◌, map}
use Rattle.std.specs.List.{range_with_len}
use Rattle.dep_order.specs.Turns.{starter}
use Rattle.dep_order.proofs.turns.everyone.Given as goal

abbrev pub invariant-loop-id : goal.invariant-loop-id
invariant-loop-id l = l.all.items ≡ map starter (range_with_len 0 l.id)
