use Rattle.std.proofs.Common.{◌≡◌, [], replicate}
use Rattle.dts_tree.proofs.order.lists.Given as goal

abbrev pub invariant-loop : goal.invariant-loop
invariant-loop l = l.lists.items ≡ replicate l.counter []
