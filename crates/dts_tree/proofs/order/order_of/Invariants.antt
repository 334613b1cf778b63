-- What is put out, and the walks from those that wait, are the whole walk.
use Rattle.std.proofs.Common.{◌≡◌, ◌++◌, true, length, reverse, nat_lt}
use Rattle.std.specs.List.{flat_map, list_all}
use Rattle.dts_tree.specs.Inner.Grown.{order_of}
use Rattle.dts_tree.proofs.Walking.{walk_at}
use Rattle.dts_tree.proofs.order.order_of.Given as goal

abbrev pub invariant-loop-slot : goal.invariant-loop-slot
invariant-loop-slot l = (l.out.items ++ flat_map (walk_at l.lists) (reverse l.waiting.items) ≡ order_of l.lists)
    × (list_all (λ c. nat_lt c (length l.lists)) l.waiting.items ≡ true)

abbrev pub decreases-loop-slot : goal.decreases-loop-slot
decreases-loop-slot l = length (flat_map (walk_at l.lists) (reverse l.waiting.items))
