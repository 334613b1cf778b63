use Rattle.std.proofs.Common.{◌≡◌, ◌+◌, ◌-◌, ◌^◌, [], map, drop, take, min, find, fold, sum_by, nat_lt}
use Rattle.dts_tree.specs.Inner.Grown.{len_at, most, size_from, has_large, value_at, shared_from, any_seen, wants, wanted_parts, wanted_by, wanted_from, below_in}
use Rattle.dts_tree.proofs.rules.are_too_many.Given as goal

abbrev pub invariant-loop-slot : goal.invariant-loop-slot
invariant-loop-slot l = l.all ≡ min (sum_by (len_at l.lens) (take l.slot-index l.slots)) most
