use Rattle.std.proofs.Common.{◌≡◌, ◌+◌, ◌-◌, ◌^◌, [], map, drop, take, min, find, fold, sum_by, nat_lt}
use Rattle.dts_tree.specs.Inner.Grown.{len_at, most, size_from, has_large, value_at, shared_from, any_seen, wants, wanted_parts, wanted_by, wanted_from, below_in}
use Rattle.dts_tree.proofs.rules.want_nodes.Given as goal

abbrev pub invariant-loop-slot : goal.invariant-loop-slot
invariant-loop-slot l = wanted_from l.known.finder l.known.grown l.known.props.items l.marks.items (drop l.slot-index l.slots) ≡ wanted_from l.known.finder l.known.grown l.known.props.items l.initial.marks.items l.slots
