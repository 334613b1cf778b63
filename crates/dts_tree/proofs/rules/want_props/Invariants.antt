use Rattle.std.proofs.Common.{◌≡◌, ◌+◌, ◌-◌, ◌^◌, [], map, drop, take, min, find, fold, sum_by, nat_lt}
use Rattle.dts_tree.specs.Inner.Grown.{len_at, most, size_from, has_large, value_at, shared_from, any_seen, wants, wanted_parts, wanted_by, wanted_from, below_in}
use Rattle.dts_tree.proofs.rules.want_props.Given as goal

abbrev pub invariant-loop-prop : goal.invariant-loop-prop
invariant-loop-prop l = fold (wanted_by l.finder l.grown) l.marks.items (drop l.prop-index l.props) ≡ fold (wanted_by l.finder l.grown) l.initial.marks.items l.props
