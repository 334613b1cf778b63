use Rattle.std.proofs.Common.{◌≡◌, ◌+◌, ◌-◌, ◌^◌, [], map, drop, take, min, find, fold, sum_by, nat_lt}
use Rattle.dts_tree.specs.Inner.Grown.{len_at, most, size_from, has_large, value_at, shared_from, any_seen, wants, wanted_parts, wanted_by, wanted_from, below_in}
use Rattle.dts_tree.specs.Whole.{cell_targets}
use Rattle.dts_tree.proofs.rules.want_cells.Given as goal

abbrev pub invariant-loop-cell : goal.invariant-loop-cell
invariant-loop-cell l = fold (wants l.finder) l.marks.items (cell_targets (drop l.cell-index l.cells)) ≡ fold (wants l.finder) l.initial.marks.items (cell_targets l.cells)
