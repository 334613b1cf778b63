use Rattle.std.proofs.Common.{◌≡◌, map, drop, take}
use Rattle.dts_tree.specs.Inner.Left.{placed_from, places_of, slot_prop, slot_draft, slot_part, slot_cell}
use Rattle.dts_tree.proofs.parts.cells_of.Given as goal

abbrev pub invariant-loop-cell : goal.invariant-loop-cell
invariant-loop-cell l = l.drafts.items ≡ map (slot_cell l.finder l.places) (take l.cell-index l.cells)
