use Rattle.std.proofs.Common.{◌≡◌, map, drop, take}
use Rattle.dts_tree.specs.Inner.Left.{placed_from, places_of, slot_prop, slot_draft, slot_part, slot_cell}
use Rattle.dts_tree.proofs.parts.props_of.Given as goal

abbrev pub invariant-loop-prop : goal.invariant-loop-prop
invariant-loop-prop l = l.drafts.items ≡ map (slot_prop l.known.finder l.known.grown l.places) (take l.prop-index l.props)
