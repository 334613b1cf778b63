use Rattle.std.proofs.Common.{◌≡◌, map, drop, take}
use Rattle.dts_tree.specs.Inner.Left.{placed_from, places_of, slot_prop, slot_draft, slot_part, slot_cell}
use Rattle.dts_tree.proofs.parts.places_of.Given as goal

abbrev pub invariant-loop-place : goal.invariant-loop-place
invariant-loop-place l = placed_from l.places.items l.place (drop l.place l.slots) ≡ places_of l.count l.slots
