use Rattle.std.proofs.Common.{◌≡◌, map, drop, take}
use Rattle.dts_tree.specs.Inner.Left.{placed_from, places_of, slot_prop, slot_draft, slot_part, slot_cell}
use Rattle.dts_tree.specs.Inner.DraftForm.{draft_part_data}
use Rattle.dts_parse.specs.ActForm.{part_data}
use Rattle.dts_tree.proofs.parts.parts_of.Given as goal

abbrev pub invariant-loop-part : goal.invariant-loop-part
invariant-loop-part l = map draft_part_data l.drafts.items ≡ map (slot_part l.finder l.places) (map part_data (take l.part-index l.parts))
