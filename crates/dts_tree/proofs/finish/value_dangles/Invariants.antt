use Rattle.std.proofs.Common.{◌≡◌, map, drop}
use Rattle.std.specs.List.{list_any}
use Rattle.dts_tree.specs.Rules.{part_dangles}
use Rattle.dts_tree.specs.Inner.DraftForm.{draft_part_data}
use Rattle.dts_tree.proofs.finish.value_dangles.Given as goal

abbrev pub invariant-loop-part : goal.invariant-loop-part
invariant-loop-part l = list_any part_dangles (map draft_part_data (drop l.part-index l.parts)) ≡ list_any part_dangles (map draft_part_data l.parts)
