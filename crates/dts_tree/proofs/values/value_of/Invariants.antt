use Rattle.std.proofs.Common.{◌≡◌, map, take}
use Rattle.dts_tree.specs.Final.{part_of}
use Rattle.dts_tree.specs.Inner.DraftForm.{draft_part_data}
use Rattle.dts_tree.proofs.values.value_of.Given as goal

abbrev pub invariant-loop-part : goal.invariant-loop-part
invariant-loop-part l = l.made.items ≡ map (part_of l.drafts l.numbers) (map draft_part_data (take l.part-index l.parts))
