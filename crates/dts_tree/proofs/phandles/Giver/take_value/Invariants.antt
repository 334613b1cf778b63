use Rattle.std.proofs.Common.{◌≡◌, drop, map}
use Rattle.std.specs.Prelude.{fold}
use Rattle.std.specs.List.{flat_map}
use Rattle.dts_tree.specs.Final.{given_to, part_refs}
use Rattle.dts_tree.specs.Inner.DraftForm.{draft_part_data}
use Rattle.dts_tree.proofs.phandles.Giver.take_value.Given as goal

abbrev pub invariant-loop-part : goal.invariant-loop-part
invariant-loop-part l =
    fold given_to l.self (flat_map part_refs (map draft_part_data (drop l.part-index l.parts)))
    ≡ fold given_to l.initial.self (flat_map part_refs (map draft_part_data l.parts))
