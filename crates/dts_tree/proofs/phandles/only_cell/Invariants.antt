use Rattle.std.proofs.Common.{◌≡◌, ◌++◌, drop, map, option_map}
use Rattle.std.specs.Option.{option_and_then, option_to_list}
use Rattle.dts_tree.specs.Final.{only_cell, only_of, all_cells}
use Rattle.dts_tree.specs.Inner.DraftForm.{draft_part_data}
use Rattle.dts_tree.proofs.phandles.only_cell.Given as goal

abbrev pub invariant-loop-part : goal.invariant-loop-part
invariant-loop-part l =
    option_and_then only_of (option_map (λ more. option_to_list (option_map (λ c. c.now) l.only) ++ more) (all_cells (map draft_part_data (drop l.part-index l.parts))))
    ≡ only_cell (map draft_part_data l.parts)
