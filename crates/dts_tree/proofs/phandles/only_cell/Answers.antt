use Rattle.std.proofs.Common.{◌≡◌, ◌∙◌, ◌<◌, ◌≤◌, ◌+◌, ◌∷◌, [], Some, List, length, sym, map, option_map, rules, arith}
use Rattle.std.specs.Option.{option_to_list}
use Rattle.dts_tree.specs.declared.draft.DraftCell.{DraftCell}
use Rattle.dts_tree.specs.Final.{cells_of}
use Rattle.dts_tree.specs.Inner.DraftForm.{draft_part_data}
use Rattle.dts_tree.proofs.CellLaws.{too_many_cells}
use Rattle.dts_tree.proofs.phandles.only_cell.Goals as goal

pub returns-in-Some : goal.returns-in-Some
returns-in-Some c =
    let is : Some c.in_ok-cells_of.field-0.now ≡ cells_of (draft_part_data c.part-item.result) = search rules in
    let one : 1 ≤ length c.in_ok-cells_of.field-0.now = omega (arith, c.in-len1.len_at_least) in
    let t = too_many_cells (c.in-Some.field-0.now ∷ []) c.args.parts.now c.loop-part.part-index c.part-item.result c.in_ok-cells_of.field-0.now c.loop-part-test.true c.part-item.is is (omega arith) in
    sym t ∙ (rw c.in-Some.is at c.loop-part.invariant)

pub returns-in_default : goal.returns-in_default
returns-in_default c =
    let is : Some c.in_ok-cells_of.field-0.now ≡ cells_of (draft_part_data c.part-item.result) = search rules in
    let two : 2 ≤ length c.in_ok-cells_of.field-0.now = omega (arith, c.in_default.len_at_least) in
    let t = too_many_cells (option_to_list (option_map (λ d. d.now) c.loop-part.only)) c.args.parts.now c.loop-part.part-index c.part-item.result c.in_ok-cells_of.field-0.now c.loop-part-test.true c.part-item.is is (omega arith) in
    sym t ∙ c.loop-part.invariant
