-- Values that are one cell.
use Rattle.std.proofs.Common.{◌≡◌, ◌∙◌, ◌+◌, ◌<◌, ◌≤◌, ◌++◌, ◌∷◌, [], ℕ, suc, List, Option, Some, None, length, map, get_or, drop, refl, sym, ap, arith, drop-cons, add-one, length-append}
use Rattle.std.specs.Option.{option_and_then, option_map}
use Rattle.dts_tree.specs.declared.draft.DraftCell.{DraftCell}
use Rattle.dts_tree.specs.declared.draft.DraftPart.{DraftPart}
use Rattle.dts_tree.specs.Drafts.{DraftPartData}
use Rattle.dts_tree.specs.Final.{only_of, all_cells, cells_of}
use Rattle.dts_tree.specs.Inner.DraftForm.{draft_part_data}

only_none : (xs : List DraftCell) → 2 ≤ length xs → only_of xs ≡ None
only_none [] h = absurd (omega arith)
only_none (x ∷ []) h = absurd (omega arith)
only_none (x ∷ y ∷ xs) h = refl

many : (only cells : List DraftCell) (o : Option (List DraftCell)) → 2 ≤ length only + length cells
    → option_and_then only_of (option_map (λ more. only ++ more) (option_map (λ more. cells ++ more) o)) ≡ None
many only cells None h = refl
many only cells (Some more) h =
    let e : length (only ++ (cells ++ more)) ≡ length only + (length cells + length more) = length-append only (cells ++ more) ∙ ap (λ n. length only + n) (length-append cells more) in
    only_none (only ++ (cells ++ more)) (omega arith)

-- with so many cells a value is none
pub too_many_cells : (only : List DraftCell) (parts : List DraftPart) (i : ℕ) (part : DraftPart) (cells : List DraftCell) → i < length parts → part ≡ get_or parts i part
    → Some cells ≡ cells_of (draft_part_data part) → 2 ≤ length only + length cells
    → option_and_then only_of (option_map (λ more. only ++ more) (all_cells (map draft_part_data (drop i parts)))) ≡ None
too_many_cells only parts i part cells l at is h =
    let e : drop i parts ≡ part ∷ drop (suc i) parts = drop-cons parts i part l ∙ ap (λ p. p ∷ drop (suc i) parts) (sym at) in
    ap (λ ps. option_and_then only_of (option_map (λ more. only ++ more) (all_cells (map draft_part_data ps)))) e
    ∙ (ap (λ o. option_and_then only_of (option_map (λ more. only ++ more) (option_and_then (λ cs. option_map (λ more. cs ++ more) (all_cells (map draft_part_data (drop (suc i) parts)))) o))) (sym is)
    ∙ many only cells (all_cells (map draft_part_data (drop (suc i) parts))) h)
