-- The rules of the final tree, each with the first node that breaks it.
use Rattle.std.specs.Prelude.{ℕ, Bool, true, false, ◌&&◌, ◌||◌, List, [], ◌∷◌, ◌++◌, Option, Some, None, map, codes}
use Rattle.std.specs.Prelude.{is_some, is_none, if◌then◌else◌}
use Rattle.std.specs.Option.{option_map_or}
use Rattle.std.specs.List.{list_any}
use Rattle.edt_base.specs.declared.node.Part.{Part}
use Rattle.dts_tree.specs.declared.draft.DraftCell.{DraftCell}
use Rattle.dts_tree.specs.declared.draft.DraftCell.TheVariants as draft
use Rattle.dts_tree.specs.Drafts.{DraftPartData, DraftData, Ready, Mixed, PathTo}
use Rattle.dts_tree.specs.Final.{phandle_name, draft_prop, written, is_taken, props_at, named_by, compats_of, status_of}

-- a reference that names no node that is left
abbrev pub cell_dangles : DraftCell → Bool
cell_dangles (draft.Num n) = false
cell_dangles (draft.Ref r) = is_none r

abbrev pub part_dangles : DraftPartData → Bool
part_dangles (Ready p) = false
part_dangles (Mixed cells) = list_any cell_dangles cells
part_dangles (PathTo r) = is_none r

abbrev pub dangles : DraftData → Bool
dangles d = list_any (λ (p : List ℕ × List DraftPartData). list_any part_dangles p.1) d.props

-- a property `phandle` that is no phandle, or one that an earlier node has
abbrev pub is_bad_phandle : List DraftData → DraftData → Bool
is_bad_phandle earlier d =
    is_some (draft_prop phandle_name d.props) && option_map_or (is_taken (map written earlier)) (written d) true

-- the first node with such a property, where these stand before
abbrev pub first_bad_phandle : List DraftData → List DraftData → Option DraftData
first_bad_phandle earlier [] = None
first_bad_phandle earlier (d ∷ ds) =
    if is_bad_phandle earlier d then Some d else first_bad_phandle (earlier ++ d ∷ []) ds

-- a property of `/aliases` that isn't one text or path that names a node
abbrev pub has_bad_alias : List DraftData → List (List (List ℕ × List Part)) → Bool
has_bad_alias ds props =
    list_any (λ (p : List ℕ × List Part). is_none (named_by ds p.1)) (props_at ds props (codes "/aliases"))

-- `compatible` is no list of strings, or `status` is no string
abbrev pub is_mistyped : List (List ℕ × List Part) → Bool
is_mistyped props = is_none (compats_of props) || is_none (status_of props)

-- the first node with such properties
abbrev pub first_mistyped : List DraftData → List (List (List ℕ × List Part)) → Option DraftData
first_mistyped [] props = None
first_mistyped (d ∷ ds) [] = None
first_mistyped (d ∷ ds) (p ∷ props) = if is_mistyped p then Some d else first_mistyped ds props
