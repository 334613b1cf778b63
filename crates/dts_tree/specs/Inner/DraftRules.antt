-- What every list of drafts keeps that is handed on to be finished. No part of what is promised.
use Rattle.std.specs.Prelude.{◌≡◌, ◌+◌, ◌<◌, ◌≤◌, ◌++◌, ℕ, true, List, [], ◌∷◌, Option, Some, None, All, IfSome, length, map, slice_get, codes, ⊤}
use Rattle.std.specs.List.{list_any, IsDistinct}
use Rattle.std.specs.Str.{bytes_eq}
use Rattle.edt_base.specs.SourceNames.{is_node_name}
use Rattle.edt_base.specs.TreeData.{IsKindOf}
use Rattle.dts_tree.specs.declared.draft.DraftCell.{DraftCell}
use Rattle.dts_tree.specs.declared.draft.DraftCell.TheVariants as draft
use Rattle.dts_tree.specs.Drafts.{DraftPartData, DraftData, Ready, Mixed, PathTo}

-- the first place is that of the second's draft or of one above it
pub data IsAbove (ds : List DraftData) : ℕ → ℕ → Type 0 where
  itself : (i : ℕ) → IsAbove ds i i
  further : (i p q : ℕ) (d : DraftData) → slice_get ds i ≡ Some d → d.parent ≡ Some p → IsAbove ds q p → IsAbove ds q i

-- the path of what stands in a node: the node's, `/` and the name; that of the root isn't written
abbrev pub path_below : Option ℕ → List ℕ → List ℕ → List ℕ
path_below None path name = codes "/" ++ name
path_below (Some up) path name = path ++ codes "/" ++ name

abbrev pub has_draft_label : List ℕ → DraftData → Type 0
has_draft_label label d = list_any (λ l. bytes_eq l label) d.labels ≡ true

-- a reference in a cell is to one of so many drafts, or to none
abbrev pub IsCellOf : ℕ → DraftCell → Type 0
IsCellOf n (draft.Num m) = ⊤
IsCellOf n (draft.Ref r) = IfSome r (λ i. i < n)

-- what is written is of its kind, and a path is that of one of so many drafts
abbrev pub IsPartOf : ℕ → DraftPartData → Type 0
IsPartOf n (Ready p) = IsKindOf [] p.kind p.bytes
IsPartOf n (Mixed cells) = All (IsCellOf n) cells
IsPartOf n (PathTo r) = IfSome r (λ i. i < n)

pub record AreDrafts (ds : List DraftData) : Type 0 where
  pub few : length ds ≤ 65535
  pub some : 0 < length ds
  -- the first is the root, and no other is without a parent
  pub root : (d : DraftData) → slice_get ds 0 ≡ Some d → d.parent ≡ None
  pub alone : (i : ℕ) (d : DraftData) → slice_get ds i ≡ Some d → d.parent ≡ None → i ≡ 0
  -- a parent stands before what stands in it
  pub parents : (i p : ℕ) (d : DraftData) → slice_get ds i ≡ Some d → d.parent ≡ Some p → p < i
  -- they stand in preorder: the parent of the next is a draft or one above it
  pub preorder : (i p : ℕ) (d : DraftData) → slice_get ds (i + 1) ≡ Some d → d.parent ≡ Some p → IsAbove ds p i
  pub root_name : (i : ℕ) (d : DraftData) → slice_get ds i ≡ Some d → d.parent ≡ None → d.name ≡ codes "/"
  pub root_path : (i : ℕ) (d : DraftData) → slice_get ds i ≡ Some d → d.parent ≡ None → d.path ≡ codes "/"
  pub names : (i p : ℕ) (d : DraftData) → slice_get ds i ≡ Some d → d.parent ≡ Some p → is_node_name d.name ≡ true
  pub paths : (i p : ℕ) (d up : DraftData) → slice_get ds i ≡ Some d → d.parent ≡ Some p → slice_get ds p ≡ Some up
      → d.path ≡ path_below up.parent up.path d.name
  -- no two share a path or a label
  pub paths_apart : (i j : ℕ) (d e : DraftData) → slice_get ds i ≡ Some d → slice_get ds j ≡ Some e
      → d.path ≡ e.path → i ≡ j
  pub labels_apart : (i j : ℕ) (d e : DraftData) (label : List ℕ) → slice_get ds i ≡ Some d → slice_get ds j ≡ Some e
      → has_draft_label label d → has_draft_label label e → i ≡ j
  -- no two properties of one share a name
  pub props_apart : (i : ℕ) (d : DraftData) → slice_get ds i ≡ Some d
      → IsDistinct bytes_eq (map (λ (p : List ℕ × List DraftPartData). p.0) d.props)
  pub parts : (i : ℕ) (d : DraftData) → slice_get ds i ≡ Some d
      → All (λ (p : List ℕ × List DraftPartData). All (IsPartOf (length ds)) p.1) d.props
