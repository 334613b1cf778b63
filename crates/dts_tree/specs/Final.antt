-- The final tree: phandles for nodes that cells refer to, values in bytes, and what is read from properties.
use Rattle.std.specs.Prelude.{ℕ, ◌+◌, ◌-◌, Bool, true, false, ◌&&◌, not, List, [], ◌∷◌, ◌++◌, Option, Some, None}
use Rattle.std.specs.Prelude.{length, map, fold, find, position, take, codes, is_some, is_none, slice_get}
use Rattle.std.specs.Prelude.{slice_index_or, slice_set, nat_le, unwrap_or, if◌then◌else◌}
use Rattle.std.specs.Option.{option_and_then, option_map, option_map_or, option_to_list}
use Rattle.std.specs.List.{list_any, filter_map, flat_map, range_with_len, enumerate_from}
use Rattle.std.specs.Str.{bytes_eq}
use Rattle.edt_base.specs.Cells.{cell_bytes}
use Rattle.edt_base.specs.NodeData.{NodeData, prop_of, holds_number}
use Rattle.edt_base.specs.TreeData.{TreeData}
use Rattle.edt_base.specs.Values.{are_strings, value_string, value_strings}
use Rattle.edt_base.specs.declared.node.Kind.{Kind}
use Rattle.edt_base.specs.declared.node.Kind.TheVariants as kind
use Rattle.edt_base.specs.declared.node.Part.{Part}
use Rattle.dts_tree.specs.declared.draft.DraftCell.{DraftCell}
use Rattle.dts_tree.specs.declared.draft.DraftCell.TheVariants as draft
use Rattle.dts_tree.specs.Drafts.{DraftPartData, DraftData, Ready, Mixed, PathTo}

-- the value of the first property of this name
abbrev pub draft_prop : List ℕ → List (List ℕ × List DraftPartData) → Option (List DraftPartData)
draft_prop name [] = None
draft_prop name (p ∷ ps) = if bytes_eq p.0 name then Some p.1 else draft_prop name ps

abbrev pub phandle_name : List ℕ
phandle_name = codes "phandle"

-- ---- written phandles

-- the cells of a part that has cells alone
abbrev pub cells_of : DraftPartData → Option (List DraftCell)
cells_of (Ready p) = None
cells_of (Mixed cells) = Some cells
cells_of (PathTo r) = None

-- the cells of a value whose parts have cells alone
abbrev pub all_cells : List DraftPartData → Option (List DraftCell)
all_cells [] = Some []
all_cells (p ∷ ps) = option_and_then (λ cells. option_map (λ more. cells ++ more) (all_cells ps)) (cells_of p)

-- what a list of one has
abbrev pub only_of : {X : Type 0} → List X → Option X
only_of [] = None
only_of (x ∷ []) = Some x
only_of (x ∷ y ∷ more) = None

-- the cell that a value is
abbrev pub only_cell : List DraftPartData → Option DraftCell
only_cell parts = option_and_then only_of (all_cells parts)

abbrev pub cell_phandle : DraftCell → Option ℕ
cell_phandle (draft.Num n) = if nat_le 1 n && nat_le n 4294967294 then Some n else None
cell_phandle (draft.Ref r) = None

-- the number of a value that may be a phandle: one cell, written as a number from 1 to 2^32 - 2
abbrev pub written_number : List DraftPartData → Option ℕ
written_number parts = option_and_then cell_phandle (only_cell parts)

-- the phandle that a node was written with
abbrev pub written : DraftData → Option ℕ
written d = option_and_then written_number (draft_prop phandle_name d.props)

-- ---- given phandles

abbrev pub cell_ref : DraftCell → Option ℕ
cell_ref (draft.Num n) = None
cell_ref (draft.Ref r) = r

abbrev pub part_refs : DraftPartData → List ℕ
part_refs (Ready p) = []
part_refs (Mixed cells) = filter_map cell_ref cells
part_refs (PathTo r) = []

abbrev pub node_refs : DraftData → List ℕ
node_refs d = flat_map (λ (p : List ℕ × List DraftPartData). flat_map part_refs p.1) d.props

-- the nodes that cells refer to: nodes in order, properties in order, the place in the value
abbrev pub refs : List DraftData → List ℕ
refs ds = flat_map node_refs ds

-- the number is some node's phandle
abbrev pub is_taken : List (Option ℕ) → ℕ → Bool
is_taken numbers n = list_any (holds_number n) numbers

-- the least number from 1 that no node has: one of as many as there are nodes and one more
unfoldable pub least_free : List (Option ℕ) → ℕ
least_free numbers = unwrap_or (find (λ n. not (is_taken numbers n)) (range_with_len 1 (length numbers + 1))) 0

-- a node that a cell refers to gets the least free number where it has none
abbrev pub given_to : List (Option ℕ) → ℕ → List (Option ℕ)
given_to numbers i =
    if is_some (slice_index_or numbers i None) then numbers else slice_set numbers i (Some (least_free numbers))

-- each node's phandle, where it has one
unfoldable pub phandles : List DraftData → List (Option ℕ)
phandles ds = fold given_to (map written ds) (refs ds)

-- ---- values

abbrev pub number_at : List (Option ℕ) → Option ℕ → ℕ
number_at numbers None = 0
number_at numbers (Some i) = unwrap_or (slice_index_or numbers i None) 0

abbrev pub cell_value : List (Option ℕ) → DraftCell → ℕ
cell_value numbers (draft.Num n) = n
cell_value numbers (draft.Ref r) = number_at numbers r

abbrev pub path_at : List DraftData → Option ℕ → List ℕ
path_at ds None = []
path_at ds (Some i) = option_map_or (λ (d : DraftData). d.path) (slice_get ds i) []

abbrev pub part_of : List DraftData → List (Option ℕ) → DraftPartData → Part
part_of ds numbers (Ready p) = p
part_of ds numbers (Mixed cells) =
    record { kind = kind.Cells; bytes = flat_map (λ c. cell_bytes (cell_value numbers c)) cells }
part_of ds numbers (PathTo r) = record { kind = kind.Path; bytes = path_at ds r ++ 0 ∷ [] }

abbrev pub prop_value : List DraftData → List (Option ℕ) → List ℕ × List DraftPartData → List ℕ × List Part
prop_value ds numbers p = (p.0, map (part_of ds numbers) p.1)

-- the property `phandle` of a node that was given a number, after the written ones
abbrev pub given_prop : ℕ → List ℕ × List Part
given_prop n = (phandle_name, (record { kind = kind.Cells; bytes = cell_bytes n }) ∷ [])

abbrev pub given : DraftData → Option ℕ → List (List ℕ × List Part)
given d number = if is_some (draft_prop phandle_name d.props) then [] else option_to_list (option_map given_prop number)

abbrev pub props_of : List DraftData → List (Option ℕ) → DraftData → Option ℕ → List (List ℕ × List Part)
props_of ds numbers d number = map (prop_value ds numbers) d.props ++ given d number

-- ---- what is read from properties

abbrev pub some_strings : List Part → Option (List (List ℕ))
some_strings parts = if are_strings parts then Some (value_strings parts) else None

-- the strings of `compatible`, or none where it is no list of strings; without it there are none
abbrev pub compats_of : List (List ℕ × List Part) → Option (List (List ℕ))
compats_of props = option_map_or some_strings (prop_of (codes "compatible") props) (Some [])

abbrev pub okay_for_ok : List ℕ → List ℕ
okay_for_ok text = if bytes_eq text (codes "ok") then codes "okay" else text

-- the string of `status`, or none where it is no string; `ok` and no status are `okay`
abbrev pub status_of : List (List ℕ × List Part) → Option (List ℕ)
status_of props =
    option_map_or (λ parts. option_map okay_for_ok (value_string parts)) (prop_of (codes "status") props)
    (Some (codes "okay"))

-- ---- nodes that properties name

abbrev pub spells_path : Kind → Bool
spells_path kind.Str = true
spells_path kind.Cells = false
spells_path kind.Hex = false
spells_path kind.Wide = false
spells_path kind.Path = true

abbrev pub before_last : List ℕ → List ℕ
before_last bytes = take (length bytes - 1) bytes

abbrev pub has_draft_path : List ℕ → DraftData → Bool
has_draft_path path d = bytes_eq d.path path

abbrev pub node_at : List DraftData → List ℕ → Option ℕ
node_at ds path = position (has_draft_path path) ds

-- the node whose path a value spells: one text or path, before its last zero; `find` tells the node of a path
abbrev pub named_with : (List ℕ → Option ℕ) → List Part → Option ℕ
named_with find [] = None
named_with find (p ∷ []) = if spells_path p.kind then find (before_last p.bytes) else None
named_with find (p ∷ q ∷ ps) = None

abbrev pub named_by : List DraftData → List Part → Option ℕ
named_by ds parts = named_with (node_at ds) parts

-- a property with the node that it names
abbrev pub naming_with : (List ℕ → Option ℕ) → List ℕ × List Part → Option (List ℕ × ℕ)
naming_with find p = option_map (λ i. (p.0, i)) (named_with find p.1)

abbrev pub naming_prop : List DraftData → List ℕ × List Part → Option (List ℕ × ℕ)
naming_prop ds p = naming_with (node_at ds) p

-- ---- nodes and tree

-- each node's properties, where the nodes have these phandles
abbrev pub props_with : List DraftData → List (Option ℕ) → List (List (List ℕ × List Part))
props_with ds numbers =
    map (λ (e : ℕ × DraftData). props_of ds numbers e.1 (slice_index_or numbers e.0 None)) (enumerate_from 0 ds)

unfoldable pub all_props : List DraftData → List (List (List ℕ × List Part))
all_props ds = props_with ds (phandles ds)

-- the properties of the node of a path, none where it isn't there
abbrev pub props_found : (List ℕ → Option ℕ) → List (List (List ℕ × List Part)) → List ℕ → List (List ℕ × List Part)
props_found find props path = option_map_or (λ i. slice_index_or props i []) (find path) []

abbrev pub props_at : List DraftData → List (List (List ℕ × List Part)) → List ℕ → List (List ℕ × List Part)
props_at ds props path = props_found (node_at ds) props path

-- the places of the drafts whose parent has this place, where the first of these has this one
abbrev pub below_from : ℕ → List DraftData → ℕ → List ℕ
below_from first [] i = []
below_from first (d ∷ ds) i =
    if holds_number i d.parent then first ∷ below_from (first + 1) ds i else below_from (first + 1) ds i

abbrev pub node_of : DraftData → List (List ℕ × List Part) → List ℕ → NodeData
node_of d props children = record {
  name = d.name;
  path = d.path;
  parent = d.parent;
  children = children;
  labels = d.labels;
  props = props;
  compats = unwrap_or (compats_of props) [];
  status = unwrap_or (status_of props) [];
}

-- the nodes of drafts with these properties
unfoldable pub nodes_of : List DraftData → List (List (List ℕ × List Part)) → List NodeData
nodes_of ds props =
    map (λ (e : ℕ × DraftData). node_of e.1 (slice_index_or props e.0 []) (below_from 0 ds e.0)) (enumerate_from 0 ds)

unfoldable pub tree_of : List DraftData → TreeData
tree_of ds = record {
  nodes = nodes_of ds (all_props ds);
  aliases = filter_map (naming_prop ds) (props_at ds (all_props ds) (codes "/aliases"));
  chosen = filter_map (naming_prop ds) (props_at ds (all_props ds) (codes "/chosen"));
}
