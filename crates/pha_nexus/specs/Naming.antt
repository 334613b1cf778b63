-- The entries of a value, each followed to its last node, whose binding names the cells.
use Rattle.std.specs.Prelude.{◌+◌, ◌++◌, ℕ, List, [], ◌∷◌, Option, Some, None, Result, Ok, Err, codes, length, nat_eq, option_map, unwrap_or, zip, if◌then◌else◌}
use Rattle.std.specs.Option.{option_map_or}
use Rattle.std.specs.Str.{bytes_eq}
use Rattle.edt_base.specs.EntryData.{EntryData}
use Rattle.edt_base.specs.NodeData.{NodeData}
use Rattle.edt_base.specs.Nodes.{prop_at}
use Rattle.edt_base.specs.Values.{entry_name, name_parts, names_fit}
use Rattle.edt_base.specs.declared.fault.Rule.{Rule}
use Rattle.edt_base.specs.declared.fault.Rule.TheVariants as rule
use Rattle.edt_base.specs.declared.node.Part.{Part}
use Rattle.bind_merge.specs.LibraryData.{LibData}
use Rattle.bind_merge.specs.ViewData.{cells_in}
use Rattle.pha_nexus.specs.Chain.{followed}
use Rattle.pha_nexus.specs.Cutting.{cut_of}
use Rattle.pha_nexus.specs.Matching.{binding_at}
use Rattle.pha_nexus.specs.Passing.{Hop}

-- Cells

-- the names that a node's binding gives to the cells of its specifiers; none where the node has no binding
abbrev pub CellNames : Type 0
CellNames = ℕ → Option (List (List ℕ))

-- those of a space; no names are the empty list
abbrev pub cell_names : List NodeData → LibData → List ℕ → CellNames
cell_names nodes lib space node = option_map (λ b. unwrap_or (cells_in space b) []) (binding_at nodes lib node)

-- a specifier with the names of its cells. V23 where the node has no binding, V24 where the binding doesn't name so
-- many cells
abbrev pub with_names : Hop → Option (List ℕ) → Option (List (List ℕ)) → Result EntryData Rule
with_names hop name None = Err rule.V23
with_names hop name (Some cells) = if nat_eq (length cells) (length hop.spec)
    then Ok (record { controller = hop.node; cells = zip cells hop.spec; name = name }) else Err rule.V24

-- a specifier where it ends, with the names of its cells there
abbrev pub ended : CellNames → Option (List ℕ) → Result Hop Rule → Result EntryData Rule
ended names name (Err broken) = Err broken
ended names name (Ok hop) = with_names hop name (names hop.node)

-- Entries

abbrev pub specified_entry : Result EntryData Rule → Result (Option EntryData) Rule
specified_entry (Err broken) = Err broken
specified_entry (Ok entry) = Ok (Some entry)

-- an entry of this name; an unspecified one has neither cells nor a name
abbrev pub entry_of : List NodeData → List ℕ → CellNames → Option (List ℕ) → Option Hop → Result (Option EntryData) Rule
entry_of nodes space names name None = Ok None
entry_of nodes space names name (Some hop) =
    specified_entry (ended names name (followed nodes space hop.node hop.spec))

-- the same of one that may be cut wrongly
abbrev pub cut_entry : List NodeData → List ℕ → CellNames → Option (List ℕ) → Result (Option Hop) Rule
    → Result (Option EntryData) Rule
cut_entry nodes space names name (Err broken) = Err broken
cut_entry nodes space names name (Ok entry) = entry_of nodes space names name entry

-- one, and those after it; or the first rule that is broken
abbrev pub and_rest : {X : Type 0} → Result X Rule → Result (List X) Rule → Result (List X) Rule
and_rest (Err broken) rest = Err broken
and_rest (Ok x) (Err broken) = Err broken
and_rest (Ok x) (Ok rest) = Ok (x ∷ rest)

-- the entries from a place on, each with the name that stands at its place
abbrev pub entries_from : List NodeData → List ℕ → CellNames → List Part → ℕ → List (Result (Option Hop) Rule)
    → Result (List (Option EntryData)) Rule
entries_from nodes space names parts at [] = Ok []
entries_from nodes space names parts at (cut ∷ cuts) =
    and_rest (cut_entry nodes space names (entry_name parts at) cut) (entries_from nodes space names parts (at + 1) cuts)

-- V25 where the names aren't as many strings as the entries
abbrev pub if_names_fit : {X : Type 0} → Option (List Part) → Result (List X) Rule → Result (List X) Rule
if_names_fit names (Err broken) = Err broken
if_names_fit names (Ok entries) = if names_fit (length entries) names then Ok entries else Err rule.V25

-- the entries of a value with these names, the unspecified ones counted; or the first rule that is broken
abbrev pub entries_in : List NodeData → List ℕ → CellNames → Option (List Part) → List Part
    → Result (List (Option EntryData)) Rule
entries_in nodes space names entry_names value = if_names_fit entry_names
    (entries_from nodes space names (name_parts entry_names) 0 (cut_of nodes space value))

-- the names of the entries of a property: a space names those of the property that is named after it, and no others
abbrev pub names_at : List NodeData → ℕ → List ℕ → List ℕ → Option (List Part)
names_at nodes id name space =
    if bytes_eq name (space ++ codes "s") then prop_at nodes id (space ++ codes "-names") else None

-- the entries of a property, none of one that isn't there; or the first rule that is broken
abbrev pub entries_of : List NodeData → LibData → ℕ → List ℕ → List ℕ → Result (List (Option EntryData)) Rule
entries_of nodes lib id name space = option_map_or
    (entries_in nodes space (cell_names nodes lib space) (names_at nodes id name space)) (prop_at nodes id name) (Ok [])
