-- How a value of phandles with specifiers is cut into entries (Zephyr 3.7, "Devicetree bindings syntax", type
-- phandle-array), over its cells.
use Rattle.std.specs.Prelude.{ℕ, zero, suc, Bool, List, [], ◌∷◌, Option, Some, None, Result, Ok, Err, length, nat_eq, nat_lt, position, take, if◌then◌else◌}
use Rattle.std.specs.Option.{option_map_or}
use Rattle.edt_base.specs.NodeData.{NodeData, bytes_of, has_phandle}
use Rattle.edt_base.specs.Values.{value_cells}
use Rattle.edt_base.specs.declared.fault.Rule.{Rule}
use Rattle.edt_base.specs.declared.fault.Rule.TheVariants as rule
use Rattle.edt_base.specs.declared.node.Part.{Part}
use Rattle.pha_nexus.specs.Passing.{Hop}
use Rattle.pha_nexus.specs.Rows.{has_rest}
use Rattle.pha_nexus.specs.Space.{cells_name, count_at}

-- One entry: unspecified, or the node of its phandle with a specifier

-- the specifier of a node that wants so many cells: the first of those behind its phandle. V21 where the node doesn't
-- say how many, V22 where they aren't there
abbrev pub specified : ℕ → List ℕ → Option ℕ → Result (Option Hop) Rule
specified node behind None = Err rule.V21
specified node behind (Some width) = if nat_lt (length behind) width then Err rule.V22
    else Ok (Some (record { node = node; spec = take width behind }))

-- the same by a node that has the phandle, V20 where none has it
abbrev pub specified_at : List NodeData → List ℕ → List ℕ → Option ℕ → Result (Option Hop) Rule
specified_at nodes space behind None = Err rule.V20
specified_at nodes space behind (Some node) = specified node behind (count_at nodes node (cells_name space))

-- the entry with which cells begin: a cell 0 is an unspecified one, any other is a phandle. Or the first rule that it
-- breaks
abbrev pub first_entry : List NodeData → List ℕ → ℕ → List ℕ → Result (Option Hop) Rule
first_entry nodes space phandle behind = if nat_eq phandle 0 then Ok None
    else specified_at nodes space behind (position (has_phandle phandle) nodes)

-- how many cells an entry has behind its first one
abbrev pub cells_behind : Option Hop → ℕ
cells_behind entry = option_map_or (λ (hop : Hop). length hop.spec) entry 0

-- All entries

-- an entry, and more after it; after one that is at fault no more are read
abbrev pub and_entries : Result (Option Hop) Rule → (Option Hop → List (Result (Option Hop) Rule))
    → List (Result (Option Hop) Rule)
and_entries (Ok entry) more = Ok entry ∷ more entry
and_entries (Err broken) more = Err broken ∷ []

-- after so many cells an entry begins. A rest of 1 to 3 bytes at the end is a phandle that no node has
abbrev pub cut_after : List NodeData → List ℕ → Bool → ℕ → List ℕ → List (Result (Option Hop) Rule)
cut_after nodes space rest skip [] = if rest then Err rule.V20 ∷ [] else []
cut_after nodes space rest zero (c ∷ cs) = and_entries (first_entry nodes space c cs)
    (λ entry. cut_after nodes space rest (cells_behind entry) cs)
cut_after nodes space rest (suc skip) (c ∷ cs) = cut_after nodes space rest skip cs

-- the entries of a value, each an entry or the rule that it breaks
abbrev pub cut_of : List NodeData → List ℕ → List Part → List (Result (Option Hop) Rule)
cut_of nodes space value = cut_after nodes space (has_rest (length (bytes_of value))) 0 (value_cells value)
