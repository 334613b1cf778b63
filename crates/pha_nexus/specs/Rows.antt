-- The rows of a nexus node's map (Devicetree Specification v0.4, 2.5.1), over the cells of its value.
use Rattle.std.specs.Prelude.{◌+◌, ◌%◌, ℕ, zero, suc, Bool, List, [], ◌∷◌, Option, Some, None, Result, Ok, Err, drop, length, nat_eq, nat_lt, position, take, if◌then◌else◌}
use Rattle.std.specs.Cmp.Lexicographic.{pointwise}
use Rattle.edt_base.specs.NodeData.{NodeData, bytes_of, has_phandle}
use Rattle.edt_base.specs.Values.{value_cells}
use Rattle.edt_base.specs.declared.fault.Rule.{Rule}
use Rattle.edt_base.specs.declared.fault.Rule.TheVariants as rule
use Rattle.edt_base.specs.declared.node.Part.{Part}
use Rattle.pha_nexus.specs.Space.{parent_width}
use Rattle.pha_nexus.specs.declared.rows.Lead.{Lead}

-- a row: the child cells that it is for, the node that it leads to, and the parent cells that it gives
pub record Row : Type 0 where
  pub child : List ℕ
  pub node : ℕ
  pub parent : List ℕ

-- One row

-- where a row leads, by its phandle: the node, and how many parent cells that one wants
abbrev pub lead_by : ℕ → Result ℕ Rule → Result Lead Rule
lead_by node (Err broken) = Err broken
lead_by node (Ok width) = Ok (record { node = node; width = width })

abbrev pub lead_to : List NodeData → List ℕ → Option ℕ → Result Lead Rule
lead_to nodes space None = Err rule.V20
lead_to nodes space (Some node) = lead_by node (parent_width nodes space node)

-- the row of these child cells, whose parent cells are the first of those behind its phandle
abbrev pub whole_row : List ℕ → List ℕ → Result Lead Rule → Result Row Rule
whole_row child behind (Err broken) = Err broken
whole_row child behind (Ok lead) = if nat_lt (length behind) lead.width then Err rule.V26
    else Ok (record { child = child; node = lead.node; parent = take lead.width behind })

-- the row of these child cells, from its phandle on
abbrev pub row_from : List NodeData → List ℕ → List ℕ → List ℕ → Result Row Rule
row_from nodes space child [] = Err rule.V26
row_from nodes space child (phandle ∷ behind) =
    whole_row child behind (lead_to nodes space (position (has_phandle phandle) nodes))

-- the row with which cells begin: so many child cells, a phandle, and as many parent cells as its node says. Or the
-- first rule that the row breaks: V26 where the child cells or the phandle aren't there, V20 where no node has the
-- phandle, V21 or V32 where the node doesn't say how many parent cells there are, V26 where these aren't there
abbrev pub first_row : List NodeData → List ℕ → ℕ → List ℕ → Result Row Rule
first_row nodes space width cells = row_from nodes space (take width cells) (drop width cells)

-- All rows

-- a row, and more after it; after one that is at fault no more are read
abbrev pub and_more : Result Row Rule → (Row → List (Result Row Rule)) → List (Result Row Rule)
and_more (Ok row) more = Ok row ∷ more row
and_more (Err broken) more = Err broken ∷ []

-- after so many cells a row begins. A rest of 1 to 3 bytes at the end is a row that isn't whole
abbrev pub rows_after : List NodeData → List ℕ → ℕ → Bool → ℕ → List ℕ → List (Result Row Rule)
rows_after nodes space width rest skip [] = if rest then Err rule.V26 ∷ [] else []
rows_after nodes space width rest zero (c ∷ cs) = and_more (first_row nodes space width (c ∷ cs))
    (λ row. rows_after nodes space width rest (width + length row.parent) cs)
rows_after nodes space width rest (suc skip) (c ∷ cs) = rows_after nodes space width rest skip cs

-- so many bytes aren't whole cells
abbrev pub has_rest : ℕ → Bool
has_rest bytes = nat_lt 0 (bytes % 4)

-- the rows of a map for specifiers of so many cells, each a row or the rule that it breaks
abbrev pub rows_of : List NodeData → List ℕ → ℕ → List Part → List (Result Row Rule)
rows_of nodes space width map = rows_after nodes space width (has_rest (length (bytes_of map))) 0 (value_cells map)

-- The row that is taken

-- two lists of cells are the same
abbrev pub are_same : List ℕ → List ℕ → Bool
are_same = pointwise nat_eq

-- the first row whose child cells are these. Or the first rule that is broken before one is met: that of a row at
-- fault, or V27 where the rows end
abbrev pub taken : List ℕ → List (Result Row Rule) → Result Row Rule
taken cells [] = Err rule.V27
taken cells (Err broken ∷ rows) = Err broken
taken cells (Ok row ∷ rows) = if are_same row.child cells then Ok row else taken cells rows
