-- How a specifier passes a nexus node: its mask, the row that is taken, its pass-through (Devicetree Specification
-- v0.4, 2.5.1).
use Rattle.std.specs.Prelude.{◌-◌, ◌*◌, ◌^◌, ◌++◌, ◌&&◌, ℕ, Bool, true, List, [], ◌∷◌, Option, Some, None, Result, Ok, Err, bit_and, bit_or, drop, length, nat_eq, take, if◌then◌else◌}
use Rattle.edt_base.specs.NodeData.{NodeData, bytes_of}
use Rattle.edt_base.specs.Values.{value_cells}
use Rattle.edt_base.specs.declared.fault.Rule.{Rule}
use Rattle.edt_base.specs.declared.fault.Rule.TheVariants as rule
use Rattle.edt_base.specs.declared.node.Part.{Part}
use Rattle.pha_nexus.specs.Rows.{Row, rows_of, taken}
use Rattle.pha_nexus.specs.Space.{mask_at, pass_at}

-- a mask or a pass-through is there and isn't as long as the specifier, or isn't there
abbrev pub is_as_long : List ℕ → Option (List Part) → Bool
is_as_long spec None = true
is_as_long spec (Some value) = nat_eq (length (bytes_of value)) (4 * length spec)

-- The mask

-- the bits that two lists of cells share
abbrev pub shared_bits : List ℕ → List ℕ → List ℕ
shared_bits (c ∷ cs) (m ∷ ms) = bit_and c m ∷ shared_bits cs ms
shared_bits _ _ = []

-- the masked specifier; without a mask it is the specifier
abbrev pub masked : List ℕ → Option (List Part) → List ℕ
masked spec None = spec
masked spec (Some mask) = shared_bits spec (value_cells mask)

-- The pass-through

-- a cell that has the first one's bits where the pass-through has ones, else the other's
abbrev pub chosen_bits : ℕ → ℕ → ℕ → ℕ
chosen_bits own pass other = bit_or (bit_and own pass) (bit_and other (2 ^ 32 - 1 - pass))

-- the same, cell by cell
abbrev pub blended : List ℕ → List ℕ → List ℕ → List ℕ
blended (s ∷ ss) (p ∷ ps) (c ∷ cs) = chosen_bits s p c ∷ blended ss ps cs
blended _ _ _ = []

-- the last so many of a list
abbrev pub last_of : ℕ → List ℕ → List ℕ
last_of count cells = drop (length cells - count) cells

-- the three aligned at the right end: of a longer specifier the cells on the left are cut off, more parent cells on the
-- left stay as they are
abbrev pub aligned : List ℕ → List ℕ → List ℕ → List ℕ
aligned spec pass parent = take (length parent - length pass) parent
    ++ blended (last_of (length parent) spec) (last_of (length parent) pass) (last_of (length pass) parent)

-- the specifier that goes on, by the parent cells of the row that is taken
abbrev pub sent : List ℕ → Option (List Part) → List ℕ → List ℕ
sent spec None parent = parent
sent spec (Some pass) parent = aligned spec (value_cells pass) parent

-- One step

-- where a specifier goes on, and as what
pub record Hop : Type 0 where
  pub node : ℕ
  pub spec : List ℕ

abbrev pub hop_by : List ℕ → Option (List Part) → Result Row Rule → Result Hop Rule
hop_by spec pass (Err broken) = Err broken
hop_by spec pass (Ok row) = Ok (record { node = row.node; spec = sent spec pass row.parent })

-- through a map, a mask and a pass-through; V28 where one of the two is of another length than the specifier
abbrev pub passed : List NodeData → List ℕ → List ℕ → List Part → Option (List Part) → Option (List Part)
    → Result Hop Rule
passed nodes space spec map mask pass = if is_as_long spec mask && is_as_long spec pass
    then hop_by spec pass (taken (masked spec mask) (rows_of nodes space (length spec) map))
    else Err rule.V28

-- through the map of the node at a place
abbrev pub passed_at : List NodeData → List ℕ → ℕ → List ℕ → List Part → Result Hop Rule
passed_at nodes space at spec map = passed nodes space spec map (mask_at nodes space at) (pass_at nodes space at)
