-- How the numbers of interrupts count at an Arm GIC: the shared ones, of type 0, stand behind the 32 of each processor,
-- of which the private ones, of type 1, are the last 16 (Linux 6.6, "arm,gic" binding).
use Rattle.std.specs.Prelude.{◌+◌, ℕ, Bool, true, false, List, [], ◌∷◌, Option, Some, None, Result, Ok, Err, codes, map, nat_eq, if◌then◌else◌}
use Rattle.std.specs.List.{list_any}
use Rattle.std.specs.Str.{bytes_eq}
use Rattle.edt_base.specs.EntryData.{EntryData}
use Rattle.edt_base.specs.NodeData.{NodeData}
use Rattle.edt_base.specs.declared.fault.Rule.{Rule}
use Rattle.edt_base.specs.declared.fault.Rule.TheVariants as rule
use Rattle.pha_nexus.specs.Matching.{compats_at}

-- the node at a place is a GIC
abbrev pub is_gic : List NodeData → ℕ → Bool
is_gic nodes id = list_any (λ compat. bytes_eq compat (codes "arm,gic")) (compats_at nodes id)

-- the first cell of this name
abbrev pub cell_named : List ℕ → List (List ℕ × ℕ) → Option ℕ
cell_named name [] = None
cell_named name (cell ∷ cells) = if bytes_eq cell.0 name then Some cell.1 else cell_named name cells

-- how far the numbers of a type are raised; V35 where there is no such type
abbrev pub rise_of : Option ℕ → Result ℕ Rule
rise_of None = Err rule.V35
rise_of (Some type) = if nat_eq type 0 then Ok 32 else if nat_eq type 1 then Ok 16 else Err rule.V35

-- how far the numbers of these cells are raised: only at a GIC
abbrev pub rise_at : Bool → List (List ℕ × ℕ) → Result ℕ Rule
rise_at false cells = Ok 0
rise_at true cells = rise_of (cell_named (codes "type") cells)

-- a cell that is a number of interrupts is raised
abbrev pub raised : ℕ → List ℕ × ℕ → List ℕ × ℕ
raised rise cell = (cell.0, if bytes_eq cell.0 (codes "irq") then cell.1 + rise else cell.1)

abbrev pub counted_by : EntryData → Result ℕ Rule → Result EntryData Rule
counted_by entry (Err broken) = Err broken
counted_by entry (Ok rise) =
    Ok (record { controller = entry.controller; cells = map (raised rise) entry.cells; name = entry.name })

-- an interrupt with its numbers as the controller counts them
abbrev pub counted : Bool → Result EntryData Rule → Result EntryData Rule
counted gic (Err broken) = Err broken
counted gic (Ok entry) = counted_by entry (rise_at gic entry.cells)
