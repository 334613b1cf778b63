-- The rows of a map, over the bytes that are left of it.
use Rattle.std.specs.Prelude.{ℕ, List, Result, Ok, Err, length, nat_lt, take, if◌then◌else◌}
use Rattle.edt_base.specs.Cells.{cells_of}
use Rattle.edt_base.specs.NodeData.{NodeData}
use Rattle.edt_base.specs.declared.fault.Rule.{Rule}
use Rattle.edt_base.specs.declared.fault.Rule.TheVariants as rule
use Rattle.pha_nexus.specs.Rows.{Row, has_rest, rows_after}

-- the parent cells of a row, of those behind its phandle
abbrev pub parent_cells : ℕ → List ℕ → Result (List ℕ) Rule
parent_cells width behind = if nat_lt (length behind) width then Err rule.V26 else Ok (take width behind)

-- the rows from here on
abbrev pub rows_left : List NodeData → List ℕ → ℕ → List ℕ → List (Result Row Rule)
rows_left nodes space width bytes = rows_after nodes space width (has_rest (length bytes)) 0 (cells_of bytes)
