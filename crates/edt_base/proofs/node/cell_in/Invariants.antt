use Rattle.std.proofs.Common.{◌≡◌, ◌≤◌, ℕ, List, Option, None, ◌++◌, cond, length, take, drop}
use Rattle.std.specs.List.{list_all}
use Rattle.edt_base.specs.Cells.{cell_of}
use Rattle.edt_base.specs.NodeData.{one_cell, bytes_of, is_cells}
use Rattle.edt_base.specs.declared.node.Part.{Part}
use Rattle.edt_base.proofs.node.cell_in.Given as goal

-- the one cell of bytes that were read and of the parts that are left
abbrev pub cell_with : List ℕ → List Part → Option ℕ
cell_with before parts = cond (list_all (λ (p : Part). is_cells p.kind) parts) (cell_of (before ++ bytes_of parts)) None

abbrev pub invariant-loop-part : goal.invariant-loop-part
invariant-loop-part l = (l.filled ≤ 4) × (length l.cell ≡ 4) × (cell_with (take l.filled l.cell) (drop l.part-index l.parts) ≡ one_cell l.parts)
