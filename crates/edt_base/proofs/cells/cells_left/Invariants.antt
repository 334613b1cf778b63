use Rattle.std.proofs.Common.{◌≡◌, ◌++◌, length}
use Rattle.edt_base.specs.Cells.{cells_of}
use Rattle.edt_base.proofs.cells.cells_left.Given as goal

abbrev pub invariant-loop-cell : goal.invariant-loop-cell
invariant-loop-cell l = l.read.items ++ cells_of l.cells ≡ cells_of l.initial.cells

abbrev pub decreases-loop-cell : goal.decreases-loop-cell
decreases-loop-cell l = length (cells_of l.cells)
