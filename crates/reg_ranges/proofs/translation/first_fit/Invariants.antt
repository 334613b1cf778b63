use Rattle.std.proofs.Common.{◌≡◌, length}
use Rattle.std.specs.List.{All, find}
use Rattle.edt_base.specs.Cells.{cells_of}
use Rattle.reg_ranges.specs.Cutting.{entries}
use Rattle.reg_ranges.specs.Ranges.{first_range, range_cells}
use Rattle.reg_ranges.specs.Translation.{fits, IsWithin}
use Rattle.reg_ranges.proofs.translation.first_fit.Given as goal

abbrev pub invariant-loop-cells : goal.invariant-loop-cells
invariant-loop-cells l = (find (fits l.address) (entries (first_range l.shape) (range_cells l.shape) (cells_of l.cells))
    ≡ find (fits l.address) (entries (first_range l.shape) (range_cells l.shape) (cells_of l.initial.cells)))
    × All IsWithin (entries (first_range l.shape) (range_cells l.shape) (cells_of l.cells))

abbrev pub decreases-loop-cells : goal.decreases-loop-cells
decreases-loop-cells l = length (cells_of l.cells)
