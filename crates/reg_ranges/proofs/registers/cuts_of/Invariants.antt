use Rattle.std.proofs.Common.{◌≡◌, ◌+◌, ◌++◌, length}
use Rattle.edt_base.specs.Cells.{cells_of}
use Rattle.reg_ranges.specs.Cutting.{entries}
use Rattle.reg_ranges.specs.Registers.{first_cut}
use Rattle.reg_ranges.proofs.registers.cuts_of.Given as goal

abbrev pub invariant-loop-cells : goal.invariant-loop-cells
invariant-loop-cells l = l.cuts.items ++ entries (first_cut l.address l.size) (l.address + l.size) (cells_of l.cells)
    ≡ entries (first_cut l.address l.size) (l.address + l.size) (cells_of l.initial.cells)

abbrev pub decreases-loop-cells : goal.decreases-loop-cells
decreases-loop-cells l = length (cells_of l.cells)
