use Rattle.std.proofs.Common.{◌≡◌, ◌++◌, length}
use Rattle.edt_base.specs.Cells.{cells_of}
use Rattle.pha_nexus.specs.Passing.{shared_bits}
use Rattle.pha_nexus.proofs.passing.shared_bits.Given as goal

abbrev pub invariant-loop-cell : goal.invariant-loop-cell
invariant-loop-cell l = l.shared.items ++ shared_bits l.left (cells_of l.mask) ≡ shared_bits l.spec (cells_of l.initial.mask)

abbrev pub decreases-loop-cell : goal.decreases-loop-cell
decreases-loop-cell l = length l.left
