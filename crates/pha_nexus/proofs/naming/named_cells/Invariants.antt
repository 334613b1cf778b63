use Rattle.std.proofs.Common.{◌≡◌, ◌++◌, length, zip}
use Rattle.pha_nexus.proofs.naming.named_cells.Given as goal

abbrev pub invariant-loop-name : goal.invariant-loop-name
invariant-loop-name l = l.named.items ++ zip l.names_left l.cells_left ≡ zip l.names l.cells

abbrev pub decreases-loop-name : goal.decreases-loop-name
decreases-loop-name l = length l.names_left
