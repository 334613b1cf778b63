use Rattle.std.proofs.Common.{◌≡◌, ◌*◌, ◌&&◌, drop, length, take}
use Rattle.edt_base.specs.Cells.{cells_of}
use Rattle.pha_nexus.specs.Rows.{are_same}
use Rattle.pha_nexus.proofs.cells.begin_with.Given as goal

abbrev pub invariant-loop-wanted : goal.invariant-loop-wanted
invariant-loop-wanted l = ((l.are_same && are_same (take (length l.left) (cells_of l.cells)) l.left)
    ≡ are_same (take (length l.wanted) (cells_of l.initial.cells)) l.wanted)
    × (drop (4 * length l.left) l.cells ≡ drop (4 * length l.wanted) l.initial.cells)

abbrev pub decreases-loop-wanted : goal.decreases-loop-wanted
decreases-loop-wanted l = length l.left
