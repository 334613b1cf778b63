use Rattle.std.proofs.Common.{◌≡◌, length}
use Rattle.pha_nexus.specs.Inner.Reading.{rows_left}
use Rattle.pha_nexus.specs.Rows.{rows_of, taken}
use Rattle.pha_nexus.proofs.rows.taken_row.Given as goal

abbrev pub invariant-loop-cells : goal.invariant-loop-cells
invariant-loop-cells l = taken l.child (rows_left l.t.nodes l.space (length l.child) l.cells)
    ≡ taken l.child (rows_of l.t.nodes l.space (length l.child) l.map)

abbrev pub decreases-loop-cells : goal.decreases-loop-cells
decreases-loop-cells l = length l.cells
