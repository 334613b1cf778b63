use Rattle.std.proofs.Common.{◌≡◌, ◌<◌, All, length}
use Rattle.pha_nexus.specs.Passing.{Hop}
use Rattle.irq_map.proofs.WrittenLaws.{joined, written_left}
use Rattle.irq_map.proofs.written.extended_from.Given as goal

abbrev pub invariant-loop-phandle : goal.invariant-loop-phandle
invariant-loop-phandle l = (joined l.read.items (written_left l.t.nodes l.rest l.left) ≡ written_left l.t.nodes l.rest l.cells)
    × All (λ (s : Hop). s.node < length l.t.nodes) l.read.items

abbrev pub decreases-loop-phandle : goal.decreases-loop-phandle
decreases-loop-phandle l = length l.left
