use Rattle.std.proofs.Common.{◌≡◌, ◌<◌, ◌++◌, All, length}
use Rattle.pha_nexus.specs.Passing.{Hop}
use Rattle.reg_ranges.specs.Cutting.{entries}
use Rattle.irq_map.specs.Written.{first_at}
use Rattle.irq_map.proofs.written.specifiers.Given as goal

abbrev pub invariant-loop-left : goal.invariant-loop-left
invariant-loop-left l = (0 < length l.left → 0 < l.width)
    × (l.specs.items ++ entries (first_at l.node l.width) l.width l.left ≡ entries (first_at l.node l.width) l.width l.cells)
    × All (λ (s : Hop). s.node < length l.t.nodes) l.specs.items

abbrev pub decreases-loop-left : goal.decreases-loop-left
decreases-loop-left l = length l.left
