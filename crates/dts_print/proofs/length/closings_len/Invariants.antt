use Rattle.std.proofs.Common.{◌≡◌, ◌+◌, ◌-◌, ◌^◌, ◌<◌, length, min}
use Rattle.dts_print.specs.Inner.Steps.{closings}
use Rattle.dts_print.proofs.length.closings_len.Given as goal

abbrev pub invariant-loop-depth : goal.invariant-loop-depth
invariant-loop-depth l =
    (l.len < 2 ^ 64) × (min (l.len + length (closings l.depth l.left)) (2 ^ 64 - 1) ≡ min (length (closings l.opened l.left)) (2 ^ 64 - 1))

abbrev pub decreases-loop-depth : goal.decreases-loop-depth
decreases-loop-depth l = l.depth
