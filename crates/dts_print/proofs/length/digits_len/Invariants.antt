use Rattle.std.proofs.Common.{◌≡◌, ◌+◌, ◌≤◌, ◌<◌, ◌^◌, false, length}
use Rattle.std.specs.Fmt.{digits}
use Rattle.dts_print.proofs.length.digits_len.Given as goal

abbrev pub invariant-loop-left : goal.invariant-loop-left
invariant-loop-left l =
    (l.left < 2 ^ 32) × (l.len + l.left ≤ l.n + 1) × (l.len + length (digits 16 false l.left) ≡ length (digits 16 false l.n) + 1)

abbrev pub decreases-loop-left : goal.decreases-loop-left
decreases-loop-left l = l.left
