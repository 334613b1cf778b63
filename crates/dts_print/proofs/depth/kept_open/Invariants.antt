use Rattle.std.proofs.Common.{◌≡◌, ◌≤◌}
use Rattle.dts_print.specs.Inner.Steps.{kept_open}
use Rattle.dts_print.proofs.depth.kept_open.Given as goal

abbrev pub invariant-loop-left : goal.invariant-loop-left
invariant-loop-left l =
    (l.left ≤ l.opened) × (kept_open l.nodes l.parent l.left l.at ≡ kept_open l.nodes l.parent l.opened l.innermost)

abbrev pub decreases-loop-left : goal.decreases-loop-left
decreases-loop-left l = l.left
