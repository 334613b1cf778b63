use Rattle.std.proofs.Common.{length}
use Rattle.c_macro.specs.Walking.{Seeking}
use Rattle.c_macro.proofs.row.Row.closing.Given as goal

abbrev pub invariant-loop-left : goal.invariant-loop-left
invariant-loop-left l = Seeking l.self l.left

abbrev pub decreases-loop-left : goal.decreases-loop-left
decreases-loop-left l = length l.left
