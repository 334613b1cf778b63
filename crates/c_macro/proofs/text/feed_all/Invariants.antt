use Rattle.std.proofs.Common.{length}
use Rattle.c_macro.specs.Bodies.{ones}
use Rattle.c_macro.specs.Pending.{marks}
use Rattle.c_macro.specs.Joining.{Feeding}
use Rattle.c_macro.proofs.text.feed_all.Given as goal

abbrev pub invariant-loop-tok : goal.invariant-loop-tok
invariant-loop-tok l = Feeding l.initial.sets l.sets l.initial.joiner l.joiner (ones (marks l.initial.sets l.toks)) l.left

abbrev pub decreases-loop-tok : goal.decreases-loop-tok
decreases-loop-tok l = length l.left
