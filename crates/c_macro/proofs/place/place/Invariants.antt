use Rattle.std.proofs.Common.{length}
use Rattle.c_macro.specs.Placing.{Placing}
use Rattle.c_macro.proofs.place.place.Given as goal

abbrev pub invariant-loop-tok : goal.invariant-loop-tok
invariant-loop-tok l = Placing l.initial.sets l.sets l.bars l.spaced l.initial.pend l.pend l.initial.toks.items l.toks.items

abbrev pub decreases-loop-tok : goal.decreases-loop-tok
decreases-loop-tok l = length l.toks.items
