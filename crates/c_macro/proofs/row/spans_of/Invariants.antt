use Rattle.std.proofs.Common.{length}
use Rattle.c_macro.specs.Rows.{Spanning}
use Rattle.c_macro.proofs.row.spans_of.Given as goal

abbrev pub invariant-loop-tok : goal.invariant-loop-tok
invariant-loop-tok l = Spanning l.toks l.left l.spans.items l.closers.items

abbrev pub decreases-loop-tok : goal.decreases-loop-tok
decreases-loop-tok l = length l.left
