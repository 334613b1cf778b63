use Rattle.std.proofs.Common.{length}
use Rattle.c_macro.specs.Walking.{Gathering}
use Rattle.c_macro.proofs.row.Pending.gather.Given as goal

abbrev pub invariant-loop-toks : goal.invariant-loop-toks
invariant-loop-toks l = Gathering l.initial.self l.self l.toks.items l.deep

abbrev pub decreases-loop-toks : goal.decreases-loop-toks
decreases-loop-toks l = length l.self
