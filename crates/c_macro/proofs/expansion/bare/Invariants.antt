use Rattle.std.proofs.Common.{◌≡◌, take, map}
use Rattle.c_macro.proofs.expansion.bare.Given as goal

abbrev pub invariant-loop-pend : goal.invariant-loop-pend
invariant-loop-pend l = l.toks.items ≡ map (λ p. p.tok) (take l.pend-index l.pends)
