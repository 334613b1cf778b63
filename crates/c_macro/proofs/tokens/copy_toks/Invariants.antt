use Rattle.std.proofs.Common.{◌≡◌, take}
use Rattle.c_macro.proofs.tokens.copy_toks.Given as goal

abbrev pub invariant-loop-tok : goal.invariant-loop-tok
invariant-loop-tok l = l.copy.items ≡ take l.tok-index l.toks
