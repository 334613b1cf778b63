use Rattle.std.proofs.Common.{◌≡◌, take, map}
use Rattle.c_macro.specs.Worklist.{pend_of}
use Rattle.c_macro.proofs.expansion.pending.Given as goal

abbrev pub invariant-loop-tok : goal.invariant-loop-tok
invariant-loop-tok l = l.pends.items ≡ map pend_of (take l.tok-index l.toks)
