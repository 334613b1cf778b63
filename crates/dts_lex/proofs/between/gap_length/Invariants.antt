use Rattle.std.proofs.Common.{◌≡◌, ◌+◌, drop}
use Rattle.dts_lex.specs.Between.{gap}
use Rattle.dts_lex.proofs.between.gap_length.Given as goal

abbrev pub invariant-loop-at : goal.invariant-loop-at
invariant-loop-at l = l.at + gap l.state (drop l.at l.bytes) ≡ gap l.fn.start l.bytes
