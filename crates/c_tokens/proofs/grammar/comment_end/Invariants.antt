use Rattle.std.proofs.Common.{◌≡◌, ◌+◌, drop, option_map, false}
use Rattle.c_tokens.specs.Grammar.{comment_end}
use Rattle.c_tokens.proofs.grammar.comment_end.Given as goal

abbrev pub invariant-loop-at : goal.invariant-loop-at
invariant-loop-at l = option_map (λ n. l.at + n) (comment_end l.star (drop l.at l.bytes)) ≡ comment_end false l.bytes
