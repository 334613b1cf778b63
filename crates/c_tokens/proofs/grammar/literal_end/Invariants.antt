use Rattle.std.proofs.Common.{◌≡◌, ◌+◌, drop, option_map, false}
use Rattle.c_tokens.specs.Grammar.{literal_end}
use Rattle.c_tokens.proofs.grammar.literal_end.Given as goal

abbrev pub invariant-loop-at : goal.invariant-loop-at
invariant-loop-at l = option_map (λ n. l.at + n) (literal_end l.quote l.escaped (drop l.at l.bytes)) ≡ literal_end l.quote false l.bytes
