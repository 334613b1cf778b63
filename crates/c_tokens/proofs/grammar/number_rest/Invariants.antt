use Rattle.std.proofs.Common.{◌≡◌, ◌+◌, drop, false}
use Rattle.c_tokens.specs.Grammar.{number_rest}
use Rattle.c_tokens.proofs.grammar.number_rest.Given as goal

abbrev pub invariant-loop-at : goal.invariant-loop-at
invariant-loop-at l = l.at + number_rest l.exponent (drop l.at l.bytes) ≡ number_rest false l.bytes
