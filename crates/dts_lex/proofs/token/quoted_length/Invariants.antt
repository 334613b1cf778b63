use Rattle.std.proofs.Common.{◌≡◌, ◌+◌, drop, option_map, false}
use Rattle.dts_lex.specs.Tokens.{quoted}
use Rattle.dts_lex.proofs.token.quoted_length.Given as goal

abbrev pub invariant-loop-at : goal.invariant-loop-at
invariant-loop-at l = option_map (λ n. l.at + n) (quoted l.escaped (drop l.at l.rest)) ≡ quoted false l.rest
