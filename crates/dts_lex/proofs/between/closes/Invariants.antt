use Rattle.std.proofs.Common.{◌≡◌, length}
use Rattle.dts_lex.specs.Between.{closes}
use Rattle.dts_lex.proofs.between.closes.Given as goal

abbrev pub invariant-loop-behind : goal.invariant-loop-behind
invariant-loop-behind l = closes l.rest ≡ closes l.bytes

abbrev pub decreases-loop-behind : goal.decreases-loop-behind
decreases-loop-behind l = length l.rest
