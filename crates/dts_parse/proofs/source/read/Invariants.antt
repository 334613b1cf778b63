use Rattle.std.proofs.Common.{length}
use Rattle.dts_parse.specs.Inner.Outcome.{IsSoFar}
use Rattle.dts_parse.specs.Inner.Shown.{shown}
use Rattle.dts_parse.proofs.source.read.Given as goal

abbrev pub invariant-tokens : goal.invariant-tokens
invariant-tokens l = IsSoFar l.src l.base l.lexer (shown l.parser)

abbrev pub decreases-tokens : goal.decreases-tokens
decreases-tokens l = length l.lexer.bytes
