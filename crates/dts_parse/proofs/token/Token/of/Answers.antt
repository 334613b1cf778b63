use Rattle.dts_parse.proofs.Typed.{signed}
use Rattle.dts_parse.proofs.token.Token.of.Goals as goal

pub invariant_of-result : goal.invariant_of-result
invariant_of-result c = rw c.terminal_of.ensures (signed c.args.span.kind _)
