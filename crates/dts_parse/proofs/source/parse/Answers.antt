use Rattle.dts_parse.proofs.RiseLaws.{script_nested}
use Rattle.dts_parse.proofs.source.parse.Goals as goal

pub invariant_of-result : goal.invariant_of-result
invariant_of-result c = script_nested c.args.src.now c.args.base c.in-Ok.stmts.items c.in-Ok.ensures.answer.found
