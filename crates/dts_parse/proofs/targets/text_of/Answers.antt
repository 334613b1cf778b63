use Rattle.dts_parse.proofs.AsciiLaws.{is_text}
use Rattle.dts_parse.proofs.targets.text_of.Goals as goal

pub unreachable-requires : goal.unreachable-requires
unreachable-requires c = c.in-Err.ensures.cases.0 (is_text c.args.bytes.now c.requires)
