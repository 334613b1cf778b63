use Rattle.dts_parse.proofs.TextLaws.{next_escape}
use Rattle.dts_parse.proofs.texts.next_byte.Goals as goal

pub returns-then-first-eq92-clause-next : goal.returns-then-first-eq92-clause-next
returns-then-first-eq92-clause-next c =
    next_escape c.args.first c.escape_size.result c.escaped.result c.args.behind.now c.split_at.result.1.now c.if-first-eq92.true c.escape_size.ensures.size c.split_at.ensures.back c.escaped.ensures
