use Rattle.edt_base.proofs.Puts.{last_flush, if_ok}
use Rattle.head_write.proofs.header.emit_fact.Goals as goal

pub returns : goal.returns
returns g c =
    last_flush (g.S.Sink.seen c.args.out.now) (g.S.Sink.seen c.put_line.new.out) (g.S.Sink.seen c.flush.new.out) _ _ _ _ _
    c.new-block.ensures c.in_ok-put_line.ensures c.flush.ensures.wrote (if_ok c.flush.result c.flush.ensures.emptied)
