use Rattle.dts_print.specs.Inner.Steps.{closings, head_text}
use Rattle.edt_base.proofs.Puts.{put_then, put_stops, not_done, failed}
use Rattle.dts_print.proofs.source.put_next.Goals as goal

pub returns-in_err-put_closings : goal.returns-in_err-put_closings
returns-in_err-put_closings g c =
    not_done _ _ _ _ _ _ (failed c.from_residual.result c.from_residual.ensures.0)
    (put_stops (g.S.Sink.seen c.args.out.now) (g.S.Sink.seen c.put_closings.new.out) _ _ _ (closings c.args.opened c.args.depth) (head_text c.args.depth c.args.node.now) c.in_err-put_closings.ensures)

pub returns : goal.returns
returns g c =
    put_then (g.S.Sink.seen c.args.out.now) (g.S.Sink.seen c.put_closings.new.out) _ _ _ _ (closings c.args.opened c.args.depth) _ _ c.in_ok-put_closings.ensures
    c.put_head.ensures
