use Rattle.std.proofs.Common.{codes, ◌∙◌}
use Rattle.edt_base.proofs.Puts.{put_as, put_then, put_stops, not_done, failed}
use Rattle.dts_print.proofs.node.put_label.Goals as goal

pub returns-in_err-put : goal.returns-in_err-put
returns-in_err-put g c =
    not_done _ _ _ _ _ _ (failed c.from_residual.result c.from_residual.ensures.0)
    (put_stops (g.S.Sink.seen c.args.out.now) (g.S.Sink.seen c.put.new.out) _ _ _ (c.args.label.now) (codes ": ") (put_as _ _ _ _ _ _ _ (c.as_bytes.ensures.value ∙ c.as_str.ensures) c.in_err-put.ensures))

pub returns : goal.returns
returns g c =
    put_then (g.S.Sink.seen c.args.out.now) (g.S.Sink.seen c.put.new.out) _ _ _ _ (c.args.label.now) _ _ (put_as _ _ _ _ _ _ _ (c.as_bytes.ensures.value ∙ c.as_str.ensures) c.in_ok-put.ensures)
    c.put-2.ensures
