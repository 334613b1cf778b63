use Rattle.edt_base.proofs.Puts.{put_then, put_stops, not_done, failed}
use Rattle.edt_run.proofs.expanding.put_spaced.Goals as goal

pub returns-in_err-put : goal.returns-in_err-put
returns-in_err-put g c =
    not_done _ _ _ _ _ _ (failed c.from_residual.result c.from_residual.ensures.0)
    (put_stops (g.S.Sink.seen c.args.out.now) (g.S.Sink.seen c.put.new.out) _ _ _ _ _ c.in_err-put.ensures)

pub returns-in_err-put_spelling : goal.returns-in_err-put_spelling
returns-in_err-put_spelling g c =
    not_done _ _ _ _ _ _ (failed c.from_residual-in_err-put_spelling.result c.from_residual-in_err-put_spelling.ensures.0)
    (put_then _ (g.S.Sink.seen c.put.new.out) _ _ _ _ _ _ _ c.in_ok-put.ensures c.in_err-put_spelling.ensures)

pub returns : goal.returns
returns g c = put_then _ (g.S.Sink.seen c.put.new.out) _ _ _ _ _ _ _ c.in_ok-put.ensures c.in_ok-put_spelling.ensures
