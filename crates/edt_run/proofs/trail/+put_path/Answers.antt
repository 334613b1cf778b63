use Rattle.std.proofs.Common.{ap}
use Rattle.edt_run.specs.Trail.{path_of}
use Rattle.edt_base.proofs.Puts.{put_then, put_stops, not_done, failed}
use Rattle.edt_run.proofs.trail.+put_path.Goals as goal

pub returns-in_err-put_path-in-Below : goal.returns-in_err-put_path-in-Below
returns-in_err-put_path-in-Below g t c =
    rw (ap path_of c.in-Below.is) (not_done _ _ _ _ _ _ (failed c.from_residual.result c.from_residual.ensures.0)
    (put_stops (g.S.Sink.seen c.args.out.now) (g.S.Sink.seen c.put_path.new.out) _ _ _ _ _ c.in_err-put_path-in-Below.ensures))

pub returns-in_err-put-in-Below : goal.returns-in_err-put-in-Below
returns-in_err-put-in-Below g t c =
    rw (ap path_of c.in-Below.is) (not_done _ _ _ _ _ _ (failed c.from_residual-in_err-put-in-Below.result c.from_residual-in_err-put-in-Below.ensures.0)
    (put_then _ (g.S.Sink.seen c.put_path.new.out) _ _ _ _ _ _ _ c.in_ok-put_path-in-Below.ensures
    (put_stops _ (g.S.Sink.seen c.put.new.out) _ _ _ _ _ c.in_err-put-in-Below.ensures)))

pub returns-in_err-put-in-Below-2 : goal.returns-in_err-put-in-Below-2
returns-in_err-put-in-Below-2 g t c =
    rw (ap path_of c.in-Below.is, ← c.as_bytes.ensures.value)
    (not_done _ _ _ _ _ _ (failed c.from_residual-in_err-put-in-Below-2.result c.from_residual-in_err-put-in-Below-2.ensures.0)
    (put_then _ (g.S.Sink.seen c.put_path.new.out) _ _ _ _ _ _ _ c.in_ok-put_path-in-Below.ensures
    (put_then _ (g.S.Sink.seen c.put.new.out) _ _ _ _ _ _ _ c.in_ok-put-in-Below.ensures c.in_err-put-in-Below-2.ensures)))

pub returns-in_ok-put-in-Below-2 : goal.returns-in_ok-put-in-Below-2
returns-in_ok-put-in-Below-2 g t c =
    rw (ap path_of c.in-Below.is, ← c.as_bytes.ensures.value)
    (put_then _ (g.S.Sink.seen c.put_path.new.out) _ _ _ _ _ _ _ c.in_ok-put_path-in-Below.ensures
    (put_then _ (g.S.Sink.seen c.put.new.out) _ _ _ _ _ _ _ c.in_ok-put-in-Below.ensures c.in_ok-put-in-Below-2.ensures))
