use Rattle.std.proofs.Common.{codes, ◌++◌}
use Rattle.edt_base.proofs.Puts.{put_then, put_stops, not_done, failed}
use Rattle.dts_print.proofs.part.put_path.Goals as goal

pub returns-in_err-put : goal.returns-in_err-put
returns-in_err-put g c =
    not_done _ _ _ _ _ _ (failed c.from_residual.result c.from_residual.ensures.0)
    (put_stops (g.S.Sink.seen c.args.out.now) (g.S.Sink.seen c.put.new.out) _ _ _ (codes "&{") (c.args.path.now ++ (codes "}")) c.in_err-put.ensures)

pub returns-in_err-put-2 : goal.returns-in_err-put-2
returns-in_err-put-2 g c =
    not_done _ _ _ _ _ _ (failed c.from_residual-in_err-put-2.result c.from_residual-in_err-put-2.ensures.0)
    (put_then (g.S.Sink.seen c.args.out.now) (g.S.Sink.seen c.put.new.out) _ _ _ _ (codes "&{") _ _ c.in_ok-put.ensures
    (put_stops _ (g.S.Sink.seen c.put-2.new.out) _ _ _ (c.args.path.now) (codes "}") c.in_err-put-2.ensures))

pub returns : goal.returns
returns g c =
    put_then (g.S.Sink.seen c.args.out.now) (g.S.Sink.seen c.put.new.out) _ _ _ _ (codes "&{") _ _ c.in_ok-put.ensures
    (put_then _ (g.S.Sink.seen c.put-2.new.out) _ _ _ _ (c.args.path.now) _ _ c.in_ok-put-2.ensures
    c.put-3.ensures)
