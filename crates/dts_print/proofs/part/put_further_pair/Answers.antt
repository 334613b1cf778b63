use Rattle.std.proofs.Common.{codes}
use Rattle.dts_print.specs.Printed.{pair_text}
use Rattle.edt_base.proofs.Puts.{put_then, put_stops, not_done, failed}
use Rattle.dts_print.proofs.part.put_further_pair.Goals as goal

pub returns-in_err-put : goal.returns-in_err-put
returns-in_err-put g c =
    not_done _ _ _ _ _ _ (failed c.from_residual.result c.from_residual.ensures.0)
    (put_stops (g.S.Sink.seen c.args.out.now) (g.S.Sink.seen c.put.new.out) _ _ _ (codes " ") (pair_text c.args.byte) c.in_err-put.ensures)

pub returns : goal.returns
returns g c =
    put_then (g.S.Sink.seen c.args.out.now) (g.S.Sink.seen c.put.new.out) _ _ _ _ (codes " ") _ _ c.in_ok-put.ensures
    c.put_pair.ensures
