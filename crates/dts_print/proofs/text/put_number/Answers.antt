use Rattle.std.proofs.Common.{codes, false}
use Rattle.std.specs.Fmt.{digits}
use Rattle.dts_print.specs.Printed.{number_text}
use Rattle.edt_base.proofs.Puts.{put_then, put_stops, not_done, failed}
use Rattle.dts_print.proofs.text.put_number.Goals as goal

pub returns-in_err-put : goal.returns-in_err-put
unfolding number_text
returns-in_err-put g c =
    not_done _ _ _ _ _ _ (failed c.from_residual.result c.from_residual.ensures.0)
    (put_stops (g.S.Sink.seen c.args.out.now) (g.S.Sink.seen c.put.new.out) _ _ _ (codes "0x") (digits 16 false c.args.n) c.in_err-put.ensures)

pub returns : goal.returns
unfolding number_text
returns g c =
    put_then (g.S.Sink.seen c.args.out.now) (g.S.Sink.seen c.put.new.out) _ _ _ _ (codes "0x") _ _ c.in_ok-put.ensures
    c.put_digits.ensures
