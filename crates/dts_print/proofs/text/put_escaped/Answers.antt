use Rattle.std.proofs.Common.{refl}
use Rattle.dts_print.specs.Printed.{escaped}
use Rattle.edt_base.proofs.Puts.{not_done, failed}
use Rattle.dts_print.proofs.Runs.{one_more, one_fails}
use Rattle.dts_print.proofs.text.put_escaped.Goals as goal

pub returns-in_err-put_escaped_byte : goal.returns-in_err-put_escaped_byte
returns-in_err-put_escaped_byte g c =
    not_done _ _ _ _ _ _ (failed c.from_residual.result c.from_residual.ensures.0)
    (one_fails escaped _ _ 0 _ (g.S.Sink.seen c.args.out.now) (g.S.Sink.seen c.loop-byte.out) (g.S.Sink.seen c.put_escaped_byte.new.out) _ _ _
    c.loop-byte-test.true refl c.loop-byte.invariant c.in_err-put_escaped_byte.ensures)

pub loop-byte-preserved : goal.loop-byte-preserved
loop-byte-preserved g c =
    one_more escaped _ _ 0 _ (g.S.Sink.seen c.args.out.now) (g.S.Sink.seen c.loop-byte.out) (g.S.Sink.seen c.put_escaped_byte.new.out) _ _ _
    c.loop-byte-test.true refl c.loop-byte.invariant c.in_ok-put_escaped_byte.ensures
