use Rattle.std.proofs.Common.{codes, ◌++◌}
use Rattle.dts_print.specs.Printed.{part_text}
use Rattle.edt_base.proofs.Puts.{not_done, failed}
use Rattle.dts_print.proofs.Runs.{one_more, one_fails}
use Rattle.dts_print.proofs.node.put_further_parts.Goals as goal

pub returns-in_err-put_further_part : goal.returns-in_err-put_further_part
returns-in_err-put_further_part g c =
    not_done _ _ _ _ _ _ (failed c.from_residual.result c.from_residual.ensures.0)
    (one_fails (λ p. codes ", " ++ part_text p) _ _ c.part-item.result c.part-item.result (g.S.Sink.seen c.args.out.now) (g.S.Sink.seen c.loop-part.out) (g.S.Sink.seen c.put_further_part.new.out) _ _ _
    c.loop-part-test.true c.part-item.is c.loop-part.invariant c.in_err-put_further_part.ensures)

pub loop-part-preserved : goal.loop-part-preserved
loop-part-preserved g c =
    one_more (λ p. codes ", " ++ part_text p) _ _ c.part-item.result c.part-item.result (g.S.Sink.seen c.args.out.now) (g.S.Sink.seen c.loop-part.out) (g.S.Sink.seen c.put_further_part.new.out) _ _ _
    c.loop-part-test.true c.part-item.is c.loop-part.invariant c.in_ok-put_further_part.ensures
