use Rattle.dts_print.specs.Printed.{label_text}
use Rattle.edt_base.proofs.Puts.{not_done, failed}
use Rattle.dts_print.proofs.Runs.{one_more, one_fails}
use Rattle.dts_print.proofs.node.put_labels.Goals as goal

pub returns-in_err-put_label : goal.returns-in_err-put_label
returns-in_err-put_label g c =
    not_done _ _ _ _ _ _ (failed c.from_residual.result c.from_residual.ensures.0)
    (one_fails label_text _ _ c.label-item.result c.label-item.result (g.S.Sink.seen c.args.out.now) (g.S.Sink.seen c.loop-label.out) (g.S.Sink.seen c.put_label.new.out) _ _ _
    c.loop-label-test.true c.label-item.is c.loop-label.invariant c.in_err-put_label.ensures)

pub loop-label-preserved : goal.loop-label-preserved
loop-label-preserved g c =
    one_more label_text _ _ c.label-item.result c.label-item.result (g.S.Sink.seen c.args.out.now) (g.S.Sink.seen c.loop-label.out) (g.S.Sink.seen c.put_label.new.out) _ _ _
    c.loop-label-test.true c.label-item.is c.loop-label.invariant c.in_ok-put_label.ensures
