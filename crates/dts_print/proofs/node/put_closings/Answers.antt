use Rattle.std.proofs.Common.{◌-◌}
use Rattle.dts_print.specs.Inner.Steps.{closings}
use Rattle.edt_base.proofs.Puts.{not_done, failed}
use Rattle.dts_print.proofs.Runs.{part_more, part_fails, all_put}
use Rattle.dts_print.proofs.Steps.{closings_step, closings_end}
use Rattle.dts_print.proofs.node.put_closings.Goals as goal

pub loop-depth-preserved : goal.loop-depth-preserved
loop-depth-preserved g c =
    part_more (g.S.Sink.seen c.args.out.now) (g.S.Sink.seen c.loop-depth.out) (g.S.Sink.seen c.put_closing.new.out) _ _ _ _ _ _ _ _
    c.loop-depth.invariant.1 (closings_step c.loop-depth.depth c.args.left c.loop-depth-test.true) c.loop-depth.invariant.2 c.in_ok-put_closing.ensures

pub returns-in_err-put_closing : goal.returns-in_err-put_closing
returns-in_err-put_closing g c =
    not_done _ _ _ _ _ _ (failed c.from_residual.result c.from_residual.ensures.0)
    (part_fails (g.S.Sink.seen c.args.out.now) (g.S.Sink.seen c.loop-depth.out) (g.S.Sink.seen c.put_closing.new.out) _ _ _ _ _ _ (closings (c.loop-depth.depth - 1) c.args.left) _
    c.loop-depth.invariant.1 (closings_step c.loop-depth.depth c.args.left c.loop-depth-test.true) c.loop-depth.invariant.2 c.in_err-put_closing.ensures)

pub returns : goal.returns
returns g c =
    all_put (g.S.Sink.seen c.args.out.now) (g.S.Sink.seen c.loop-depth.out) _ _ _ _ _
    c.loop-depth.invariant.1 (closings_end c.loop-depth.depth c.args.left c.loop-depth-test.false) c.loop-depth.invariant.2
