use Rattle.std.proofs.Common.{◌∙◌, ◌+◌, ◌-◌, ◌++◌, ap, arith, drop, sym}
use Rattle.edt_base.specs.NodeData.{NodeData}
use Rattle.edt_base.proofs.Puts.{put_then, put_as, not_done, failed}
use Rattle.dts_print.specs.Inner.Steps.{closings, depth_of, head_text, text_from}
use Rattle.dts_print.proofs.Runs.{part_more, part_fails}
use Rattle.dts_print.proofs.Steps.{node_step, node_end}
use Rattle.dts_print.proofs.source.put_nodes.Goals as goal

pub loop-place-preserved : goal.loop-place-preserved
loop-place-preserved g c =
    let deep = c.depth_of-depth.ensures.depth ∙ ap (λ (n : NodeData). depth_of c.args.nodes.now n.parent c.loop-place.opened (c.loop-place.place - 1)) c.node.view_is in
    let more = part_more (g.S.Sink.seen c.args.out.now) (g.S.Sink.seen c.loop-place.out) (g.S.Sink.seen c.put_next.new.out) c.args.block.now c.loop-place.block c.put_next.new.block c.loop-place.invariant.1
    (closings c.loop-place.opened c.depth_of-depth.result ++ head_text c.depth_of-depth.result c.index-nodes-place.result)
    (text_from c.args.nodes.now c.loop-place.place c.loop-place.opened (drop c.loop-place.place c.args.nodes.now))
    (text_from c.args.nodes.now (c.loop-place.place + 1) (c.depth_of-depth.result + 1) (drop (c.loop-place.place + 1) c.args.nodes.now))
    (text_from c.args.nodes.now 0 0 c.args.nodes.now)
    c.loop-place.invariant.2 (node_step c.args.nodes.now c.loop-place.place c.loop-place.opened c.depth_of-depth.result c.index-nodes-place.result c.loop-place-test.true c.index-nodes-place.is deep)
    c.loop-place.invariant.3 c.in_ok-put_next.ensures in
    (omega arith, more.0, more.1, more.2)

pub returns-in_err-put_next : goal.returns-in_err-put_next
returns-in_err-put_next g c =
    let deep = c.depth_of-depth.ensures.depth ∙ ap (λ (n : NodeData). depth_of c.args.nodes.now n.parent c.loop-place.opened (c.loop-place.place - 1)) c.node.view_is in
    not_done _ _ _ _ _ _ (failed c.from_residual.result c.from_residual.ensures.0)
    (part_fails (g.S.Sink.seen c.args.out.now) (g.S.Sink.seen c.loop-place.out) (g.S.Sink.seen c.put_next.new.out) _ _ _ c.loop-place.invariant.1
    (closings c.loop-place.opened c.depth_of-depth.result ++ head_text c.depth_of-depth.result c.index-nodes-place.result) _
    (text_from c.args.nodes.now (c.loop-place.place + 1) (c.depth_of-depth.result + 1) (drop (c.loop-place.place + 1) c.args.nodes.now)) _
    c.loop-place.invariant.2 (node_step c.args.nodes.now c.loop-place.place c.loop-place.opened c.depth_of-depth.result c.index-nodes-place.result c.loop-place-test.true c.index-nodes-place.is deep)
    c.loop-place.invariant.3 c.in_err-put_next.ensures)

pub returns : goal.returns
returns g c =
    put_as _ _ _ _ _ _ _ c.loop-place.invariant.2
    (put_then (g.S.Sink.seen c.args.out.now) (g.S.Sink.seen c.loop-place.out) _ _ _ _ c.loop-place.invariant.1 _ _ c.loop-place.invariant.3
    (put_as _ _ _ _ _ _ _ (sym (node_end c.args.nodes.now c.loop-place.place c.loop-place.opened c.loop-place-test.false)) c.put_closings.ensures))
