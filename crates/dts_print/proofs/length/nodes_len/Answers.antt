use Rattle.std.proofs.Common.{arith, ◌∙◌, ◌-◌, ap}
use Rattle.edt_base.specs.NodeData.{NodeData}
use Rattle.dts_print.specs.Inner.Steps.{depth_of}
use Rattle.dts_print.proofs.Steps.{node_long, end_long}
use Rattle.dts_print.proofs.length.nodes_len.Goals as goal

pub loop-place-preserved : goal.loop-place-preserved
loop-place-preserved c =
    let deep = c.depth_of-depth.ensures.depth ∙ ap (λ (n : NodeData). depth_of c.args.nodes.now n.parent c.loop-place.opened (c.loop-place.place - 1)) c.node.view_is in
    let long = node_long c.args.nodes.now c.loop-place.place c.loop-place.opened c.depth_of-depth.result c.index-nodes-place.result c.loop-place-test.true c.index-nodes-place.is deep in
    (omega arith, omega arith, omega arith)

pub returns : goal.returns
returns c =
    let none = end_long c.args.nodes.now c.loop-place.place c.loop-place.opened c.loop-place-test.false in
    omega arith
