use Rattle.std.proofs.Common.{subst}
use Rattle.edt_base.specs.NodeData.{NodeData}
use Rattle.edt_base.specs.Inner.PropOrder.{IsPropOrder}
use Rattle.edt_base.proofs.PropOrderLemmas.{zip_more}
use Rattle.edt_base.proofs.index.prop_orders.Goals as goal

pub loop-node-preserved : goal.loop-node-preserved
loop-node-preserved c = rw c.in_ok-push.ensures.items
    (zip_more (λ (n : NodeData) places. IsPropOrder n.props places) c.args.nodes.now c.loop-node.orders.items c.loop-node.node-index c.node-item.result c.in_ok-new.field-0
    c.loop-node-test.true c.node-item.is c.loop-node.invariant (subst (λ (n : NodeData). IsPropOrder n.props c.in_ok-new.field-0) c.node.view_is c.in_ok-new.ensures))
