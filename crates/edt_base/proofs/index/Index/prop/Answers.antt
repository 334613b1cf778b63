use Rattle.std.proofs.Common.{refl}
use Rattle.std.proofs.Common.{◌∙◌, ap, sym, subst, option_and_then}
use Rattle.edt_base.specs.NodeData.{NodeData, prop_of}
use Rattle.edt_base.specs.Inner.PropOrder.{IsPropOrder}
use Rattle.edt_base.proofs.PropOrderLemmas.{zip_at, zip_none}
use Rattle.edt_base.proofs.index.Index.prop.Goals as goal

pub find-requires : goal.find-requires
find-requires c =
    subst (λ (n : NodeData). IsPropOrder n.props c.in_ok-order.order.now) (sym c.node.view_is)
    (zip_at (λ (n : NodeData) places. IsPropOrder n.props places) c.args.nodes.now c.args.self.now.props c.args.id c.in_ok-node.node.now c.in_ok-order.order.now c.requires.props c.in_ok-node.ensures c.in_ok-order.ensures)

pub returns-in_err-order : goal.returns-in_err-order
returns-in_err-order c = rw (c.from_residual-in_err-order.ensures, zip_none (λ (n : NodeData) places. IsPropOrder n.props places) c.args.nodes.now c.args.self.now.props c.args.id c.requires.props c.in_err-order.ensures) refl

pub returns : goal.returns
returns c = c.find.ensures
    ∙ ap (λ (n : NodeData). prop_of c.args.name.now n.props) c.node.view_is
    ∙ ap (option_and_then (λ (n : NodeData). prop_of c.args.name.now n.props)) c.in_ok-node.ensures
