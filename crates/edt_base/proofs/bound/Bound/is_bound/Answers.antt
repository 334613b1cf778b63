use Rattle.std.proofs.Common.{◌<◌, length, subst}
use Rattle.std.specs.List.{All}
use Rattle.edt_base.specs.BoundData.{BoundData}
use Rattle.edt_base.proofs.OrderLaws.{order_below}
use Rattle.edt_base.proofs.bound.Bound.is_bound.Goals as goal

pub returns-clause-order_below : goal.returns-clause-order_below
returns-clause-order_below c =
    let P : BoundData → Type 0 = λ b. All (λ id. id < length b.nodes) b.order in
    subst P c.self.view_is (order_below _ _ c.self.invariant.0.order)
