use Rattle.std.proofs.Common.{sym}
use Rattle.dep_order.proofs.Turning.{same_within}
use Rattle.rows.proofs.orders.shown.Goals as goal

pub order-requires-clause-within : goal.order-requires-clause-within
order-requires-clause-within c = same_within c.as_slice.result.now c.args.needs.now.items (sym c.as_slice.ensures.value)
    (c.are_within.ensures c.if-not-are_within.false)
