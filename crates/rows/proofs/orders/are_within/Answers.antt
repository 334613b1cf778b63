use Rattle.std.proofs.Common.{length, sym, ◌∙◌}
use Rattle.dep_order.proofs.Turning.{within_more, within_all}
use Rattle.rows.proofs.orders.are_within.Goals as goal

pub loop-ids-preserved : goal.loop-ids-preserved
loop-ids-preserved c = within_more c.args.needs.now c.loop-ids.ids-index c.ids-item.result c.as_slice.result.now (length c.args.needs.now)
    c.loop-ids-test.true c.ids-item.is c.as_slice.ensures.value (sym c.are_below.ensures ∙ c.if-not-are_below.false) c.loop-ids.invariant

pub returns : goal.returns
returns c = λ yes. within_all c.args.needs.now c.loop-ids.ids-index c.loop-ids-test.false c.loop-ids.invariant
