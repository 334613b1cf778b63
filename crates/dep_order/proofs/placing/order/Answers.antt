use Rattle.dep_order.proofs.Turning.{same_within, answer_of}
use Rattle.dep_order.proofs.placing.order.Goals as goal

pub placed_all-requires-clause-within : goal.placed_all-requires-clause-within
placed_all-requires-clause-within c = same_within c.args.needs.now.items c.as_slice.result.now c.as_slice.ensures.value c.requires.within

pub returns-clause-order : goal.returns-clause-order
returns-clause-order c =
    (answer_of c.args.needs.now.items c.as_slice.result.now c.in_ok-placed_all.field-0 c.finish.result c.as_slice.ensures.value
    c.in_ok-placed_all.ensures.under_way c.in_ok-placed_all.ensures.none c.finish.ensures.order c.finish.ensures.left).order

pub returns-clause-once : goal.returns-clause-once
returns-clause-once c =
    (answer_of c.args.needs.now.items c.as_slice.result.now c.in_ok-placed_all.field-0 c.finish.result c.as_slice.ensures.value
    c.in_ok-placed_all.ensures.under_way c.in_ok-placed_all.ensures.none c.finish.ensures.order c.finish.ensures.left).once

pub returns-clause-end : goal.returns-clause-end
returns-clause-end c =
    (answer_of c.args.needs.now.items c.as_slice.result.now c.in_ok-placed_all.field-0 c.finish.result c.as_slice.ensures.value
    c.in_ok-placed_all.ensures.under_way c.in_ok-placed_all.ensures.none c.finish.ensures.order c.finish.ensures.left).ending
