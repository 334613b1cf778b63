use Rattle.std.proofs.Common.{◌∙◌, length, sym}
use Rattle.dep_order.specs.Turns.{lists}
use Rattle.dep_order.proofs.Turning.{start_to, lists_length}
use Rattle.dep_order.proofs.placing.placed_all.Goals as goal

pub settle_all-requires-clause-under_way : goal.settle_all-requires-clause-under_way
settle_all-requires-clause-under_way c =
    start_to (lists c.args.needs.now) (length c.args.needs.now) c.in_ok-turns.turns c.as_slice.result.now (sym (lists_length c.args.needs.now)) c.in_ok-turns.ensures
    (c.as_slice.ensures.value ∙ c.in_ok-everyone.ensures)
