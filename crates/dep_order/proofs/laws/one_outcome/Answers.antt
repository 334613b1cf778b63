use Rattle.dep_order.proofs.Placings.{one_order, one_stuck, not_both}
use Rattle.dep_order.proofs.laws.one_outcome.Goals as goal

pub returns : goal.returns
returns c = record { order = one_order; stuck = one_stuck; not_both = not_both }
