use Rattle.dep_order.specs.Turns.{lists}
use Rattle.edt_bound.proofs.PhaseSteps.{order_refused}
use Rattle.edt_bound.proofs.ordering.ordered.Goals as goal

pub returns-in-Err-clause-refused : goal.returns-in-Err-clause-refused
returns-in-Err-clause-refused c = order_refused c.args.t.now.nodes (lists c.args.needs.now.items) c.in-Err.end c.told.result c.in-Err.ensures.end c.told.ensures
