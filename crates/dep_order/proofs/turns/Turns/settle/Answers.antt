use Rattle.dep_order.specs.Turns.{lists}
use Rattle.dep_order.proofs.Turning.{reached_within}
use Rattle.dep_order.proofs.turns.Turns.settle.Goals as goal

pub send-requires : goal.send-requires
send-requires c = reached_within (lists c.args.needs.now) c.args.waiter.id c.met_from-met.result _ c.node_at.result c.required-ids.result.now
    c.requires.within c.required-ids.ensures c.node_at.ensures c.requires.queues
