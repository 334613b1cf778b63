use Rattle.std.proofs.Common.{subst, sym, ◌∙◌, ap, ◌+◌, drop}
use Rattle.dep_order.specs.Turns.{lists, settled, TurnsData, IsUnderWay}
use Rattle.dep_order.proofs.Turning.{first_comes, first_met, settle_step, sent_order}
use Rattle.dep_order.proofs.turns.Turns.settle_all.Goals as goal

pub settle-requires-clause-met : goal.settle-requires-clause-met
settle-requires-clause-met c =
    first_met (lists c.args.needs.now) c.loop-waiter.self c.waiter-item.result _
    (first_comes (lists c.args.needs.now) c.loop-waiter.self c.args.waiters.now c.loop-waiter.waiter-index c.waiter-item.result c.loop-waiter-test.true c.waiter-item.is c.loop-waiter.invariant.0)

pub loop-waiter-preserved : goal.loop-waiter-preserved
loop-waiter-preserved c =
    let u : IsUnderWay (lists c.args.needs.now) (settled (lists c.args.needs.now) c.loop-waiter.self c.waiter-item.result) (drop (c.loop-waiter.waiter-index + 1) c.args.waiters.now) =
    settle_step (lists c.args.needs.now) c.loop-waiter.self c.waiter-item.result _ c.requires.within
    (first_comes (lists c.args.needs.now) c.loop-waiter.self c.args.waiters.now c.loop-waiter.waiter-index c.waiter-item.result c.loop-waiter-test.true c.waiter-item.is c.loop-waiter.invariant.0) in (
      subst (λ t. IsUnderWay (lists c.args.needs.now) t (drop (c.loop-waiter.waiter-index + 1) c.args.waiters.now)) (sym c.in_ok-settle.ensures) u,
      ap (λ (t : TurnsData). t.order) c.in_ok-settle.ensures ∙ (sent_order c.loop-waiter.self c.waiter-item.result.id _ _ ∙ c.loop-waiter.invariant.1),
    )
