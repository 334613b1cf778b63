use Rattle.std.proofs.Common.{◌≡◌, drop}
use Rattle.dep_order.specs.Turns.{lists, IsUnderWay}
use Rattle.dep_order.proofs.turns.Turns.settle_all.Given as goal

abbrev pub invariant-loop-waiter : goal.invariant-loop-waiter
invariant-loop-waiter l = IsUnderWay (lists l.needs) l.self (drop l.waiter-index l.waiters) × (l.self.order ≡ l.initial.self.order)
