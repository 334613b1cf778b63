use Rattle.std.proofs.Common.{◌<◌, ℕ, length}
use Rattle.std.specs.List.{Contains}
use Rattle.dep_order.specs.Order.{required}
use Rattle.dep_order.specs.Turns.{lists}
use Rattle.rows.proofs.orders.are_within.Given as goal

abbrev pub invariant-loop-ids : goal.invariant-loop-ids
invariant-loop-ids l = (id q : ℕ) → id < l.ids-index → Contains (required (lists l.needs) id) q → q < length l.needs
