use Rattle.std.proofs.Common.{take}
use Rattle.edt_base.specs.Inner.IndexData.{ArePropOrders}
use Rattle.edt_base.proofs.index.prop_orders.Given as goal

abbrev pub invariant-loop-node : goal.invariant-loop-node
invariant-loop-node l = ArePropOrders (take l.node-index l.nodes) l.orders.items
