-- The order of dependencies of a tree's nodes.
use Rattle.std.specs.Prelude.{◌<◌, ℕ, List, ⊤}
use Rattle.edt_base.specs.NodeData.{NodeData}
use Rattle.edt_base.specs.declared.fault.End.{End}
use Rattle.edt_base.specs.declared.fault.End.TheVariants as ending
use Rattle.edt_base.specs.declared.fault.Fault.{Fault}
use Rattle.edt_base.specs.declared.fault.Rule.TheVariants as rule
use Rattle.dep_order.specs.Order.{IsStuck}
use Rattle.dep_order.specs.declared.ends.OrderEnd.{OrderEnd}
use Rattle.dep_order.specs.declared.ends.OrderEnd.TheVariants as stuck
use Rattle.edt_bound.specs.Phases.{IsAt}

-- V36 at the first node that can't be numbered, where these are the nodes that each node requires
pub record IsFirstStuck (nodes : List NodeData) (needs : List (List ℕ)) (f : Fault) : Type 0 where
  pub node : ℕ
  pub is_at : IsAt nodes node rule.V36 f
  pub stuck : IsStuck needs node

-- why there is no order: this rule is broken, or memory was wanted
abbrev pub IsOrderRefused : List NodeData → List (List ℕ) → End → Type 0
IsOrderRefused nodes needs (ending.Fault f) = IsFirstStuck nodes needs f
IsOrderRefused nodes needs (ending.Memory e) = ⊤

-- how this is told of the end that ordering gives: the node that it names is there
abbrev pub IsStuckWithin : ℕ → OrderEnd → Type 0
IsStuckWithin count (stuck.Cycle id) = id < count
IsStuckWithin count (stuck.Memory e) = ⊤

abbrev pub IsStuckToldAs : List NodeData → OrderEnd → End → Type 0
IsStuckToldAs nodes (stuck.Cycle id) (ending.Fault f) = IsAt nodes id rule.V36 f
IsStuckToldAs nodes (stuck.Cycle id) (ending.Memory e) = ⊤
IsStuckToldAs nodes (stuck.Memory e) (ending.Fault f) = ⊥
IsStuckToldAs nodes (stuck.Memory e) (ending.Memory d) = ⊤
