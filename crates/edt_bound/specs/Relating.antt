-- How the lists of required and supported nodes are made, before the bound nodes are put together.
use Rattle.std.specs.Prelude.{◌≡◌, ◌<◌, ◌↔◌, ◌++◌, ◌∷◌, [], ℕ, List, All, length, map, slice_set}
use Rattle.std.specs.List.{Contains, flat_map}
use Rattle.std.specs.List.Sorted.{IsStrictlyIncreasing}
use Rattle.std.specs.Option.{option_to_list}
use Rattle.edt_base.specs.BoundNodeData.{BoundNodeData}
use Rattle.edt_base.specs.EntryData.{EntryData}
use Rattle.edt_base.specs.NodeData.{NodeData}
use Rattle.edt_base.specs.PropData.{PropData}
use Rattle.edt_base.specs.TreeData.{parent_of}
use Rattle.dep_order.specs.Order.{required}
use Rattle.edt_bound.specs.Requiring.{Requires, referred}

-- these are the nodes that the node at a place requires, whatever else is bound to it than its properties and its
-- interrupts
abbrev pub AreNeedsOf : List NodeData → List PropData → List EntryData → ℕ → List ℕ → Type 0
AreNeedsOf nodes props irqs id needs = (n : BoundNodeData) → n.props ≡ props → n.irqs ≡ irqs
    → (other : ℕ) → Contains needs other ↔ Requires nodes n id other

-- where these are the nodes that each node requires: the nodes that require each
pub record AreSupportsOf (needs supports : List (List ℕ)) : Type 0 where
  -- each node has a list
  pub as_many : length supports ≡ length needs
  -- a node's list has the nodes that require it
  pub each : (id other : ℕ) → Contains (required supports id) other ↔ Contains (required needs other) id
  -- in preorder, each once
  pub rising : All IsStrictlyIncreasing supports
  -- and they are there
  pub within : All (All (λ other. other < length needs)) supports

-- what a node refers to, in any order and maybe more than once: its parent, then the nodes of its properties and
-- interrupts
abbrev pub references : List NodeData → ℕ → List PropData → List EntryData → List ℕ
references nodes id props irqs = option_to_list (parent_of nodes id)
    ++ flat_map (λ (p : PropData). referred p.ty p.val) props ++ map (λ (irq : EntryData). irq.controller) irqs

-- the lists with a node at the end of that of each of some nodes
abbrev pub with_supporter : List (List ℕ) → List ℕ → ℕ → List (List ℕ)
with_supporter supports [] id = supports
with_supporter supports (other ∷ others) id =
    with_supporter (slice_set supports other (required supports other ++ id ∷ [])) others id
