-- Which nodes a node requires (Zephyr 3.7, "Devicetree API", dependency ordinals).
use Rattle.std.specs.Prelude.{◌≡◌, ◌≢◌, ◌↔◌, ℕ, List, [], ◌∷◌, Some, option_map, slice_get}
use Rattle.std.specs.List.{Contains, filter_map}
use Rattle.std.specs.Option.{option_map_or}
use Rattle.edt_base.specs.BoundNodeData.{BoundNodeData}
use Rattle.edt_base.specs.EntryData.{EntryData}
use Rattle.edt_base.specs.NodeData.{NodeData}
use Rattle.edt_base.specs.PropData.{PropData}
use Rattle.edt_base.specs.TreeData.{parent_of}
use Rattle.edt_base.specs.ValData.{ValData, node_val, nodes_val, entries_val}
use Rattle.edt_base.specs.declared.bound.PropType.{PropType}
use Rattle.edt_base.specs.declared.bound.PropType.TheVariants as type

-- the nodes that a property refers to: by a phandle, by phandles, by the entries of a phandle-array, each entry by the
-- node at which its specifier ends; a path refers to none
abbrev pub referred : PropType → ValData → List ℕ
referred type.Phandle (node_val id) = id ∷ []
referred type.Phandles (nodes_val ids) = ids
referred type.PhandleArray (entries_val entries) = filter_map (option_map (λ (e : EntryData). e.controller)) entries
referred _ _ = []

-- a bound node at a place refers to another place
pub data RefersTo (nodes : List NodeData) (n : BoundNodeData) (id : ℕ) : ℕ → Type 0 where
  to_parent : (up : ℕ) → parent_of nodes id ≡ Some up → RefersTo nodes n id up
  by_value : (p : PropData) (other : ℕ) → Contains n.props p → Contains (referred p.ty p.val) other
      → RefersTo nodes n id other
  by_interrupt : (irq : EntryData) → Contains n.irqs irq → RefersTo nodes n id irq.controller

-- and so requires it, if it isn't itself
pub record Requires (nodes : List NodeData) (n : BoundNodeData) (id other : ℕ) : Type 0 where
  pub refers : RefersTo nodes n id other
  pub other_than : id ≢ other

-- each node's list has the nodes that it requires
abbrev pub AreNeeds : List NodeData → List BoundNodeData → Type 0
AreNeeds nodes bound = (id : ℕ) (n : BoundNodeData) → slice_get bound id ≡ Some n
    → (other : ℕ) → Contains n.needs other ↔ Requires nodes n id other

-- the list of the node at a place, none past the nodes
abbrev pub needs_at : List BoundNodeData → ℕ → List ℕ
needs_at bound id = option_map_or (λ (n : BoundNodeData). n.needs) (slice_get bound id) []

-- each node's list has the nodes that require it
abbrev pub AreSupports : List BoundNodeData → Type 0
AreSupports bound = (id : ℕ) (n : BoundNodeData) → slice_get bound id ≡ Some n
    → (other : ℕ) → Contains n.supports other ↔ Contains (needs_at bound other) id
