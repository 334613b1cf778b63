-- The order of dependencies: each node after all that it requires, and always the first node that can come next.
use Rattle.std.specs.Prelude.{◌≡◌, ◌<◌, ◌≤◌, ℕ, List, [], All, Contains, Some, length, slice_get, slice_index_or, take, ⊤}
use Rattle.dep_order.specs.declared.ends.OrderEnd.{OrderEnd}
use Rattle.dep_order.specs.declared.ends.OrderEnd.TheVariants as ending

-- what the node at a place requires
abbrev pub required : List (List ℕ) → ℕ → List ℕ
required needs id = slice_index_or needs id []

-- every node that a node requires is there
abbrev pub AreWithin : List (List ℕ) → Type 0
AreWithin needs = (id q : ℕ) → Contains (required needs id) q → q < length needs

-- where these nodes are placed, the node can come next: it isn't placed, and all that it requires is.
-- A node that requires itself never can; to require a node twice is to require it
pub record IsReady (needs : List (List ℕ)) (placed : List ℕ) (id : ℕ) : Type 0 where
  pub there : id < length needs
  pub left : Contains placed id → ⊥
  pub after : All (Contains placed) (required needs id)

-- it is the first in preorder that can come next
pub record IsNext (needs : List (List ℕ)) (placed : List ℕ) (id : ℕ) : Type 0 where
  pub ready : IsReady needs placed id
  pub first : (other : ℕ) → IsReady needs placed other → id ≤ other

-- at each place stands the first node whose required nodes all stand before
abbrev pub IsPlacing : List (List ℕ) → List ℕ → Type 0
IsPlacing needs order = (place id : ℕ) → slice_get order place ≡ Some id → IsNext needs (take place order) id

-- no further node can be placed
abbrev pub IsFull : List (List ℕ) → List ℕ → Type 0
IsFull needs order = (id : ℕ) → IsReady needs order id → ⊥

-- the order of all nodes
pub record IsOrder (needs : List (List ℕ)) (order : List ℕ) : Type 0 where
  pub placing : IsPlacing needs order
  pub all : (id : ℕ) → id < length needs → Contains order id

-- the first in preorder of the nodes that are left when no further node can be placed
pub record IsStuck (needs : List (List ℕ)) (id : ℕ) : Type 0 where
  pub order : List ℕ
  pub placing : IsPlacing needs order
  pub full : IsFull needs order
  pub there : id < length needs
  pub left : Contains order id → ⊥
  pub first : (other : ℕ) → other < length needs → (Contains order other → ⊥) → id ≤ other

-- why there is no answer: there is no order, or memory was wanted
abbrev pub IsEnd : List (List ℕ) → OrderEnd → Type 0
IsEnd needs (ending.Cycle id) = IsStuck needs id
IsEnd needs (ending.Memory e) = ⊤
