-- How the nodes are placed one after another: what is kept while it goes on.
use Rattle.std.specs.Prelude.{◌≡◌, ◌+◌, ◌<◌, ℕ, Bool, true, false, List, [], ◌∷◌, ◌++◌, Option, Some, None, All, Contains, length, map, slice_get, slice_index_or, slice_set, take, drop, replicate, Vec}
use Rattle.std.specs.List.{prefix_len, range_with_len}
use Rattle.std.specs.BTreeSet.{insert_key}
use Rattle.std.specs.Ordering.{nat_cmp}
use Rattle.std.specs.declared.alloc.Global.{Global}
use Rattle.dep_order.specs.Order.{required, IsPlacing, IsReady}
use Rattle.dep_order.specs.declared.turns.Waiter.{Waiter}

-- the lists of a vector of vectors
abbrev pub lists : List (Vec ℕ Global) → List (List ℕ)
lists vs = map (λ (v : Vec ℕ Global). v.items) vs

-- what stands at a time: the nodes that are placed, in order and as marks, those that wait for each node, and those
-- that are ready, rising
pub record TurnsData : Type 0 where
  pub order : List ℕ
  pub done : List Bool
  pub waiting : List (List Waiter)
  pub ready : List ℕ

-- the node is placed
abbrev pub is_done : List Bool → ℕ → Bool
is_done done id = slice_index_or done id false

-- the mark is set
abbrev pub is_true : Bool → Bool
is_true b = b

-- how many nodes aren't placed
abbrev pub open_count : List Bool → ℕ
open_count [] = 0
open_count (true ∷ ds) = open_count ds
open_count (false ∷ ds) = open_count ds + 1

-- how many of these nodes, from the first on, are placed, where so many are known to be
abbrev pub met_from : List Bool → List ℕ → ℕ → ℕ
met_from done ids from = from + prefix_len (is_done done) (drop from ids)

-- one more waits for a node
abbrev pub with_waiter : TurnsData → ℕ → Waiter → TurnsData
with_waiter t q w = record t { waiting = slice_set t.waiting q (slice_index_or t.waiting q [] ++ w ∷ []) }

-- one more is ready
abbrev pub with_ready : TurnsData → ℕ → TurnsData
with_ready t id = record t { ready = insert_key nat_cmp t.ready id }

-- the node waits for this one, or is ready
abbrev pub sent : TurnsData → ℕ → ℕ → Option ℕ → TurnsData
sent t id met None = with_ready t id
sent t id met (Some q) = with_waiter t q (record { id = id; met = met })

-- the node waits for the first that isn't placed of those that it requires, or is ready
abbrev pub settled : List (List ℕ) → TurnsData → Waiter → TurnsData
settled needs t w = sent t w.id (met_from t.done (required needs w.id) w.met)
    (slice_get (required needs w.id) (met_from t.done (required needs w.id) w.met))

-- the node is placed, and those that waited for it are taken out
abbrev pub marked : TurnsData → ℕ → TurnsData
marked t id = record t {
  order = t.order ++ id ∷ [];
  done = slice_set t.done id true;
  waiting = slice_set t.waiting id [];
}

-- the nodes before the place where a node waits are placed
pub record IsMet (needs : List (List ℕ)) (order : List ℕ) (w : Waiter) : Type 0 where
  pub there : w.id < length needs
  pub left : Contains order w.id → ⊥
  pub within : w.met < length (required needs w.id) + 1
  pub before : All (Contains order) (take w.met (required needs w.id))

-- it waits for this one, which isn't placed
pub record IsWaiting (needs : List (List ℕ)) (order : List ℕ) (q : ℕ) (w : Waiter) : Type 0 where
  pub met : IsMet needs order w
  pub waits : slice_get (required needs w.id) w.met ≡ Some q
  pub left : Contains order q → ⊥

-- a node that isn't placed is ready, waits, or is still to be sent
pub data IsHeard (t : TurnsData) (coming : List Waiter) (id : ℕ) : Type 0 where
  is_ready : Contains t.ready id → IsHeard t coming id
  waits : (q : ℕ) (w : Waiter) → Contains (slice_index_or t.waiting q []) w → w.id ≡ id → IsHeard t coming id
  comes : (w : Waiter) → Contains coming w → w.id ≡ id → IsHeard t coming id

-- what is kept, where these are still to be sent
pub record IsUnderWay (needs : List (List ℕ)) (t : TurnsData) (coming : List Waiter) : Type 0 where
  pub placing : IsPlacing needs t.order
  pub marks : length t.done ≡ length needs
  pub queues : length t.waiting ≡ length needs
  pub counted : length t.order + open_count t.done ≡ length needs
  pub done : (id : ℕ) → is_done t.done id ≡ true → Contains t.order id
  pub undone : (id : ℕ) → Contains t.order id → is_done t.done id ≡ true
  pub ready : (id : ℕ) → Contains t.ready id → IsReady needs t.order id
  pub waits : (q : ℕ) (w : Waiter) → Contains (slice_index_or t.waiting q []) w → IsWaiting needs t.order q w
  pub met : (w : Waiter) → Contains coming w → IsMet needs t.order w
  pub heard : (id : ℕ) → id < length needs → (Contains t.order id → ⊥) → IsHeard t coming id

-- at the start nothing is placed
abbrev pub start : ℕ → TurnsData
start count = record { order = []; done = replicate count false; waiting = replicate count []; ready = [] }

-- the node has yet to look for one to wait for
abbrev pub starter : ℕ → Waiter
starter id = record { id = id; met = 0 }

-- all nodes have
abbrev pub starters : ℕ → List Waiter
starters count = map starter (range_with_len 0 count)
