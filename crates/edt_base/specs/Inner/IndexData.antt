-- The sorted lists through which a tree finds its nodes, and what they keep.
use Rattle.std.specs.Prelude.{◌≡◌, ◌+◌, ◌++◌, ℕ, Bool, true, List, [], ◌∷◌, Option, Some, None, length, map, slice_get, All, Any, IsSomeAnd, option_map, option_and_then, unwrap_or, option_to_list}
use Rattle.std.specs.List.{AllZip, range_with_len}
use Rattle.std.specs.List.Sorted.{IsSortedByKey}
use Rattle.std.specs.declared.cmp.Ordering.{Ordering}
use Rattle.std.specs.Ordering.{nat_cmp}
use Rattle.std.specs.Cmp.Lexicographic.{slice_cmp}
use Rattle.edt_base.specs.NodeData.{NodeData, has_path, has_label, has_phandle, phandle_of}
use Rattle.edt_base.specs.Nodes.{path_at}
use Rattle.edt_base.specs.Inner.PropOrder.{IsPropOrder}
use Rattle.edt_base.specs.declared.index.LabelPlace.{LabelPlace}
use Rattle.edt_base.specs.declared.index.PhandlePlace.{PhandlePlace}

-- nodes by their paths, labels by their texts, phandles by their numbers, and each node's properties by their names
pub record IndexData : Type 0 where
  pub paths : List ℕ
  pub labels : List LabelPlace
  pub phandles : List PhandlePlace
  pub props : List (List ℕ)

-- a sorted list of entries through which nodes are found by what they have, as a label
pub record IsIndex {E K : Type 0} (cmp : K → K → Ordering) (key : E → K) (node : E → ℕ)
    (has : K → NodeData → Bool) (nodes : List NodeData) (es : List E) : Type 0 where
  -- the entries stand in the order of their keys
  pub sorted : IsSortedByKey key cmp es
  -- each entry leads to a node that has its key
  pub sound : All (λ e. IsSomeAnd (slice_get nodes (node e)) (λ n. has (key e) n ≡ true)) es
  -- each key that a node has is that of an entry
  pub complete : (i : ℕ) (n : NodeData) (k : K) → slice_get nodes i ≡ Some n → has k n ≡ true → Any (λ e. key e ≡ k) es

-- the label at a place among a node's labels, empty past them
abbrev pub label_at : List NodeData → LabelPlace → List ℕ
label_at nodes e =
    unwrap_or (option_and_then (λ (n : NodeData). slice_get n.labels e.label) (slice_get nodes e.node)) []

-- the entries of each node in turn, where the first node stands at a place
abbrev pub entries_from : {E : Type 0} → (ℕ → NodeData → List E) → ℕ → List NodeData → List E
entries_from entries first [] = []
entries_from entries first (n ∷ ns) = entries first n ++ entries_from entries (first + 1) ns

-- a node's places among those by path
abbrev pub path_entries : ℕ → NodeData → List ℕ
path_entries i n = i ∷ []

-- the places of so many labels of a node
abbrev pub label_places : ℕ → ℕ → List LabelPlace
label_places i count = map (λ j. record { node = i; label = j }) (range_with_len 0 count)

abbrev pub label_entries : ℕ → NodeData → List LabelPlace
label_entries i n = label_places i (length n.labels)

-- a node's phandle with its place
abbrev pub phandle_entries : ℕ → NodeData → List PhandlePlace
phandle_entries i n = option_to_list (option_map (λ p. record { phandle = p; node = i }) (phandle_of n))

-- the entries of each kind are an index of the nodes
abbrev pub IsPathIndex : List NodeData → List ℕ → Type 0
IsPathIndex nodes es = IsIndex (slice_cmp nat_cmp) (path_at nodes) (λ e. e) has_path nodes es

abbrev pub IsLabelIndex : List NodeData → List LabelPlace → Type 0
IsLabelIndex nodes es = IsIndex (slice_cmp nat_cmp) (label_at nodes) (λ e. e.node) has_label nodes es

abbrev pub IsPhandleIndex : List NodeData → List PhandlePlace → Type 0
IsPhandleIndex nodes es = IsIndex nat_cmp (λ e. e.phandle) (λ e. e.node) has_phandle nodes es

-- each node has an order of its properties
abbrev pub ArePropOrders : List NodeData → List (List ℕ) → Type 0
ArePropOrders nodes orders = AllZip (λ (n : NodeData) places. IsPropOrder n.props places) nodes orders

-- all lists are indexes of the nodes
pub record IsIndexOf (nodes : List NodeData) (x : IndexData) : Type 0 where
  pub paths : IsPathIndex nodes x.paths
  pub labels : IsLabelIndex nodes x.labels
  pub phandles : IsPhandleIndex nodes x.phandles
  pub props : ArePropOrders nodes x.props

-- what a search answers: a node that passes, or none where no node passes
abbrev pub IsFound : (NodeData → Bool) → List NodeData → Option ℕ → Type 0
IsFound p nodes None = (i : ℕ) (n : NodeData) → slice_get nodes i ≡ Some n → p n ≡ true → ⊥
IsFound p nodes (Some i) = IsSomeAnd (slice_get nodes i) (λ n. p n ≡ true)
