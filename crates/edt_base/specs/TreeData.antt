-- A tree as contracts see it, the words on nodes in preorder, and what every tree keeps.
use Rattle.std.specs.Prelude.{◌≡◌, ◌+◌, ◌^◌, ◌%◌, ◌<◌, ◌++◌, ℕ, zero, suc, true, List, [], ◌∷◌, Option, Some, None, codes, length, slice_get, All, IsSomeAnd, option_and_then, ⊤, if◌then◌else◌}
use Rattle.std.specs.Option.{option_map_or}
use Rattle.edt_base.specs.NodeData.{NodeData, has_label, phandle_of, holds_number}
use Rattle.edt_base.specs.declared.node.Kind.{Kind}
use Rattle.edt_base.specs.declared.node.Kind.TheVariants as kind
use Rattle.edt_base.specs.SourceNames.{is_node_name}
use Rattle.edt_base.specs.declared.node.Part.{Part}

-- a tree: its nodes in preorder, and the pairs of `/aliases` and `/chosen`
pub record TreeData : Type 0 where
  pub nodes : List NodeData
  pub aliases : List (List ℕ × ℕ)
  pub chosen : List (List ℕ × ℕ)

-- the place of a node's parent; none of the root, and none past the nodes
abbrev pub parent_of : List NodeData → ℕ → Option ℕ
parent_of nodes i = option_and_then (λ n. n.parent) (slice_get nodes i)

-- the first place is the second node's or that of a node above it
pub data IsAtOrAbove (nodes : List NodeData) : ℕ → ℕ → Type 0 where
  itself : (i : ℕ) → IsAtOrAbove nodes i i
  further : (i p q : ℕ) → parent_of nodes i ≡ Some p → IsAtOrAbove nodes q p → IsAtOrAbove nodes q i

-- the node's parent and its parents in turn, at most so many
abbrev pub ancestors_within : ℕ → List NodeData → ℕ → List ℕ
ancestors_within zero nodes i = []
ancestors_within (suc most) nodes i = option_map_or (λ p. p ∷ ancestors_within most nodes p) (parent_of nodes i) []

-- the places above a node, from its parent up to the root
abbrev pub ancestors : List NodeData → ℕ → List ℕ
ancestors nodes i = ancestors_within (length nodes) nodes i

-- among nodes that stand from a place on, the places of those whose parent is i
abbrev pub children_from : ℕ → List NodeData → ℕ → List ℕ
children_from first [] i = []
children_from first (n ∷ ns) i = if holds_number i n.parent then first ∷ children_from (first + 1) ns i
    else children_from (first + 1) ns i

-- the places of a node's children, in rising order
abbrev pub children_of : List NodeData → ℕ → List ℕ
children_of nodes i = children_from 0 nodes i

-- the path of a child: its parent's path, `/` and its name; the root's path is not written twice
abbrev pub child_path : NodeData → List ℕ → List ℕ
child_path parent name = below parent.parent
  where
    below : Option ℕ → List ℕ
    below None = codes "/" ++ name
    below (Some _) = parent.path ++ codes "/" ++ name

-- no two nodes share a path
abbrev pub PathsApart : List NodeData → Type 0
PathsApart nodes = (i j : ℕ) (n m : NodeData) → slice_get nodes i ≡ Some n → slice_get nodes j ≡ Some m
    → n.path ≡ m.path → i ≡ j

-- no two nodes share a label
abbrev pub LabelsApart : List NodeData → Type 0
LabelsApart nodes = (i j : ℕ) (n m : NodeData) (label : List ℕ) → slice_get nodes i ≡ Some n
    → slice_get nodes j ≡ Some m → has_label label n ≡ true → has_label label m ≡ true → i ≡ j

-- no two nodes share a phandle
abbrev pub PhandlesApart : List NodeData → Type 0
PhandlesApart nodes = (i j : ℕ) (n m : NodeData) (number : ℕ) → slice_get nodes i ≡ Some n → slice_get nodes j ≡ Some m
    → phandle_of n ≡ Some number → phandle_of m ≡ Some number → i ≡ j

-- the bytes end with a zero
abbrev pub EndsWithZero : List ℕ → Type 0
EndsWithZero bytes = (text : List ℕ) × (bytes ≡ text ++ 0 ∷ [])

-- what the bytes of a part keep, by its kind
abbrev pub IsKindOf : List NodeData → Kind → List ℕ → Type 0
IsKindOf nodes kind.Str bytes = EndsWithZero bytes
IsKindOf nodes kind.Cells bytes = length bytes % 4 ≡ 0
IsKindOf nodes kind.Hex bytes = ⊤
IsKindOf nodes kind.Wide bytes = length bytes % 2 ≡ 0
IsKindOf nodes kind.Path bytes = (i : ℕ) × (n : NodeData) × (slice_get nodes i ≡ Some n) × (bytes ≡ n.path ++ 0 ∷ [])

-- what every tree keeps
pub record IsWellFormed (t : TreeData) : Type 0 where
  -- there are fewer than 2^32 nodes
  pub few : length t.nodes < 2 ^ 32
  -- node 0 is there and has no parent
  pub root : IsSomeAnd (slice_get t.nodes 0) (λ n. n.parent ≡ None)
  -- no other node is without a parent
  pub alone : (i : ℕ) (n : NodeData) → slice_get t.nodes i ≡ Some n → n.parent ≡ None → i ≡ 0
  -- the nodes stand in preorder: the parent of node i + 1 is node i or a node above it
  pub preorder : (i p : ℕ) (n : NodeData) → slice_get t.nodes (i + 1) ≡ Some n → n.parent ≡ Some p
      → IsAtOrAbove t.nodes p i
  -- a node's children are the nodes whose parent it is, in rising order
  pub children : (i : ℕ) (n : NodeData) → slice_get t.nodes i ≡ Some n → n.children ≡ children_of t.nodes i
  -- the root's name
  pub root_name : (i : ℕ) (n : NodeData) → slice_get t.nodes i ≡ Some n → n.parent ≡ None → n.name ≡ codes "/"
  -- every other name is one of the source format
  pub names : (i p : ℕ) (n : NodeData) → slice_get t.nodes i ≡ Some n → n.parent ≡ Some p → is_node_name n.name ≡ true
  -- the root's path
  pub root_path : (i : ℕ) (n : NodeData) → slice_get t.nodes i ≡ Some n → n.parent ≡ None → n.path ≡ codes "/"
  -- every other path is the parent's with the name
  pub child_paths : (i p : ℕ) (n m : NodeData) → slice_get t.nodes i ≡ Some n → n.parent ≡ Some p
      → slice_get t.nodes p ≡ Some m → n.path ≡ child_path m n.name
  -- every id is below the number of nodes
  pub parents_in : (i p : ℕ) (n : NodeData) → slice_get t.nodes i ≡ Some n → n.parent ≡ Some p → p < length t.nodes
  pub children_in : (i : ℕ) (n : NodeData) → slice_get t.nodes i ≡ Some n → All (λ c. c < length t.nodes) n.children
  pub aliases_in : All (λ (a : List ℕ × ℕ). a.1 < length t.nodes) t.aliases
  pub chosen_in : All (λ (c : List ℕ × ℕ). c.1 < length t.nodes) t.chosen
  -- no two nodes share a path
  pub paths_apart : PathsApart t.nodes
  -- no two nodes share a label
  pub labels_apart : LabelsApart t.nodes
  -- no two nodes share a phandle
  pub phandles_apart : PhandlesApart t.nodes
  -- the bytes of a part are as its kind says
  pub kinds : (i : ℕ) (n : NodeData) → slice_get t.nodes i ≡ Some n
      → All (λ (p : List ℕ × List Part). All (λ (part : Part). IsKindOf t.nodes part.kind part.bytes) p.1) n.props
