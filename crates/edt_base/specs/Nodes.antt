-- What is read of a tree's nodes by their places.
use Rattle.std.specs.Prelude.{ℕ, Bool, false, List, [], Option, codes, filter, option_map, option_and_then, slice_get, unwrap_or}
use Rattle.std.specs.Option.{option_map_or}
use Rattle.std.specs.Str.{bytes_eq}
use Rattle.edt_base.specs.NodeData.{NodeData, prop_of}
use Rattle.edt_base.specs.TreeData.{parent_of}
use Rattle.edt_base.specs.declared.node.Part.{Part}

-- the path of the node at a place, empty past the nodes
abbrev pub path_at : List NodeData → ℕ → List ℕ
path_at nodes id = unwrap_or (option_map (λ n. n.path) (slice_get nodes id)) []

-- the parent of the node at a place
abbrev pub parent_node : List NodeData → ℕ → Option NodeData
parent_node nodes id = option_and_then (slice_get nodes) (parent_of nodes id)

-- the children of the node at a place, none past the nodes
abbrev pub children_at : List NodeData → ℕ → List ℕ
children_at nodes id = unwrap_or (option_map (λ n. n.children) (slice_get nodes id)) []

-- the value of the property of this name of the node at a place
abbrev pub prop_at : List NodeData → ℕ → List ℕ → Option (List Part)
prop_at nodes id name = option_and_then (λ (n : NodeData). prop_of name n.props) (slice_get nodes id)

-- the node at a place is okay: its status is `okay`, which an absent one and `ok` count as too
abbrev pub is_okay : List NodeData → ℕ → Bool
is_okay nodes id = option_map_or (λ (n : NodeData). bytes_eq n.status (codes "okay")) (slice_get nodes id) false

-- of some places those whose nodes are okay
abbrev pub okay_of : List NodeData → List ℕ → List ℕ
okay_of nodes ids = filter (is_okay nodes) ids
