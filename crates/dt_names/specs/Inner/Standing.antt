-- A node at a place of a tree.
use Rattle.std.specs.Prelude.{◌≡◌, ◌+◌, ◌^◌, ◌<◌, ℕ, List, ◌∷◌, drop, length}
use Rattle.edt_base.specs.Nodes.{path_at}
use Rattle.edt_base.specs.NodeData.{NodeData}

-- the node stands at this place
pub record StandsAt (nodes : List NodeData) (i : ℕ) (x : NodeData) : Type 0 where
  -- the nodes from there on begin with it
  pub rest : drop i nodes ≡ x ∷ drop (i + 1) nodes
  -- the path there is its own
  pub path : path_at nodes i ≡ x.path
  -- the place is one of the tree's
  pub within : i < length nodes
  -- the next place has 32 bits too
  pub fits : i + 1 < 2 ^ 32
