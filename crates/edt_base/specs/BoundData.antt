-- The bound tree, as contracts see it, and what every one keeps.
use Rattle.std.specs.Prelude.{◌≡◌, ℕ, List, All, Some, length, slice_get}
use Rattle.std.specs.List.{range_with_len}
use Rattle.std.specs.List.Sorted.{IsPermutation, IsStrictlyIncreasing}
use Rattle.edt_base.specs.TreeData.{TreeData, IsWellFormed}
use Rattle.edt_base.specs.BoundNodeData.{BoundNodeData, IsBoundNode}
use Rattle.edt_base.specs.InstData.{InstData}
use Rattle.edt_base.specs.Instances.{AreInstances}

-- the tree, what is bound to each node, the nodes in the order of dependencies, the instances, and the places of the
-- header's repeated definitions
pub record BoundData : Type 0 where
  pub tree : TreeData
  pub nodes : List BoundNodeData
  pub order : List ℕ
  pub insts : List InstData
  pub doubles : List ℕ

-- what every bound tree keeps
pub record IsBound (b : BoundData) : Type 0 where
  -- the tree is well formed
  pub tree : IsWellFormed b.tree
  -- each node of the tree is bound
  pub as_many : length b.nodes ≡ length b.tree.nodes
  -- each is bound as a node is
  pub nodes : All (IsBoundNode (length b.nodes)) b.nodes
  -- the instances are those of the tree
  pub insts : AreInstances b.tree.nodes b.insts
  -- the order has each node once
  pub order : IsPermutation b.order (range_with_len 0 (length b.nodes))
  -- a node's ordinal is its place in the order
  pub ords : (id : ℕ) (n : BoundNodeData) → slice_get b.nodes id ≡ Some n → slice_get b.order n.ord ≡ Some id
  -- the places of repeated definitions rise
  pub doubles : IsStrictlyIncreasing b.doubles
