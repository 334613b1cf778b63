-- The instances of a compatible string: the nodes that list it, the okay ones first.
use Rattle.std.specs.Prelude.{◌≡◌, ◌<◌, ◌++◌, ℕ, Bool, false, not, List, All, Some, filter, length, map, slice_get}
use Rattle.std.specs.Cmp.Lexicographic.{slice_cmp}
use Rattle.std.specs.List.{Contains, list_any, range_with_len}
use Rattle.std.specs.List.Sorted.{IsStrictlySortedBy}
use Rattle.std.specs.Option.{option_map_or}
use Rattle.std.specs.Ordering.{nat_cmp}
use Rattle.std.specs.Str.{bytes_eq}
use Rattle.edt_base.specs.InstData.{InstData}
use Rattle.edt_base.specs.NodeData.{NodeData}
use Rattle.edt_base.specs.Nodes.{is_okay, okay_of}

-- the node at a place lists the string, once or more often
abbrev pub lists_at : List NodeData → List ℕ → ℕ → Bool
lists_at nodes compat id =
    option_map_or (λ (n : NodeData). list_any (λ c. bytes_eq c compat) n.compats) (slice_get nodes id) false

-- the places of the nodes that list the string, in preorder
abbrev pub listing : List NodeData → List ℕ → List ℕ
listing nodes compat = filter (lists_at nodes compat) (range_with_len 0 (length nodes))

-- the instances by their numbers: the okay ones of these nodes in preorder, then the others in preorder
abbrev pub instances_of : List NodeData → List ℕ → List ℕ
instances_of nodes compat =
    okay_of nodes (listing nodes compat) ++ filter (λ id. not (is_okay nodes id)) (listing nodes compat)

-- what is kept of the instances of a compatible string
pub record IsInst (all : List NodeData) (i : InstData) : Type 0 where
  -- a node lists the string
  pub some : 0 < length i.nodes
  -- its nodes are the instances
  pub nodes : i.nodes ≡ instances_of all i.compat
  -- so many of them are okay
  pub okay : i.okay ≡ length (okay_of all (listing all i.compat))

-- the compatible strings
abbrev pub compats_of : List InstData → List (List ℕ)
compats_of insts = map (λ i. i.compat) insts

-- the instances of all compatible strings of the nodes
pub record AreInstances (nodes : List NodeData) (insts : List InstData) : Type 0 where
  -- each string has its instances
  pub each : All (IsInst nodes) insts
  -- the strings stand in byte order, each once
  pub order : IsStrictlySortedBy (slice_cmp nat_cmp) (compats_of insts)
  -- each string that a node lists is there
  pub every : (id : ℕ) (n : NodeData) (compat : List ℕ) → slice_get nodes id ≡ Some n → Contains n.compats compat
      → Contains (compats_of insts) compat
