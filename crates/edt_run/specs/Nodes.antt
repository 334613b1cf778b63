-- The nodes that the program holds, as a tree of names.
use Rattle.std.specs.Prelude.{ℕ, List, [], ◌∷◌, map}
use Rattle.edt_run.specs.declared.node.Node.{Node, fold-Node, out-Node}
use Rattle.edt_run.specs.declared.node.Node.TheOpen.{Node-F}
use Rattle.edt_run.specs.Forest.{Forest, none, tree}

-- one node: its name and what is below it
pub record Named : Type 0 where
  pub name : List ℕ
  pub below : Forest

-- nodes in a row are siblings
abbrev pub forest_from : List Named → Forest
forest_from [] = none
forest_from (n ∷ ns) = tree n.name n.below (forest_from ns)

-- a node whose children are given
abbrev pub layer : Node-F Named → Named
layer n = record { name = n.name; below = forest_from n.below.items }

abbrev pub named : Node → Named
named = fold-Node Named layer

-- the nodes of a list, with all that is below them
abbrev pub forest_of : List Node → Forest
forest_of nodes = forest_from (map named nodes)

abbrev pub name_of : Node → List ℕ
name_of n = (out-Node n).name
