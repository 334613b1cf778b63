-- A list of nodes from a place on, as a tree of names: the node there and those behind it.
use Rattle.std.proofs.Common.{rules, ◌≡◌, ◌<◌, ℕ, ◌+◌, List, get_or, drop, drop-cons, length, refl, add-one}
use Rattle.edt_run.specs.declared.node.Node.{Node, out-Node, the_lemmas}
use Rattle.edt_run.specs.Nodes.{forest_of, named, name_of}
use Rattle.edt_run.specs.Reading.{sibling_names}
use Rattle.std.proofs.Common.{[], ◌∷◌, map}
use Rattle.edt_run.specs.Forest.{tree}

pub named_out : (n : Node) → named n ≡ record { name = (out-Node n).name; below = forest_of (out-Node n).below.items }
named_out n = search (rules, the_lemmas)

-- for a `for n in nodes`: list it by `#[tactic(auto, using(crate::proofs::Forests::forest_step))]`, beside an invariant that
-- speaks of `forest_of (drop l.n-index l.nodes)`
pub forest_step : (nodes : List Node) (i : ℕ) (n : Node) → i < length nodes → n ≡ get_or nodes i n
    → forest_of (drop i nodes) ≡ tree (out-Node n).name (forest_of (out-Node n).below.items) (forest_of (drop (i + 1) nodes))
forest_step nodes i n h e = rw (add-one, drop-cons nodes i n, ← e, named_out n) refl

-- the nodes' own names
pub names_of_nodes : (nodes : List Node) → map name_of nodes ≡ sibling_names (map named nodes)
names_of_nodes [] = refl
names_of_nodes (n ∷ ns) = rw (named_out n, names_of_nodes ns) refl
