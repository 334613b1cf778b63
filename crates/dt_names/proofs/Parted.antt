-- The definitions, parted.
use Rattle.std.proofs.Common.{◌≡◌, ℕ, List, ◌++◌, ap, append_assoc}
use Rattle.std.specs.List.{flat_map}
use Rattle.edt_base.specs.BoundData.{BoundData}
use Rattle.edt_base.specs.BoundNodeData.{BoundNodeData}
use Rattle.edt_base.specs.Ords.{ords_at}
use Rattle.edt_base.specs.NodeData.{NodeData}
use Rattle.dt_names.specs.Facts.{FactData, path_facts, child_facts, order_facts, match_facts, entry_facts, prop_facts, node_facts, titled}
use Rattle.dt_names.specs.Inner.Sections.{head_facts}

five_parts : (a b c d e f : List FactData) → (a ++ (b ++ (c ++ (d ++ e)))) ++ f ≡ a ++ (b ++ (c ++ (d ++ (e ++ f))))
five_parts a b c d e f = simp append_assoc

-- the definitions of a node are those before its properties and those on them
pub node_parts : (b : BoundData) (n : ℕ) (x : NodeData) (y : BoundNodeData)
    → titled x.path (head_facts b n x y) ++ flat_map (prop_facts b.tree.nodes n x.path) y.props ≡ titled x.path (node_facts b n x y)
node_parts b n x y =
    ap (titled x.path) (five_parts (path_facts b.tree.nodes n x) (child_facts b.tree.nodes n x) (order_facts n x.path (ords_at b.nodes n) y)
    (match_facts b.tree.nodes n x y) (entry_facts n x.path y) (flat_map (prop_facts b.tree.nodes n x.path) y.props))
