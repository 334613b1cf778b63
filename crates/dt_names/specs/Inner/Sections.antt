-- The definitions in sections that stand together: those of a node before its properties, those on a property, and
-- those of the tree.
use Rattle.std.specs.Prelude.{◌≡◌, ◌++◌, ℕ, List, [], ◌∷◌, codes, map, slice_get}
use Rattle.std.specs.Option.{option_map_or}
use Rattle.edt_base.specs.BoundData.{BoundData}
use Rattle.edt_base.specs.BoundNodeData.{BoundNodeData}
use Rattle.edt_base.specs.Ords.{ords_at}
use Rattle.edt_base.specs.NodeData.{NodeData}
use Rattle.edt_base.specs.PropData.{PropData}
use Rattle.dt_names.specs.Facts.{FactData, each, path_facts, child_facts, order_facts, match_facts, entry_facts, prop_facts, titled, tree_facts}
use Rattle.dt_names.specs.Pieces.{PieceData}

-- the definitions of a node before those on its properties
abbrev pub head_facts : BoundData → ℕ → NodeData → BoundNodeData → List FactData
head_facts b n x y =
    path_facts b.tree.nodes n x
    ++ (child_facts b.tree.nodes n x
    ++ (order_facts n x.path (ords_at b.nodes n) y
    ++ (match_facts b.tree.nodes n x y
    ++ entry_facts n x.path y)))

-- the same with the node's comment, none where nothing is bound to the node
abbrev pub head_section : BoundData → ℕ → NodeData → List FactData
head_section b n x = option_map_or (λ (y : BoundNodeData). titled x.path (head_facts b n x y)) (slice_get b.nodes n) []

-- the properties that are bound to the node at a place
abbrev pub props_at : BoundData → ℕ → List PropData
props_at b n = option_map_or (λ (y : BoundNodeData). y.props) (slice_get b.nodes n) []

-- the sections of a node
abbrev pub node_sections : BoundData → ℕ → NodeData → List (List FactData)
node_sections b n x = head_section b n x ∷ map (prop_facts b.tree.nodes n x.path) (props_at b n)

-- the definitions of the tree with their comment
abbrev pub tree_section : BoundData → List FactData
tree_section b = titled (codes "tree") (tree_facts b)

-- all sections
abbrev pub sections : BoundData → List (List FactData)
sections b = each (node_sections b) 0 b.tree.nodes ++ tree_section b ∷ []

-- the names of definitions begin with this id
abbrev pub AreBased : List PieceData → List FactData → Type 0
AreBased base [] = Unit {0}
AreBased base (f ∷ fs) = (f.base ≡ base) × AreBased base fs

-- definitions, one list behind the other
abbrev pub joined : List (List FactData) → List FactData
joined [] = []
joined (fs ∷ rest) = fs ++ joined rest
