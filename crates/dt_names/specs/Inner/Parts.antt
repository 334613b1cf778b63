-- What stands together in the walk over the definitions, as the code has it.
use Rattle.std.specs.Prelude.{◌≡◌, ◌++◌, List, [], ◌∷◌, Option, Some, None, drop, map, option_map, if◌then◌else◌}
use Rattle.std.specs.Option.{option_map_or}
use Rattle.edt_base.specs.Nodes.{path_at}
use Rattle.edt_base.specs.NodeData.{NodeData}
use Rattle.edt_base.specs.PropData.{PropData}
use Rattle.dt_names.specs.Facts.{FactData, each, id_pieces, id_at, prop_facts}
use Rattle.dt_names.specs.Inner.Keys.{AreOfProp, GoOn}
use Rattle.dt_names.specs.Pieces.{PieceData}
use Rattle.dt_names.specs.Inner.Sections.{AreBased, node_sections, tree_section}
use Rattle.dt_names.specs.declared.section.Kind.{Kind}
use Rattle.dt_names.specs.declared.section.Kind.TheVariants as kind
use Rattle.dt_names.specs.declared.section.Of.{Of}
use Rattle.dt_names.specs.declared.section.Of.TheVariants as of
use Rattle.dt_names.specs.declared.sections.NodeLeft.{NodeLeft}
use Rattle.dt_names.specs.declared.sections.Sections.{Sections}

-- the definitions that are left
abbrev pub rows_in : Kind → List FactData
rows_in (kind.Head rows) = rows
rows_in (kind.Prop rows) = rows
rows_in (kind.Tree rows) = rows
rows_in kind.Nothing = []

-- the id that the names begin with, where those before began with one
abbrev pub base_in : List PieceData → Of → List PieceData
base_in before (of.Node id) = id_pieces id.path.now
base_in before (of.Prop name) = before
base_in before of.Tree = []
base_in before of.Nothing = before

-- the definitions of a property speak of it
abbrev pub SpeakOf : Of → List FactData → Type 0
SpeakOf (of.Prop name) fs = AreOfProp name.now fs
SpeakOf _ fs = Unit {0}

-- the definitions on the properties of a node that are left
abbrev pub props_left : List NodeData → Option NodeLeft → List (List FactData)
props_left nodes None = []
props_left nodes (Some n) = map (prop_facts nodes n.owner (path_at nodes n.owner)) n.props.now

-- the sections that are left
abbrev pub sections_left : Sections → List (List FactData)
sections_left s =
    props_left s.bound.now.tree.nodes s.node
    ++ (each (node_sections s.bound.now) s.index (drop s.index s.bound.now.tree.nodes)
    ++ (if s.tree then tree_section s.bound.now ∷ [] else []))

-- the id of the node whose properties come
abbrev pub node_base : List NodeData → Option NodeLeft → List PieceData
node_base nodes o = option_map_or (λ (n : NodeLeft). id_at nodes n.owner) o []

-- the id that the names of the definitions begin with where the walk stands
abbrev pub base_left : Sections → List PieceData
base_left s = node_base s.bound.now.tree.nodes s.node

-- the properties that come
abbrev pub props_of : Option NodeLeft → List PropData
props_of o = option_map_or (λ (n : NodeLeft). n.props.now) o []

-- the next of a node's properties, and what is left of the node then
abbrev pub IsSplit : Option NodeLeft → PropData → NodeLeft → Type 0
IsSplit o p after = (option_map (λ (n : NodeLeft). n.owner) o ≡ Some after.owner) × (props_of o ≡ p ∷ after.props.now)

-- the next section: what its definitions speak of, these, and what is left then
pub record IsNext (before : Sections) (here : Of) (rows : List FactData) (after : Sections) : Type 0 where
  -- it is the first of what was left
  pub first : sections_left before ≡ rows ∷ sections_left after
  -- the id is that of the section
  pub base : base_left after ≡ base_in (base_left before) here
  -- the names begin with this id
  pub based : AreBased (base_left after) rows
  -- and speak of the property that the section is on
  pub own : SpeakOf here rows
  -- and each that goes on has the entry of the one before it
  pub going : GoOn rows
