-- Trees of three nodes, each in the one before it.
use Rattle.std.specs.Prelude.{◌≡◌, ℕ, List, [], ◌∷◌, Option, Some, None, All, codes, ⊤}
use Rattle.edt_base.specs.NodeData.{NodeData, prop_of}
use Rattle.edt_base.specs.TreeData.{EndsWithZero, IsWellFormed}
use Rattle.edt_base.specs.declared.node.Kind.{Kind}
use Rattle.edt_base.specs.declared.node.Kind.TheVariants as kind
use Rattle.edt_base.specs.declared.node.Part.{Part}

abbrev pub Props : Type 0
Props = List (List ℕ × List Part)

-- an okay node without labels and compatible strings
unfoldable pub node_of : List ℕ → List ℕ → Option ℕ → List ℕ → Props → NodeData
node_of name path parent children props = record {
  name = name;
  path = path;
  parent = parent;
  children = children;
  labels = [];
  props = props;
  compats = [];
  status = codes "okay";
}

-- `/`, `/b` and `/b/e`
unfoldable pub top_of : Props → NodeData
top_of props = node_of (codes "/") (codes "/") None (1 ∷ []) props

unfoldable pub middle_of : Props → NodeData
middle_of props = node_of (codes "b") (codes "/b") (Some 0) (2 ∷ []) props

unfoldable pub low_of : Props → NodeData
low_of props = node_of (codes "e") (codes "/b/e") (Some 1) [] props

-- a part of bytes, or of text that ends with a zero
abbrev pub IsPlainPart : Kind → List ℕ → Type 0
IsPlainPart kind.Str bytes = EndsWithZero bytes
IsPlainPart kind.Hex bytes = ⊤
IsPlainPart _ bytes = ⊥

-- properties of such parts, none of them a phandle
pub record IsPlain (ps : Props) : Type 0 where
  pub phandle : prop_of (codes "phandle") ps ≡ None
  pub kinds : All (λ (p : List ℕ × List Part). All (λ (part : Part). IsPlainPart part.kind part.bytes) p.1) ps

abbrev pub ArePlainParts : List Part → Type 0
ArePlainParts parts = All (λ (part : Part). IsPlainPart part.kind part.bytes) parts

-- these nodes are a tree, without aliases and chosen nodes
unfoldable pub IsWellFormedAlone : List NodeData → Type 0
IsWellFormedAlone nodes = IsWellFormed (record { nodes = nodes; aliases = []; chosen = [] })
