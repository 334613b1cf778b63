-- A node as contracts see it, and what is read from one node alone.
use Rattle.std.specs.Prelude.{◌==◌, ℕ, Bool, true, false, List, [], ◌∷◌, Option, Some, None, codes, option_and_then, if◌then◌else◌}
use Rattle.std.specs.List.{list_any, list_all, flat_map}
use Rattle.std.specs.Str.{bytes_eq}
use Rattle.edt_base.specs.Cells.{cell_of}
use Rattle.edt_base.specs.declared.node.Kind.{Kind}
use Rattle.edt_base.specs.declared.node.Kind.TheVariants as kind
use Rattle.edt_base.specs.declared.node.Part.{Part}

-- a node: its fields as lists and numbers, its properties in order, each a name with its parts
pub record NodeData : Type 0 where
  pub name : List ℕ
  pub path : List ℕ
  pub parent : Option ℕ
  pub children : List ℕ
  pub labels : List (List ℕ)
  pub props : List (List ℕ × List Part)
  pub compats : List (List ℕ)
  pub status : List ℕ

-- the value of the first property of this name
abbrev pub prop_of : List ℕ → List (List ℕ × List Part) → Option (List Part)
prop_of name [] = None
prop_of name (p ∷ ps) = if bytes_eq p.0 name then Some p.1 else prop_of name ps

-- the node has this path
abbrev pub has_path : List ℕ → NodeData → Bool
has_path path n = bytes_eq n.path path

-- the node has this label
abbrev pub has_label : List ℕ → NodeData → Bool
has_label label n = list_any (λ l. bytes_eq l label) n.labels

-- the part is of cells
abbrev pub is_cells : Kind → Bool
is_cells kind.Str = false
is_cells kind.Cells = true
is_cells kind.Hex = false
is_cells kind.Wide = false
is_cells kind.Path = false

-- the bytes of all parts of a value, joined
abbrev pub bytes_of : List Part → List ℕ
bytes_of parts = flat_map (λ (p : Part). p.bytes) parts

-- the number of a value that is one cell: all its parts are of cells, and they have 4 bytes together
abbrev pub one_cell : List Part → Option ℕ
one_cell parts = if list_all (λ (p : Part). is_cells p.kind) parts then cell_of (bytes_of parts) else None

-- the node's phandle: the number of its property `phandle`, where that is one cell
abbrev pub phandle_of : NodeData → Option ℕ
phandle_of n = option_and_then one_cell (prop_of (codes "phandle") n.props)

-- there is a number, and it is this one
abbrev pub holds_number : ℕ → Option ℕ → Bool
holds_number number None = false
holds_number number (Some n) = n == number

-- the node has this phandle
abbrev pub has_phandle : ℕ → NodeData → Bool
has_phandle number n = holds_number number (phandle_of n)
