-- The ranges of a node: the entries of its `ranges`, which leads from its children's addresses to its parent's.
use Rattle.std.specs.Prelude.{◌+◌, ◌^◌, ◌≤◌, ℕ, Bool, not, ◌||◌, List, [], Option, Some, None, Result, Ok, Err, codes, length, drop, nat_lt, unwrap_or, if◌then◌else◌}
use Rattle.std.specs.List.{list_any}
use Rattle.edt_base.specs.NodeData.{NodeData, bytes_of}
use Rattle.edt_base.specs.Nodes.{prop_at}
use Rattle.edt_base.specs.TreeData.{parent_of}
use Rattle.edt_base.specs.Values.{value_cells}
use Rattle.edt_base.specs.declared.node.Part.{Part}
use Rattle.edt_base.specs.declared.bound.Range.{Range}
use Rattle.edt_base.specs.declared.fault.Rule.{Rule}
use Rattle.edt_base.specs.declared.fault.Rule.TheVariants as rule
use Rattle.reg_ranges.specs.Cutting.{first_number, entries, are_whole, address_cells, size_cells}
use Rattle.reg_ranges.specs.declared.address_ranges.Shape.{Shape}

-- the first range of cells, of so many; a number of no cells is 0
abbrev pub first_range : Shape → List ℕ → Range
first_range k cells = record {
  child = first_number k.child cells;
  parent = first_number k.parent (drop k.child cells);
  len = first_number k.len (drop (k.child + k.parent) cells);
}

-- how many cells a range has
abbrev pub range_cells : Shape → ℕ
range_cells k = k.child + k.parent + k.len

-- it reaches beyond 128 bits
abbrev pub is_beyond : Range → Bool
is_beyond r = nat_lt (2 ^ 128) (r.child + r.len) || nat_lt (2 ^ 128) (r.parent + r.len)

-- the ranges of a value, whatever they are
abbrev pub ranges_cut : Shape → List Part → List Range
ranges_cut k value = entries (first_range k) (range_cells k) (value_cells value)

-- the ranges of a value, or the first rule that it breaks: a rest, or a range that reaches beyond
abbrev pub cut_ranges : Shape → List Part → Result (List Range) Rule
cut_ranges k value = if not (are_whole (range_cells k) (length (bytes_of value))) then Err rule.V19
    else if list_any is_beyond (ranges_cut k value) then Err rule.V38
    else Ok (ranges_cut k value)

-- the counts of cells: the node's own for child addresses and lengths, its parent's for parent addresses
abbrev pub shape_by : Option ℕ → Option ℕ → Option ℕ → Option Shape
shape_by (Some child) (Some parent) (Some len) = Some (record { child = child; parent = parent; len = len })
shape_by _ _ _ = None

abbrev pub shape_of : List NodeData → ℕ → ℕ → Option Shape
shape_of nodes up id = shape_by (address_cells nodes id) (address_cells nodes up) (size_cells nodes id)

abbrev pub shaped_ranges : Option Shape → List Part → Result (List Range) Rule
shaped_ranges None value = Err rule.V17
shaped_ranges (Some k) value = cut_ranges k value

-- the ranges of a node that has `ranges`
abbrev pub ranges_in : List NodeData → ℕ → ℕ → Option (List Part) → Option (Result (List Range) Rule)
ranges_in nodes up id None = None
ranges_in nodes up id (Some value) = Some (shaped_ranges (shape_of nodes up id) value)

-- of a node that isn't the root and has `ranges`
abbrev pub ranges_below : List NodeData → Option ℕ → ℕ → Option (Result (List Range) Rule)
ranges_below nodes None id = None
ranges_below nodes (Some up) id = ranges_in nodes up id (prop_at nodes id (codes "ranges"))

-- the same of the node at a place
abbrev pub ranges_at : List NodeData → ℕ → Option (Result (List Range) Rule)
ranges_at nodes id = ranges_below nodes (parent_of nodes id) id

-- the ranges of the node at a place, none where it is the root or has no `ranges`; or the first rule that is broken
abbrev pub ranges_of : List NodeData → ℕ → Result (List Range) Rule
ranges_of nodes id = unwrap_or (ranges_at nodes id) (Ok [])

-- no number has more than 4 cells
pub record IsSmall (k : Shape) : Type 0 where
  pub child : k.child ≤ 4
  pub parent : k.parent ≤ 4
  pub len : k.len ≤ 4
