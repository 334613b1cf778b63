-- What a space of specifiers, as `gpio` or `interrupt`, names its properties, and the counts of cells that nodes give.
use Rattle.std.specs.Prelude.{◌+◌, ◌++◌, ℕ, Bool, true, false, List, Option, Some, None, Result, Ok, Err, codes, option_and_then, unwrap_or}
use Rattle.std.specs.Str.{bytes_eq}
use Rattle.edt_base.specs.NodeData.{NodeData}
use Rattle.edt_base.specs.Nodes.{prop_at}
use Rattle.edt_base.specs.Values.{single_cell}
use Rattle.edt_base.specs.declared.fault.Rule.{Rule}
use Rattle.edt_base.specs.declared.fault.Rule.TheVariants as rule
use Rattle.edt_base.specs.declared.node.Part.{Part}

-- Names

-- the count of a specifier's cells
abbrev pub cells_name : List ℕ → List ℕ
cells_name space = codes "#" ++ (space ++ codes "-cells")

-- the map of a nexus node, its mask and its pass-through
abbrev pub map_name : List ℕ → List ℕ
map_name space = space ++ codes "-map"

abbrev pub mask_name : List ℕ → List ℕ
mask_name space = space ++ codes "-map-mask"

abbrev pub pass_name : List ℕ → List ℕ
pass_name space = space ++ codes "-map-pass-thru"

-- the space of interrupts
abbrev pub is_interrupt : List ℕ → Bool
is_interrupt space = bytes_eq space (codes "interrupt")

-- What a node has

abbrev pub map_at : List NodeData → List ℕ → ℕ → Option (List Part)
map_at nodes space id = prop_at nodes id (map_name space)

abbrev pub mask_at : List NodeData → List ℕ → ℕ → Option (List Part)
mask_at nodes space id = prop_at nodes id (mask_name space)

abbrev pub pass_at : List NodeData → List ℕ → ℕ → Option (List Part)
pass_at nodes space id = prop_at nodes id (pass_name space)

-- the number that a property gives; none where the property isn't there or has another number of bytes than 4
abbrev pub count_at : List NodeData → ℕ → List ℕ → Option ℕ
count_at nodes id name = option_and_then single_cell (prop_at nodes id name)

-- Parent cells of a map's row

-- as many as the node's count says; an interrupt's begin with an address, of no cells where the node has no count of
-- them
abbrev pub width_by : Bool → Option ℕ → Option ℕ → Result ℕ Rule
width_by false address None = Err rule.V21
width_by true address None = Err rule.V32
width_by false address (Some cells) = Ok cells
width_by true address (Some cells) = Ok (unwrap_or address 0 + cells)

-- how many a row has that leads to the node at a place, or the rule that it breaks that this can't be told
abbrev pub parent_width : List NodeData → List ℕ → ℕ → Result ℕ Rule
parent_width nodes space id =
    width_by (is_interrupt space) (count_at nodes id (codes "#address-cells")) (count_at nodes id (cells_name space))
