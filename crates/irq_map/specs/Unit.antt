-- The unit address of a node, which stands in front of its specifiers where they go through interrupt maps (Devicetree
-- Specification v0.4, 2.4.3), and where they end.
use Rattle.std.specs.Prelude.{◌++◌, ℕ, List, [], Option, Some, None, Result, Ok, Err, codes, drop, is_some, length, nat_lt, take, unwrap_or, if◌then◌else◌}
use Rattle.edt_base.specs.NodeData.{NodeData}
use Rattle.edt_base.specs.Nodes.{prop_at}
use Rattle.edt_base.specs.TreeData.{parent_of}
use Rattle.edt_base.specs.Values.{value_cells}
use Rattle.edt_base.specs.declared.fault.Rule.{Rule}
use Rattle.edt_base.specs.declared.fault.Rule.TheVariants as rule
use Rattle.edt_base.specs.declared.node.Part.{Part}
use Rattle.pha_nexus.specs.Chain.{followed}
use Rattle.pha_nexus.specs.Passing.{Hop}
use Rattle.pha_nexus.specs.Space.{count_at, map_at}
use Rattle.irq_map.specs.Written.{interrupt}

-- The unit address

-- how many cells it has by the node's parent: as many as this one's `#address-cells` says, 2 where it doesn't say so.
-- The root, which has no parent, has no unit address
abbrev pub unit_width : List NodeData → Option ℕ → ℕ
unit_width nodes None = 0
unit_width nodes (Some up) = unwrap_or (count_at nodes up (codes "#address-cells")) 2

-- the first so many cells; none where there are fewer
abbrev pub first_cells : ℕ → List ℕ → Option (List ℕ)
first_cells count cells = if nat_lt (length cells) count then None else Some (take count cells)

-- the cells of a value; no cells where there is no value
abbrev pub cells_in : Option (List Part) → List ℕ
cells_in value = value_cells (unwrap_or value [])

-- the unit address of the node at a place: the first cells of its `reg`; none where there aren't so many
abbrev pub unit_of : List NodeData → ℕ → Option (List ℕ)
unit_of nodes id = first_cells (unit_width nodes (parent_of nodes id)) (cells_in (prop_at nodes id (codes "reg")))

-- Where a specifier ends

-- how many cells of an address stand in front of a specifier at a node to which a map leads; none where the node
-- doesn't say so
abbrev pub address_width : List NodeData → ℕ → ℕ
address_width nodes id = unwrap_or (count_at nodes id (codes "#address-cells")) 0

-- the address is cut off where the maps end
abbrev pub without_address : List NodeData → Result Hop Rule → Result Hop Rule
without_address nodes (Err broken) = Err broken
without_address nodes (Ok hop) = Ok (record { node = hop.node; spec = drop (address_width nodes hop.node) hop.spec })

-- from a nexus node through the maps, with a unit address in front; V34 where there is none
abbrev pub through_maps : List NodeData → Option (List ℕ) → Hop → Result Hop Rule
through_maps nodes None hop = Err rule.V34
through_maps nodes (Some unit) hop = without_address nodes (followed nodes interrupt hop.node (unit ++ hop.spec))

-- a specifier ends at its controller, where this one has no map
abbrev pub arrived : List NodeData → Option (List ℕ) → Hop → Result Hop Rule
arrived nodes unit hop = if is_some (map_at nodes interrupt hop.node) then through_maps nodes unit hop else Ok hop
