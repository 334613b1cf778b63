-- The interrupts of a node: each specifier followed to its last node, whose binding names the cells.
use Rattle.std.specs.Prelude.{◌+◌, ℕ, List, [], ◌∷◌, Option, Result, Ok, Err, codes, is_some, if◌then◌else◌}
use Rattle.std.specs.Option.{option_map_or}
use Rattle.edt_base.specs.EntryData.{EntryData}
use Rattle.edt_base.specs.NodeData.{NodeData}
use Rattle.edt_base.specs.Nodes.{prop_at}
use Rattle.edt_base.specs.Values.{entry_name, name_parts}
use Rattle.edt_base.specs.declared.fault.Rule.{Rule}
use Rattle.edt_base.specs.declared.fault.Rule.TheVariants as rule
use Rattle.edt_base.specs.declared.node.Part.{Part}
use Rattle.bind_merge.specs.LibraryData.{LibData}
use Rattle.pha_nexus.specs.Naming.{and_rest, cell_names, if_names_fit, with_names}
use Rattle.pha_nexus.specs.Passing.{Hop}
use Rattle.irq_map.specs.Gic.{counted, is_gic}
use Rattle.irq_map.specs.Unit.{arrived, unit_of}
use Rattle.irq_map.specs.Written.{interrupt, written}

-- the interrupt of a specifier where it ends. V31 where that node is no interrupt controller, V23 where it has no
-- binding, V24 where the binding doesn't name as many cells, V35 where a GIC has no such type
abbrev pub irq_at : List NodeData → LibData → Option (List ℕ) → Hop → Result EntryData Rule
irq_at nodes lib name hop = if is_some (prop_at nodes hop.node (codes "interrupt-controller"))
    then counted (is_gic nodes hop.node) (with_names hop name (cell_names nodes lib interrupt hop.node))
    else Err rule.V31

abbrev pub irq_by : List NodeData → LibData → Option (List ℕ) → Result Hop Rule → Result EntryData Rule
irq_by nodes lib name (Err broken) = Err broken
irq_by nodes lib name (Ok hop) = irq_at nodes lib name hop

-- the interrupt of a specifier at a controller, of a node with this unit address
abbrev pub irq_of : List NodeData → LibData → Option (List ℕ) → Option (List ℕ) → Hop → Result EntryData Rule
irq_of nodes lib unit name hop = irq_by nodes lib name (arrived nodes unit hop)

-- the interrupts from a place on, each with the name that stands at its place
abbrev pub irqs_from : List NodeData → LibData → Option (List ℕ) → List Part → ℕ → List Hop
    → Result (List EntryData) Rule
irqs_from nodes lib unit parts at [] = Ok []
irqs_from nodes lib unit parts at (hop ∷ hops) =
    and_rest (irq_of nodes lib unit (entry_name parts at) hop) (irqs_from nodes lib unit parts (at + 1) hops)

-- the interrupts of specifiers with these names, V25 where the names aren't as many strings
abbrev pub irqs_in : List NodeData → LibData → Option (List ℕ) → Option (List Part) → Result (List Hop) Rule
    → Result (List EntryData) Rule
irqs_in nodes lib unit names (Err broken) = Err broken
irqs_in nodes lib unit names (Ok hops) =
    if_names_fit names (irqs_from nodes lib unit (name_parts names) 0 hops)

-- the interrupts of the node at a place, none where it has written none; or the first rule that is broken
abbrev pub irqs_of : List NodeData → LibData → ℕ → Result (List EntryData) Rule
irqs_of nodes lib id = option_map_or
    (irqs_in nodes lib (unit_of nodes id) (prop_at nodes id (codes "interrupt-names"))) (written nodes id) (Ok [])
