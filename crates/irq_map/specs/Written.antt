-- How a node writes its interrupts (Devicetree Specification v0.4, 2.4.1): as specifiers of the space `interrupt`, each
-- at a controller.
use Rattle.std.specs.Prelude.{◌∷◌, [], ℕ, List, Option, Some, None, Result, Ok, Err, codes, length, map, option_and_then, option_map, position, take, if◌then◌else◌}
use Rattle.edt_base.specs.NodeData.{NodeData, bytes_of, has_phandle}
use Rattle.edt_base.specs.Nodes.{prop_at}
use Rattle.edt_base.specs.TreeData.{ancestors}
use Rattle.edt_base.specs.Values.{single_cell, value_cells}
use Rattle.edt_base.specs.declared.fault.Rule.{Rule}
use Rattle.edt_base.specs.declared.fault.Rule.TheVariants as rule
use Rattle.edt_base.specs.declared.node.Part.{Part}
use Rattle.bind_merge.specs.Options.{first_some}
use Rattle.pha_nexus.specs.Cutting.{cut_of}
use Rattle.pha_nexus.specs.Naming.{and_rest}
use Rattle.pha_nexus.specs.Passing.{Hop}
use Rattle.pha_nexus.specs.Space.{cells_name, count_at}
use Rattle.reg_ranges.specs.Cutting.{are_whole, entries}

-- the space of the specifiers
abbrev pub interrupt : List ℕ
interrupt = codes "interrupt"

-- all of some things, or the first rule that is broken
abbrev pub all_of : {X : Type 0} → List (Result X Rule) → Result (List X) Rule
all_of [] = Ok []
all_of (x ∷ xs) = and_rest x (all_of xs)

-- `interrupts-extended`: each specifier stands behind the phandle of its controller

-- V32 takes the place of V21
abbrev pub of_interrupts : Rule → Rule
of_interrupts rule.V21 = rule.V32
of_interrupts broken = broken

-- an entry as a phandle-array has it; V20 where it is unspecified
abbrev pub specified : Result (Option Hop) Rule → Result Hop Rule
specified (Err broken) = Err (of_interrupts broken)
specified (Ok None) = Err rule.V20
specified (Ok (Some hop)) = Ok hop

-- its specifiers, cut as a phandle-array is; or the first rule that is broken
abbrev pub extended_in : List NodeData → List Part → Result (List Hop) Rule
extended_in nodes value = all_of (map specified (cut_of nodes interrupt value))

-- `interrupts`: all specifiers are at one controller

-- the first `interrupt-parent` from the node upward
abbrev pub interrupt_parent : List NodeData → ℕ → Option (List Part)
interrupt_parent nodes id = first_some (λ at. prop_at nodes at (codes "interrupt-parent")) (id ∷ ancestors nodes id)

abbrev pub named_by : Option ℕ → Result ℕ Rule
named_by None = Err rule.V20
named_by (Some node) = Ok node

-- the controller that a value names: V30 where there is no value, V20 where it isn't the phandle of a node
abbrev pub controller_by : List NodeData → Option (List Part) → Result ℕ Rule
controller_by nodes None = Err rule.V30
controller_by nodes (Some value) =
    named_by (option_and_then (λ phandle. position (has_phandle phandle) nodes) (single_cell value))

-- the specifier with which cells begin, at a controller whose specifiers have so many
abbrev pub first_at : ℕ → ℕ → List ℕ → Hop
first_at node width cells = record { node = node; spec = take width cells }

-- the specifiers of a value at a controller that wants so many cells of each: V32 where it doesn't say how many, V33
-- where the value isn't whole specifiers
abbrev pub cut_by : ℕ → List Part → Option ℕ → Result (List Hop) Rule
cut_by node value None = Err rule.V32
cut_by node value (Some width) = if are_whole width (length (bytes_of value))
    then Ok (entries (first_at node width) width (value_cells value)) else Err rule.V33

abbrev pub cut_at : List NodeData → List Part → Result ℕ Rule → Result (List Hop) Rule
cut_at nodes value (Err broken) = Err broken
cut_at nodes value (Ok node) = cut_by node value (count_at nodes node (cells_name interrupt))

-- its specifiers; or the first rule that is broken
abbrev pub plain_in : List NodeData → ℕ → List Part → Result (List Hop) Rule
plain_in nodes id value = cut_at nodes value (controller_by nodes (interrupt_parent nodes id))

-- Both

-- `interrupts-extended` is taken before `interrupts`
abbrev pub written_by : List NodeData → ℕ → Option (List Part) → Option (List Part) → Option (Result (List Hop) Rule)
written_by nodes id (Some extended) plain = Some (extended_in nodes extended)
written_by nodes id None plain = option_map (plain_in nodes id) plain

-- the specifiers that the node at a place has written, whole, or the first rule that is broken; none where it has
-- written no interrupts
abbrev pub written : List NodeData → ℕ → Option (Result (List Hop) Rule)
written nodes id =
    written_by nodes id (prop_at nodes id (codes "interrupts-extended")) (prop_at nodes id (codes "interrupts"))
