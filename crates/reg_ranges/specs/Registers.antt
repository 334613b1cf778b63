-- The registers of a node: the entries of its `reg`, by the counts of cells of its parent.
use Rattle.std.specs.Prelude.{◌+◌, ◌||◌, ℕ, Bool, not, List, [], ◌∷◌, Option, Some, None, Result, Ok, Err, codes, drop, length, nat_eq, if◌then◌else◌}
use Rattle.std.specs.List.{list_any}
use Rattle.edt_base.specs.NodeData.{NodeData, bytes_of, holds_number}
use Rattle.edt_base.specs.Nodes.{prop_at}
use Rattle.edt_base.specs.TreeData.{parent_of}
use Rattle.edt_base.specs.Values.{value_cells, names_fit, name_parts, entry_name}
use Rattle.edt_base.specs.declared.node.Part.{Part}
use Rattle.edt_base.specs.declared.bound.Reg.{Reg}
use Rattle.edt_base.specs.declared.fault.Rule.{Rule}
use Rattle.edt_base.specs.declared.fault.Rule.TheVariants as rule
use Rattle.reg_ranges.specs.Cutting.{some_number, entries, are_whole, address_cells, size_cells}
use Rattle.reg_ranges.specs.declared.registers.Cut.{Cut}

-- the first register of cells, of so many address and size cells
abbrev pub first_cut : ℕ → ℕ → List ℕ → Cut
first_cut a s cells = record { addr = some_number a cells; size = some_number s (drop a cells) }

-- the size is there, and is 0
abbrev pub is_empty_cut : Cut → Bool
is_empty_cut c = holds_number 0 c.size

-- the registers from a place on, each with the name at its place
abbrev pub with_names : ℕ → List Cut → List Part → List Reg
with_names i [] parts = []
with_names i (c ∷ cs) parts =
    record { addr = c.addr; size = c.size; name = entry_name parts i } ∷ with_names (i + 1) cs parts

-- the registers of these cuts, or the first rule that they break: a size of 0, names that don't fit
abbrev pub named_regs : List Cut → Option (List Part) → Result (List Reg) Rule
named_regs cuts names = if list_any is_empty_cut cuts then Err rule.V16
    else if not (names_fit (length cuts) names) then Err rule.V18
    else Ok (with_names 0 cuts (name_parts names))

-- the registers of a value, or the first rule that it breaks: entries of no cells or a rest, and then those above
abbrev pub cut_regs : ℕ → ℕ → List Part → Option (List Part) → Result (List Reg) Rule
cut_regs a s value names = if nat_eq (a + s) 0 || not (are_whole (a + s) (length (bytes_of value))) then Err rule.V15
    else named_regs (entries (first_cut a s) (a + s) (value_cells value)) names

-- the same, by counts of cells that may be wrong
abbrev pub counted_regs : Option ℕ → Option ℕ → List Part → Option (List Part) → Result (List Reg) Rule
counted_regs (Some a) (Some s) value names = cut_regs a s value names
counted_regs _ _ value names = Err rule.V17

-- the registers of a node without `reg`: none
abbrev pub regs_in : List NodeData → ℕ → ℕ → Option (List Part) → Result (List Reg) Rule
regs_in nodes up id None = Ok []
regs_in nodes up id (Some value) =
    counted_regs (address_cells nodes up) (size_cells nodes up) value (prop_at nodes id (codes "reg-names"))

-- the registers of a node below this one; the root, which is below none, has none
abbrev pub regs_below : List NodeData → Option ℕ → ℕ → Result (List Reg) Rule
regs_below nodes None id = Ok []
regs_below nodes (Some up) id = regs_in nodes up id (prop_at nodes id (codes "reg"))

-- the registers of the node at a place, with their addresses as they are written; or the first rule that is broken
abbrev pub regs_of : List NodeData → ℕ → Result (List Reg) Rule
regs_of nodes id = regs_below nodes (parent_of nodes id) id
