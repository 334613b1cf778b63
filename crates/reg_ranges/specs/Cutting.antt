-- Cells of a property's value, and how they are cut into entries.
use Rattle.std.specs.Prelude.{◌-◌, ◌*◌, ◌%◌, ℕ, zero, suc, Bool, List, [], ◌∷◌, Option, Some, None, codes, take, nat_eq, nat_le, option_and_then, if◌then◌else◌}
use Rattle.edt_base.specs.Cells.{number_of_cells}
use Rattle.edt_base.specs.NodeData.{NodeData}
use Rattle.edt_base.specs.Nodes.{prop_at}
use Rattle.edt_base.specs.Values.{single_cell}
use Rattle.edt_base.specs.declared.node.Part.{Part}

-- the number of the first so many cells, the big end first
abbrev pub first_number : ℕ → List ℕ → ℕ
first_number count cells = number_of_cells (take count cells)

-- the same, but a number of no cells isn't there
abbrev pub some_number : ℕ → List ℕ → Option ℕ
some_number zero cells = None
some_number (suc n) cells = Some (first_number (suc n) cells)

-- after so many cells an entry begins, and after its first cell `gap` more belong to it. What `make` makes of each
abbrev pub entries_after : {X : Type 0} → (List ℕ → X) → ℕ → ℕ → List ℕ → List X
entries_after make gap skip [] = []
entries_after make gap zero (c ∷ cs) = make (c ∷ cs) ∷ entries_after make gap gap cs
entries_after make gap (suc skip) (c ∷ cs) = entries_after make gap skip cs

-- the entries of so many cells each, one after the other
abbrev pub entries : {X : Type 0} → (List ℕ → X) → ℕ → List ℕ → List X
entries make size cells = entries_after make (size - 1) 0 cells

-- so many bytes are whole entries of so many cells; of no cells they are where there are none
abbrev pub are_whole : ℕ → ℕ → Bool
are_whole zero bytes = nat_eq bytes 0
are_whole (suc cells) bytes = nat_eq (bytes % (4 * suc cells)) 0

-- a count of cells: one cell, 4 at most
abbrev pub up_to_four : ℕ → Option ℕ
up_to_four n = if nat_le n 4 then Some n else None

-- the count that a value gives, or so many where there is no value
abbrev pub counted : ℕ → Option (List Part) → Option ℕ
counted default None = Some default
counted default (Some parts) = option_and_then up_to_four (single_cell parts)

-- how many cells an address has in the children of the node at a place, and how many a size
abbrev pub address_cells : List NodeData → ℕ → Option ℕ
address_cells nodes id = counted 2 (prop_at nodes id (codes "#address-cells"))

abbrev pub size_cells : List NodeData → ℕ → Option ℕ
size_cells nodes id = counted 1 (prop_at nodes id (codes "#size-cells"))
