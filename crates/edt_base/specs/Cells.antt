-- Bytes, cells and numbers: the definitions that all layers share.
use Rattle.std.specs.Prelude.{◌+◌, ◌*◌, ◌^◌, ℕ, List, [], ◌∷◌, Option, Some, None, length, fold, nat_eq, if◌then◌else◌}
use Rattle.std.specs.Int.{w32, to_be_bytes, from_be_bytes}

-- the four bytes of a cell, the big end first
abbrev pub cell_bytes : ℕ → List ℕ
cell_bytes n = to_be_bytes w32 n

-- the number of four bytes, the big end first; other lists are no cell
abbrev pub cell_of : List ℕ → Option ℕ
cell_of bytes = if nat_eq (length bytes) 4 then Some (from_be_bytes w32 bytes) else None

-- the cells of a list of bytes, four bytes each; a rest of 1 to 3 bytes is no cell
abbrev pub cells_of : List ℕ → List ℕ
cells_of [] = []
cells_of (a ∷ []) = []
cells_of (a ∷ b ∷ []) = []
cells_of (a ∷ b ∷ c ∷ []) = []
cells_of (a ∷ b ∷ c ∷ d ∷ rest) = from_be_bytes w32 (a ∷ b ∷ c ∷ d ∷ []) ∷ cells_of rest

-- the number of a list of cells, the big end first
abbrev pub number_of_cells : List ℕ → ℕ
number_of_cells cells = fold (λ n c. n * 2 ^ 32 + c) 0 cells
