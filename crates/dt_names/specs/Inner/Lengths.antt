-- How long pieces are as spelled.
use Rattle.std.specs.Prelude.{◌-◌, ◌^◌, ℕ, List, length, min}
use Rattle.dt_names.specs.Pieces.{PieceData, spells}

-- the length of pieces as spelled, at most the greatest 64-bit number
abbrev pub spelled_size : List PieceData → ℕ
spelled_size ps = min (length (spells ps)) (2 ^ 64 - 1)
