-- Numbers in rising order.
use Rattle.std.specs.Prelude.{◌+◌, ◌≤◌, ℕ, List, [], ◌∷◌, ⊤}

-- each number is above the one before it, and the first is at least this
abbrev pub IsRisingFrom : ℕ → List ℕ → Type 0
IsRisingFrom least [] = ⊤
IsRisingFrom least (x ∷ xs) = (least ≤ x) × IsRisingFrom (x + 1) xs
