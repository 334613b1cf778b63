-- The text of the property in a name that speaks of it.
use Rattle.std.proofs.Common.{◌≡◌, ℕ, List, [], ◌∷◌, codes, ap, take, if◌then◌else◌}
use Rattle.dt_names.specs.Inner.Keys.{is_of_prop}
use Rattle.dt_names.specs.Pieces.{PieceData, lit, form}

pub prop_part : (name : List ℕ) (rest tail : List PieceData) → rest ≡ lit (codes "_P_") ∷ form name ∷ tail
    → (if is_of_prop rest then take 2 rest else []) ≡ lit (codes "_P_") ∷ form name ∷ []
prop_part name rest tail e = ap (λ r. if is_of_prop r then take 2 r else []) e
