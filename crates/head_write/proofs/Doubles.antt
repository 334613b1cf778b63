-- Behind the greatest place no double is met.
use Rattle.std.proofs.Common.{◌≡◌, ◌==◌, ◌+◌, ◌<◌, ◌∙◌, ℕ, false, List, [], ◌∷◌, get_or, ap, refl, arith}
use Rattle.std.proofs.lemmas.Bool.Decides.{nat_tests}
use Rattle.edt_base.specs.BoundData.{BoundData}
use Rattle.dt_names.specs.Facts.{FactData, facts}
use Rattle.head_write.specs.Header.{entries, entries_from}

-- a place above a number isn't it
apart : (place d : ℕ) → d < place → (place == d) ≡ false
apart place d above = grind (arith, nat_tests)

-- a double below the place is never met
past : (place other d : ℕ) (ds : List ℕ) (facts : List FactData) → d < place → entries_from place (d ∷ ds) facts ≡ entries_from other [] facts
past place other d ds [] above = refl
past place other d ds (f ∷ fs) above =
    let never : (place == d) ≡ false = apart place d above in
    let later : entries_from (place + 1) (d ∷ ds) fs ≡ entries_from (other + 1) [] fs = past (place + 1) (other + 1) d ds fs (omega arith) in
    rw never (ap (λ es. record { fact = f; is_double = false } ∷ es) later)

-- with no doubles left, the place doesn't matter
none_left : (place other : ℕ) (facts : List FactData) → entries_from place [] facts ≡ entries_from other [] facts
none_left place other [] = refl
none_left place other (f ∷ fs) = ap (λ es. record { fact = f; is_double = false } ∷ es) (none_left (place + 1) (other + 1) fs)

pub past_all : (place other : ℕ) (ds : List ℕ) (facts : List FactData) → ((k : ℕ) → get_or ds k 0 < place) → entries_from place ds facts ≡ entries_from other [] facts
past_all place other [] facts below = none_left place other facts
past_all place other (d ∷ ds) facts below = past place other d ds facts (below 0)

-- the definitions and the places of a bound tree
pub entries_are : (b : BoundData) (doubles : List ℕ) (fs : List FactData) → doubles ≡ b.doubles → fs ≡ facts b → entries_from 0 doubles fs ≡ entries b
unfolding entries
entries_are b doubles fs places all = ap (λ ds. entries_from 0 ds fs) places ∙ ap (λ xs. entries_from 0 b.doubles xs) all
