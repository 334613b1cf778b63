-- Numbers in rising order: there is one such list, and it is `rising`.
use Rattle.std.proofs.Common.{◌≡◌, ◌==◌, ℕ, zero, suc, ◌+◌, ◌<◌, ◌≤◌, Bool, true, false, List, [], ◌∷◌, length, get_or, nat_le, sym, arith, refl, ap, if◌then◌else◌}
use Rattle.std.specs.List.{sum_by}
use Rattle.std.specs.List.Sorted.{IsPermutation, IsNonDecreasing, IsSorted}
use Rattle.std.specs.Ordering.{nat_cmp, is_lt}
use Rattle.std.proofs.lemmas.Bool.Decides.{nat_tests}
use Rattle.std.proofs.lemmas.List.Sums.{sum_by-cons}
use Rattle.std.proofs.lemmas.List.Sorted.{sum_by-IsPermutation, IsNonDecreasingBy-from_all_adjacent}
use Rattle.edt_base.specs.Ords.{insert_rising, rising}

-- how often a number stands in a list
abbrev one : ℕ → ℕ → ℕ
one v x = if x == v then 1 else 0

abbrev count : ℕ → List ℕ → ℕ
count v [] = 0
count v (x ∷ xs) = one v x + count v xs

-- each number is at least the one before it, the first at least the bound
abbrev pub RisesFrom : ℕ → List ℕ → Type 0
RisesFrom b [] = Unit {0}
RisesFrom b (x ∷ xs) = (b ≤ x) × RisesFrom x xs

one_same : (v : ℕ) → one v v ≡ 1
one_same v = grind (arith, nat_tests)

one_other : (v x : ℕ) → (x ≡ v → ⊥) → one v x ≡ 0
one_other v x h = grind (arith, nat_tests)

none_below : (v b : ℕ) (xs : List ℕ) → v < b → RisesFrom b xs → count v xs ≡ 0
none_below v b [] h r = refl
none_below v b (x ∷ xs) h r =
    let here : one v x ≡ 0 = one_other v x (λ e. omega (arith, h, r.0, e)) in
    let there : count v xs ≡ 0 = none_below v x xs (omega (arith, h, r.0)) r.1 in
    omega (arith, here, there)

heads : (x y : ℕ) (xs ys : List ℕ) → RisesFrom x xs → RisesFrom y ys → one x x + count x xs ≡ one x y + count x ys → x < y → ⊥
heads x y xs ys p q c less =
    let here : one x y ≡ 0 = one_other x y (λ e. omega (arith, less, e)) in
    let there : count x ys ≡ 0 = none_below x y ys less q in
    omega (arith, one_same x, here, there, c)

pub unique : (b : ℕ) (xs ys : List ℕ) → RisesFrom b xs → RisesFrom b ys → ((v : ℕ) → count v xs ≡ count v ys) → xs ≡ ys
unique b [] [] p q c = refl
unique b [] (y ∷ ys) p q c = absurd (omega (arith, c y, one_same y))
unique b (x ∷ xs) [] p q c = absurd (omega (arith, c x, one_same x))
unique b (x ∷ xs) (y ∷ ys) p q c =
    let same : x ≡ y = meet x y (heads x y xs ys p.1 q.1 (c x)) (heads y x ys xs q.1 p.1 (sym (c y))) in
    let tails : (v : ℕ) → count v xs ≡ count v ys = λ v. omega (arith, c v, ap (one v) same) in
    let q' : RisesFrom x ys = search (same, q.1) in
    rw same (ap (λ zs. y ∷ zs) (unique x xs ys p.1 q' tails))
  where
    meet : (x y : ℕ) → (x < y → ⊥) → (y < x → ⊥) → x ≡ y
    meet x y f g = grind (arith, f, g)

rises_insert : (b x : ℕ) (ys : List ℕ) → b ≤ x → RisesFrom b ys → RisesFrom b (insert_rising x ys)
rises_insert b x [] h r = (h, tt)
rises_insert b x (y ∷ ys) h r = put (nat_le x y) refl (λ le. rises_insert y x ys le r.1)
  where
    put : (t : Bool) → t ≡ nat_le x y → (y ≤ x → RisesFrom y (insert_rising x ys)) → RisesFrom b (if t then x ∷ y ∷ ys else y ∷ insert_rising x ys)
    put true e next = (h, (grind (arith, nat_tests, e), r.1))
    put false e next = (r.0, next (grind (arith, nat_tests, e)))

count_insert : (v x : ℕ) (ys : List ℕ) → count v (insert_rising x ys) ≡ one v x + count v ys
count_insert v x [] = refl
count_insert v x (y ∷ ys) = put (nat_le x y) (count_insert v x ys)
  where
    put : (t : Bool) → count v (insert_rising x ys) ≡ one v x + count v ys → count v (if t then x ∷ y ∷ ys else y ∷ insert_rising x ys) ≡ one v x + (one v y + count v ys)
    put true h = refl
    put false h = omega (arith, h)

rising_rises : (xs : List ℕ) → RisesFrom 0 (rising xs)
rising_rises [] = tt
rising_rises (x ∷ xs) = rises_insert 0 x (rising xs) (omega arith) (rising_rises xs)

rising_counts : (v : ℕ) (xs : List ℕ) → count v (rising xs) ≡ count v xs
rising_counts v [] = refl
rising_counts v (x ∷ xs) = omega (arith, count_insert v x (rising xs), rising_counts v xs)

count_is : (v : ℕ) (xs : List ℕ) → sum_by (one v) xs ≡ count v xs
count_is v [] = refl
count_is v (x ∷ xs) = omega (arith, sum_by-cons (one v) x xs, count_is v xs)

rises : (b : ℕ) (xs : List ℕ) → ((d : ℕ) → 0 < length xs → b ≤ get_or xs 0 d) → IsNonDecreasing xs → RisesFrom b xs
rises b [] f s = tt
rises b (x ∷ xs) f s = (
  f 0 (omega arith),
  rises x xs (λ d more. s 0 (suc zero) d (omega arith) (omega (arith, more)))
      (λ i j d le lt. s (suc i) (suc j) d (omega (arith, le)) (omega (arith, lt))),
)

-- a sort's result is the numbers in rising order
pub sorted_is : (xs ys : List ℕ) → IsPermutation xs ys → IsSorted nat_cmp ys → ys ≡ rising xs
sorted_is xs ys p s =
    let up : IsNonDecreasing ys = IsNonDecreasingBy-from_all_adjacent (λ x. x) ys (λ k d within. step _ _ (s k d (omega arith) within)) in
    unique 0 ys (rising xs) (rises 0 ys (λ d more. omega arith) up) (rising_rises xs)
    (λ v. omega (arith, rising_counts v xs, count_is v xs, count_is v ys, sum_by-IsPermutation (one v) xs ys p))
  where
    step : (x y : ℕ) → is_lt (nat_cmp y x) ≡ false → x ≤ y
    step x y h = grind (arith, nat_tests, h)
