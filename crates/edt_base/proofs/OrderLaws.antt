-- An order of dependencies has each node once: what follows from it, and what it follows from.
use Rattle.std.proofs.Common.{◌≡◌, ℕ, zero, suc, ◌+◌, ◌<◌, List, [], ◌∷◌, ◌++◌, length, get_or, Some, sym, ap, subst, inl, inr, arith}
use Rattle.std.specs.List.{All, Contains, range_with_len, slice_get}
use Rattle.std.specs.List.Sorted.{IsPermutation}
use Rattle.std.proofs.lemmas.List.{length-append}
use Rattle.std.proofs.lemmas.List.Elements.{All-from_get_or, Contains-append_left, Contains-append_right, Contains-append_cases, Contains-push_cases}
use Rattle.std.proofs.lemmas.List.FromFn.{length-range_with_len, get_or-range_with_len}
use Rattle.std.proofs.lemmas.List.Sorted.{All-permutation, IsPermutation-refl, IsPermutation-sym, IsPermutation-trans, IsPermutation-cons, IsPermutation-middle, IsPermutation-to_front}
use Rattle.std.proofs.lemmas.Option.{slice_get_within, get_or_from_slice_get}

-- the ids in an order are below the count
pub order_below : (order : List ℕ) (count : ℕ) → IsPermutation order (range_with_len 0 count) → All (λ id. id < count) order
order_below order count h =
    let below : All (λ id. id < count) (range_with_len 0 count) =
    All-from_get_or (λ id. id < count) (range_with_len 0 count) 0 (λ i within.
    let e : get_or (range_with_len 0 count) i 0 ≡ 0 + i = get_or-range_with_len 0 count i 0 (omega (arith, length-range_with_len 0 count)) in
    omega (arith, length-range_with_len 0 count)) in
    All-permutation (λ id. id < count) (range_with_len 0 count) order (IsPermutation-sym order (range_with_len 0 count) h) below

-- one more number behind a range
pub range_more : (a n : ℕ) → range_with_len a (suc n) ≡ range_with_len a n ++ (a + n) ∷ []
range_more a zero = ap (λ m. m ∷ []) (omega arith)
range_more a (suc n) =
    let e : (a + 1) + n ≡ a + suc n = omega arith in
    ap (λ ms. a ∷ ms) (subst (λ m. range_with_len (a + 1) (suc n) ≡ range_with_len (a + 1) n ++ m ∷ []) e (range_more (a + 1) n))

-- an element parts its list in two
parted : (xs : List ℕ) (x : ℕ) → Contains xs x → (front : List ℕ) × (back : List ℕ) × (xs ≡ front ++ x ∷ back)
parted [] x (k, within, e) = absurd (omega arith)
parted (y ∷ ys) x (zero, within, e) = ([], ys, ap (λ z. z ∷ ys) e)
parted (y ∷ ys) x (suc k, within, e) =
    let rest = parted ys x (k, omega arith, e) in
    (y ∷ rest.0, rest.1, ap (λ zs. y ∷ zs) rest.2)

-- a list as long as a count that has each number below it has each once
all_once : (count : ℕ) (order : List ℕ) → length order ≡ count → ((id : ℕ) → id < count → Contains order id) → IsPermutation order (range_with_len 0 count)
all_once zero [] long each = IsPermutation-refl []
all_once zero (x ∷ xs) long each = absurd (omega arith)
all_once (suc m) order long each =
    let cut = parted order m (each m (omega arith)) in
    let front : List ℕ = cut.0 in
    let back : List ℕ = cut.1 in
    let is : order ≡ front ++ m ∷ back = cut.2 in
    let others : (id : ℕ) → id < m → Contains (front ++ back) id = λ id below.
    elim (Contains-append_cases front (m ∷ back) id (subst (λ xs. Contains xs id) is (each id (omega arith)))) [
      | inl c ↦ Contains-append_left front back id c
      | inr c ↦ elim (Contains-append_cases (m ∷ []) back id c) [
        | inl one ↦ absurd (other id below one)
        | inr d ↦ Contains-append_right front back id d
      ]
    ] in
    let rest : length (front ++ back) ≡ m = omega (arith, ap length is, length-append front (m ∷ back), length-append front back) in
    let below : IsPermutation (front ++ back) (range_with_len 0 m) = all_once m (front ++ back) rest others in
    let numbers : List ℕ = range_with_len 0 m in
    let last : numbers ++ m ∷ [] ≡ range_with_len 0 (suc m) =
    subst (λ k. numbers ++ k ∷ [] ≡ range_with_len 0 (suc m)) (omega arith) (sym (range_more 0 m)) in
    subst (λ ys. IsPermutation order ys) last (subst (λ xs. IsPermutation xs (numbers ++ m ∷ [])) (sym is)
    (IsPermutation-trans (front ++ m ∷ back) (m ∷ (front ++ back)) (numbers ++ m ∷ []) (IsPermutation-middle front m back)
    (IsPermutation-trans (m ∷ (front ++ back)) (m ∷ numbers) (numbers ++ m ∷ []) (IsPermutation-cons m (front ++ back) numbers below)
    (IsPermutation-sym (numbers ++ m ∷ []) (m ∷ numbers) (IsPermutation-to_front numbers m)))))
  where
    other : (id : ℕ) → id < m → Contains (m ∷ []) id → ⊥
    other id below c = elim (Contains-push_cases [] m id c) [ inl none ↦ absurd (omega (arith, none.1)) | inr e ↦ omega arith ]

-- an order as long as the count in which each id has a place has each once
pub order_from_places : (order : List ℕ) (count : ℕ) → length order ≡ count
    → ((id : ℕ) → id < count → (place : ℕ) × (slice_get order place ≡ Some id)) → IsPermutation order (range_with_len 0 count)
order_from_places order count long places = all_once count order long (λ id below.
    let p = places id below in
    (p.0, slice_get_within order p.0 id p.1, get_or_from_slice_get order p.0 id id p.1))
