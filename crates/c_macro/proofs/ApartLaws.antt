-- Names that are sorted: no name stands twice exactly where each is below the next.
use Rattle.std.proofs.Common.{◌≡◌, ℕ, ◌+◌, Bool, true, false, not, ◌||◌, List, [], ◌∷◌, map, length, get_or, refl, sym, subst, ◌∙◌, arith, inl, inr}
use Rattle.std.specs.Ordering.{is_lt, is_eq, ordering_reverse, eq_by_cmp, nat_cmp}
use Rattle.std.specs.declared.cmp.Ordering.{Ordering}
use Rattle.std.specs.declared.cmp.Ordering.TheVariants.{Less, Equal, Greater}
use Rattle.std.specs.List.{list_any, AllByRecursion, IsDistinct, AllAdjacentBelow, IsAllAdjacentAnswer}
use Rattle.std.specs.List.Sorted.{IsPermutation, IsSorted}
use Rattle.std.specs.Str.{bytes_eq}
use Rattle.std.specs.Cmp.Lexicographic.{slice_cmp, on_texts, texts_ties, nat_list_eq_equiv, nat_list_cmp_total}
use Rattle.std.proofs.lemmas.Bool.{cases_Bool, and_parts}
use Rattle.std.proofs.lemmas.List.Sorted.{IsPermutation-sym}
use Rattle.std.proofs.lemmas.Map.Keys.{IsDistinct-from_sorted, IsDistinct-IsPermutation, apart_from_distinct, sorted_from_all_adjacent}
use Rattle.c_macro.specs.Directive.{all_differ}

-- the order of values that have a text
abbrev pub by : {X : Type 0} → (X → List ℕ) → X → X → Ordering
by f x y = slice_cmp nat_cmp (f x) (f y)

abbrev pub same : {X : Type 0} → (X → List ℕ) → X → X → Bool
same f x y = bytes_eq (f x) (f y)

pub none_is : {X : Type 0} (f : X → List ℕ) (x : X) (ys : List X) → AllByRecursion (λ y. same f x y ≡ false) ys → list_any (bytes_eq (f x)) (map f ys) ≡ false
none_is f x [] h = refl
none_is f x (y ∷ ys) h = rw (h.0, none_is f x ys h.1) refl

pub or_parts : (a b : Bool) → (a || b) ≡ false → (a ≡ false) × (b ≡ false)
or_parts true b h = cc
or_parts false b h = (refl, h)

pub not_parts : (a : Bool) → not a ≡ true → a ≡ false
not_parts true h = cc
not_parts false h = refl

pub none_from : {X : Type 0} (f : X → List ℕ) (x : X) (ys : List X) → list_any (bytes_eq (f x)) (map f ys) ≡ false → AllByRecursion (λ y. same f x y ≡ false) ys
none_from f x [] h = tt
none_from f x (y ∷ ys) h =
    let p : (same f x y ≡ false) × (list_any (bytes_eq (f x)) (map f ys) ≡ false) = or_parts _ _ h in
    (p.0, none_from f x ys p.1)

pub differ_from_distinct : {X : Type 0} (f : X → List ℕ) (xs : List X) → IsDistinct (same f) xs → all_differ (map f xs) ≡ true
unfolding IsDistinct
differ_from_distinct f [] h = refl
differ_from_distinct f (x ∷ xs) h = rw (none_is f x xs h.0, differ_from_distinct f xs h.1) refl

pub distinct_from_differ : {X : Type 0} (f : X → List ℕ) (xs : List X) → all_differ (map f xs) ≡ true → IsDistinct (same f) xs
unfolding IsDistinct
distinct_from_differ f [] h = tt
distinct_from_differ f (x ∷ xs) h =
    let p : (not (list_any (bytes_eq (f x)) (map f xs)) ≡ true) × (all_differ (map f xs) ≡ true) = and_parts _ _ h in
    (none_from f x xs (not_parts _ p.0), distinct_from_differ f xs p.1)

pub less_from : (o : Ordering) → is_lt o ≡ true → o ≡ Less
less_from Less h = refl
less_from Equal h = cc
less_from Greater h = cc

pub tied_from : (o p : Ordering) → o ≡ ordering_reverse p → is_lt o ≡ false → is_lt p ≡ false → is_eq o ≡ true
tied_from Less p e h k = cc
tied_from Equal p e h k = refl
tied_from Greater Less e h k = cc
tied_from Greater Equal e h k = cc
tied_from Greater Greater e h k = cc

pub distinct_from_rising : {X : Type 0} (f : X → List ℕ) (ys : List X) → AllAdjacentBelow (λ x y. true ≡ is_lt (by f x y)) ys (length ys) → IsDistinct (same f) ys
unfolding IsDistinct
distinct_from_rising f [] a = tt
distinct_from_rising {X} f (y ∷ ys) a =
    let P : (X → X → Bool) → Type 0 = λ e. IsDistinct e (y ∷ ys) in
    let ties : same f ≡ eq_by_cmp (by f) = λ i x z. texts_ties (f x) (f z) i in
    subst P (sym ties)
    (IsDistinct-from_sorted (by f) (y ∷ ys) (sorted_from_all_adjacent (on_texts f) (y ∷ ys) y (λ k h. less_from _ (sym (a k y h)))))

pub same_flips : {X : Type 0} (f : X → List ℕ) (x y : X) → same f x y ≡ same f y x
same_flips f x y = nat_list_eq_equiv.symm (f x) (f y)

pub differ_from_sorted : {X : Type 0} (f : X → List ℕ) (xs ys : List X) (r : Bool) → IsPermutation xs ys → IsSorted (by f) ys
    → IsAllAdjacentAnswer (λ x y b. b ≡ is_lt (by f x y)) ys r → r ≡ all_differ (map f xs)
differ_from_sorted f xs ys true p s a =
    sym (differ_from_distinct f xs (IsDistinct-IsPermutation (same f) (same_flips f) ys xs (IsPermutation-sym xs ys p) (distinct_from_rising f ys a)))
differ_from_sorted f xs [] false p s (k, h, a) = absurd (omega arith)
differ_from_sorted f xs (y ∷ ys) false p s (k, h, a) = elim (cases_Bool (all_differ (map f xs))) [
  | inr q ↦ sym q
  | inl q ↦
      let d : IsDistinct (same f) (y ∷ ys) = IsDistinct-IsPermutation (same f) (same_flips f) xs (y ∷ ys) p (distinct_from_differ f xs q) in
      let apart : same f (get_or (y ∷ ys) k y) (get_or (y ∷ ys) (k + 1) y) ≡ false = apart_from_distinct (same f) (y ∷ ys) k (k + 1) y d (omega arith) h in
      let tied : is_eq (by f (get_or (y ∷ ys) k y) (get_or (y ∷ ys) (k + 1) y)) ≡ true
      = tied_from _ _ (nat_list_cmp_total.antisymm (f (get_or (y ∷ ys) k y)) (f (get_or (y ∷ ys) (k + 1) y))) (sym (a y)) (s k y (omega arith) h) in
      let t : same f (get_or (y ∷ ys) k y) (get_or (y ∷ ys) (k + 1) y) ≡ true = texts_ties (f (get_or (y ∷ ys) k y)) (f (get_or (y ∷ ys) (k + 1) y)) ∙ tied in
      cc
]
