-- What is in lists that are made of others.
use Rattle.std.proofs.Common.{◌≡◌, ◌≢◌, ◌==◌, ◌∙◌, ◌∷◌, [], ℕ, Bool, true, false, cond, not, List, Option, Some, None, map, refl, sym, ap, subst, inl, inr, arith}
use Rattle.std.specs.List.{Contains, filter, flat_map}
use Rattle.std.specs.Option.{option_to_list}
use Rattle.std.proofs.lemmas.Bool.Decides.{nat_tests}
use Rattle.std.proofs.lemmas.List.Elements.{Contains-append_cases, Contains-append_left, Contains-append_right}
use Rattle.dep_order.proofs.Listing.{cons_cases, here, none_in, there}

-- of which element an element of a joined list is
pub joined_from : {X : Type 0} (f : X → List ℕ) (xs : List X) (y : ℕ) → Contains (flat_map f xs) y → (x : X) × Contains xs x × Contains (f x) y
joined_from f [] y c = absurd (none_in y c)
joined_from f (x ∷ xs) y c =
    elim (Contains-append_cases (f x) (flat_map f xs) y c) [
      | inl front ↦ (x, here x xs, front)
      | inr back ↦ let found = joined_from f xs y back in (found.0, there x xs found.0 found.1, found.2)
    ]

pub joined_with : {X : Type 0} (f : X → List ℕ) (xs : List X) (x : X) (y : ℕ) → Contains xs x → Contains (f x) y → Contains (flat_map f xs) y
joined_with f [] x y c d = absurd (none_in x c)
joined_with {X = X} f (z ∷ xs) x y c d =
    elim (cons_cases z xs x c) [
      | inl same ↦ Contains-append_left (f z) (flat_map f xs) y (subst (λ (w : X). Contains (f w) y) (sym same) d)
      | inr back ↦ Contains-append_right (f z) (flat_map f xs) y (joined_with f xs x y back d)
    ]

-- the same of a list of values
pub value_from : {X : Type 0} (f : X → ℕ) (xs : List X) (y : ℕ) → Contains (map f xs) y → (x : X) × Contains xs x × (f x ≡ y)
value_from f [] y c = absurd (none_in y c)
value_from f (x ∷ xs) y c =
    elim (cons_cases (f x) (map f xs) y c) [
      | inl same ↦ (x, here x xs, same)
      | inr back ↦ let found = value_from f xs y back in (found.0, there x xs found.0 found.1, found.2)
    ]

pub value_with : {X : Type 0} (f : X → ℕ) (xs : List X) (x : X) → Contains xs x → Contains (map f xs) (f x)
value_with f [] x c = absurd (none_in x c)
value_with {X = X} f (z ∷ xs) x c =
    elim (cons_cases z xs x c) [
      | inl same ↦ subst (λ (w : X). Contains (f z ∷ map f xs) (f w)) same (here (f z) (map f xs))
      | inr back ↦ there (f z) (map f xs) (f x) (value_with f xs x back)
    ]

pub option_from : (o : Option ℕ) (y : ℕ) → Contains (option_to_list o) y → o ≡ Some y
option_from None y c = absurd (none_in y c)
option_from (Some x) y c =
    elim (cons_cases x [] y c) [
      | inl same ↦ ap Some same
      | inr back ↦ absurd (none_in y back)
    ]

pub option_with : (o : Option ℕ) (y : ℕ) → o ≡ Some y → Contains (option_to_list o) y
option_with None y e = cc
option_with (Some x) y e = let same : x ≡ y = cc in subst (λ z. Contains (z ∷ []) y) (sym same) (here y [])

-- what a filter leaves
pub kept_from : {X : Type 0} (p : X → Bool) (xs : List X) (y : X) → Contains (filter p xs) y → Contains xs y × (p y ≡ true)
kept_from p [] y c = absurd (none_in y c)
kept_from {X = X} p (x ∷ xs) y c = by_test (p x) refl c (kept_from p xs y)
  where
    by_test : (b : Bool) → p x ≡ b → Contains (cond b (x ∷ filter p xs) (filter p xs)) y → (Contains (filter p xs) y → Contains xs y × (p y ≡ true))
        → Contains (x ∷ xs) y × (p y ≡ true)
    by_test true e d next =
        elim (cons_cases x (filter p xs) y d) [
          | inl same ↦ (subst (λ (z : X). Contains (x ∷ xs) z) same (here x xs), subst (λ (z : X). p z ≡ true) same e)
          | inr back ↦ let left = next back in (there x xs y left.0, left.1)
        ]
    by_test false e d next = let left = next d in (there x xs y left.0, left.1)

pub kept_with : {X : Type 0} (p : X → Bool) (xs : List X) (y : X) → Contains xs y → p y ≡ true → Contains (filter p xs) y
kept_with p [] y c t = absurd (none_in y c)
kept_with {X = X} p (x ∷ xs) y c t =
    elim (cons_cases x xs y c) [
      | inl same ↦ at_head (p x) same (ap p same ∙ t)
      | inr back ↦ behind (p x) (kept_with p xs y back t)
    ]
  where
    at_head : (b : Bool) → x ≡ y → b ≡ true → Contains (cond b (x ∷ filter p xs) (filter p xs)) y
    at_head true same e = subst (λ (z : X). Contains (x ∷ filter p xs) z) same (here x (filter p xs))
    at_head false same e = cc

    behind : (b : Bool) → Contains (filter p xs) y → Contains (cond b (x ∷ filter p xs) (filter p xs)) y
    behind true d = there x (filter p xs) y d
    behind false d = d

pub differs : (x y : ℕ) → not (x == y) ≡ true → y ≢ x
differs x y e = λ same. grind (arith, nat_tests, e, same)

pub differ : (x y : ℕ) → (y ≢ x) → not (x == y) ≡ true
differ x y apart = grind (arith, nat_tests, apart)
