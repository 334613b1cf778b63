-- Membership in lists, in the words of the order.
use Rattle.std.proofs.Common.{◌≡◌, ◌∙◌, ◌+◌, ◌≤◌, ◌⊎◌, ◌∷◌, [], ℕ, zero, suc, Bool, true, false, cond, List, Some, length, take, drop, slice_get, slice_index_or, slice_set, refl, sym, ap, subst, inl, inr, arith}
use Rattle.std.specs.List.{All, Contains, prefix_len}
use Rattle.std.specs.BTreeSet.{insert_key}
use Rattle.std.specs.Ordering.{nat_cmp, match_ordering}
use Rattle.std.specs.declared.cmp.Ordering.{Ordering}
use Rattle.std.specs.declared.cmp.Ordering.TheVariants.{Less, Equal, Greater}
use Rattle.std.proofs.lemmas.List.{take-append-drop}
use Rattle.std.proofs.lemmas.List.Elements.{All-nil, All-cons, All-contains, All-contains_itself, All-weaker, Contains-append_left, Contains-append_right}
use Rattle.std.proofs.lemmas.Option.{slice_get_within, slice_get-get_or, get_or_from_slice_get}
use Rattle.std.proofs.lemmas.Map.Lookups.{exact_unsigned}
use Rattle.std.proofs.lemmas.Map.Views.{All-insert_key}

pub contains_at : {X : Type 0} (xs : List X) (i : ℕ) (x : X) → slice_get xs i ≡ Some x → Contains xs x
contains_at xs i x e = (i, slice_get_within xs i x e, get_or_from_slice_get xs i x x e)

pub place_of : {X : Type 0} (xs : List X) (x : X) → Contains xs x → (i : ℕ) × (slice_get xs i ≡ Some x)
place_of xs x (k, within, e) = (k, slice_get-get_or xs k x within ∙ ap Some e)

pub here : {X : Type 0} (x : X) (xs : List X) → Contains (x ∷ xs) x
here x xs = (0, omega arith, refl)

pub there : {X : Type 0} (x : X) (xs : List X) (y : X) → Contains xs y → Contains (x ∷ xs) y
there x xs y c = Contains-append_right (x ∷ []) xs y c

pub cons_cases : {X : Type 0} (x : X) (xs : List X) (y : X) → Contains (x ∷ xs) y → (x ≡ y) ⊎ Contains xs y
cons_cases x xs y (zero, within, e) = inl e
cons_cases x xs y (suc k, within, e) = inr (k, omega arith, e)

pub none_in : {X : Type 0} (y : X) → Contains [] y → ⊥
none_in y (k, within, e) = omega arith

pub from_take : {X : Type 0} (n : ℕ) (xs : List X) (x : X) → Contains (take n xs) x → Contains xs x
from_take n xs x c = subst (λ ys. Contains ys x) (take-append-drop n xs) (Contains-append_left (take n xs) (drop n xs) x c)

-- what is in an element of a list of lists is in it after one list is changed, unless it was that one
pub in_set : {X : Type 0} (ls : List (List X)) (i : ℕ) (new : List X) (j : ℕ) (x : X) → Contains (slice_index_or (slice_set ls i new) j []) x
    → ((j ≡ i) × Contains new x) ⊎ Contains (slice_index_or ls j []) x
in_set [] i new j x c = inr c
in_set (l ∷ ls) zero new zero x c = inl (refl, c)
in_set (l ∷ ls) zero new (suc j) x c = inr c
in_set (l ∷ ls) (suc i) new zero x c = inr c
in_set (l ∷ ls) (suc i) new (suc j) x c = elim (in_set ls i new j x c) [ inl (e, d) ↦ inl (ap suc e, d) | inr d ↦ inr d ]

pub into_set : {X : Type 0} (ls : List (List X)) (i : ℕ) (new : List X) (j : ℕ) (x : X) → Contains (slice_index_or ls j []) x
    → ((j ≡ i) × Contains (slice_index_or ls j []) x) ⊎ Contains (slice_index_or (slice_set ls i new) j []) x
into_set [] i new j x c = inr c
into_set (l ∷ ls) zero new zero x c = inl (refl, c)
into_set (l ∷ ls) zero new (suc j) x c = inr c
into_set (l ∷ ls) (suc i) new zero x c = inr c
into_set (l ∷ ls) (suc i) new (suc j) x c = elim (into_set ls i new j x c) [ inl (e, d) ↦ inl (ap suc e, d) | inr d ↦ inr d ]

-- ---- the numbers that are ready

inserted_by : (o : Ordering) (k x : ℕ) (xs : List ℕ) → nat_cmp k x ≡ o → Contains (insert_key nat_cmp xs k) k
    → Contains (match_ordering o (k ∷ x ∷ xs) (x ∷ xs) (x ∷ insert_key nat_cmp xs k)) k
inserted_by Less k x xs e c = here k (x ∷ xs)
inserted_by Equal k x xs e c = subst (λ y. Contains (x ∷ xs) y) (sym (exact_unsigned k x e)) (here x xs)
inserted_by Greater k x xs e c = there x (insert_key nat_cmp xs k) k c

pub inserted : (xs : List ℕ) (k : ℕ) → Contains (insert_key nat_cmp xs k) k
inserted [] k = here k []
inserted (x ∷ xs) k = inserted_by (nat_cmp k x) k x xs refl (inserted xs k)

kept_by : (o : Ordering) (k x y : ℕ) (xs : List ℕ) → (Contains xs y → Contains (insert_key nat_cmp xs k) y) → (x ≡ y) ⊎ Contains xs y
    → Contains (match_ordering o (k ∷ x ∷ xs) (x ∷ xs) (x ∷ insert_key nat_cmp xs k)) y
kept_by Less k x y xs go (inl e) = subst (λ z. Contains (k ∷ x ∷ xs) z) e (there k (x ∷ xs) x (here x xs))
kept_by Less k x y xs go (inr c) = there k (x ∷ xs) y (there x xs y c)
kept_by Equal k x y xs go (inl e) = subst (λ z. Contains (x ∷ xs) z) e (here x xs)
kept_by Equal k x y xs go (inr c) = there x xs y c
kept_by Greater k x y xs go (inl e) = subst (λ z. Contains (x ∷ insert_key nat_cmp xs k) z) e (here x (insert_key nat_cmp xs k))
kept_by Greater k x y xs go (inr c) = there x (insert_key nat_cmp xs k) y (go c)

pub insert_kept : (xs : List ℕ) (k y : ℕ) → Contains xs y → Contains (insert_key nat_cmp xs k) y
insert_kept [] k y c = absurd (none_in y c)
insert_kept (x ∷ xs) k y c = kept_by (nat_cmp k x) k x y xs (insert_kept xs k y) (cons_cases x xs y c)

pub inserted_cases : (xs : List ℕ) (k y : ℕ) → Contains (insert_key nat_cmp xs k) y → (y ≡ k) ⊎ Contains xs y
inserted_cases xs k y c =
    let P : ℕ → Type 0 = λ z. (z ≡ k) ⊎ Contains xs z in
    All-contains P (insert_key nat_cmp xs k) y
    (All-insert_key nat_cmp k P xs (All-weaker (Contains xs) P (λ z d. inr d) xs (All-contains_itself xs)) (inl refl)) c

-- ---- how many pass a test, from the first on

prefix_by : {X : Type 0} (p : X → Bool) (b : Bool) (x : X) (xs : List X) (n : ℕ) → p x ≡ b → All (λ y. p y ≡ true) (take n xs)
    → All (λ y. p y ≡ true) (take (cond b (1 + n) 0) (x ∷ xs))
prefix_by p true x xs n e rest = let one : suc n ≡ 1 + n = omega arith in
    subst (λ m. All (λ y. p y ≡ true) (take m (x ∷ xs))) one (All-cons (λ y. p y ≡ true) x (take n xs) e rest)
prefix_by p false x xs n e rest = All-nil (λ y. p y ≡ true)

pub prefix_pass : {X : Type 0} (p : X → Bool) (xs : List X) → All (λ y. p y ≡ true) (take (prefix_len p xs) xs)
prefix_pass p [] = All-nil (λ y. p y ≡ true)
prefix_pass p (x ∷ xs) = prefix_by p (p x) x xs (prefix_len p xs) refl (prefix_pass p xs)

next_by : {X : Type 0} (p : X → Bool) (b : Bool) (x : X) (xs : List X) (n : ℕ) (y : X) → p x ≡ b → (slice_get xs n ≡ Some y → p y ≡ false)
    → slice_get (x ∷ xs) (cond b (1 + n) 0) ≡ Some y → p y ≡ false
next_by p true x xs n y e go h = let one : 1 + n ≡ suc n = omega arith in go (subst (λ m. slice_get (x ∷ xs) m ≡ Some y) one h)
next_by p false x xs n y e go h = let s : Some x ≡ Some y = h in let q : x ≡ y = cc in sym (ap p q) ∙ e

pub prefix_next : {X : Type 0} (p : X → Bool) (xs : List X) (y : X) → slice_get xs (prefix_len p xs) ≡ Some y → p y ≡ false
prefix_next p [] y h = cc
prefix_next p (x ∷ xs) y h = next_by p (p x) x xs (prefix_len p xs) y refl (prefix_next p xs y) h

le_by : (b : Bool) (n m : ℕ) → n ≤ m → cond b (1 + n) 0 ≤ suc m
le_by true n m h = omega arith
le_by false n m h = omega arith

pub prefix_le : {X : Type 0} (p : X → Bool) (xs : List X) → prefix_len p xs ≤ length xs
prefix_le p [] = omega arith
prefix_le p (x ∷ xs) = le_by (p x) (prefix_len p xs) (length xs) (prefix_le p xs)
