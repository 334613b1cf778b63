-- Lists in which nothing stands twice, and places in them.
use Rattle.std.proofs.Common.{◌≡◌, ◌∙◌, ◌+◌, ◌++◌, ◌∷◌, [], ℕ, zero, suc, Bool, true, false, cond, List, Some, map, refl, sym, ap, subst, inl, inr, arith}
use Rattle.std.specs.Prelude.{slice_get}
use Rattle.std.specs.List.{list_any, filter, filter_map, flat_map, fold, position_from}
use Rattle.std.proofs.lemmas.Bool.{true≢false, false_from_ne_true}
use Rattle.std.proofs.lemmas.Option.{same_Some, none-some}
use Rattle.dts_tree.specs.Places.{Place, place_eq}
use Rattle.dts_tree.specs.Deeds.{Deed}
use Rattle.dts_tree.specs.Live.{with_new, begun, spots}
use Rattle.dts_tree.proofs.Lists.{Member, any_give, member_cases, member_of_filter, member_in_map, member_left, member_right}
use Rattle.dts_tree.proofs.PlaceLaws.{same_place, place_self, place_is}

-- nothing stands in the list twice
abbrev pub Apart : {X : Type 0} → List X → Type 0
Apart [] = Unit {0}
Apart (x ∷ xs) = (Member x xs → ⊥) × Apart xs

pub apart_append : {X : Type 0} (xs ys : List X) → Apart xs → Apart ys → ((x : X) → Member x xs → Member x ys → ⊥) → Apart (xs ++ ys)
apart_append [] ys a b d = b
apart_append (x ∷ xs) ys a b d = (
  λ m. elim (member_cases x xs ys m) [ inl n ↦ a.0 n | inr n ↦ d x (inl refl) n ],
  apart_append xs ys a.1 b (λ y m n. d y (inr m) n),
)

filter_by : {X : Type 0} (b : Bool) (p : X → Bool) (x : X) (xs : List X) → (Member x xs → ⊥) → Apart (filter p xs) → Apart (cond b (x ∷ filter p xs) (filter p xs))
filter_by true p x xs n a = (λ m. n (member_of_filter p xs x m).0, a)
filter_by false p x xs n a = a

pub apart_filter : {X : Type 0} (p : X → Bool) (xs : List X) → Apart xs → Apart (filter p xs)
apart_filter p [] a = tt
apart_filter p (x ∷ xs) a = filter_by (p x) p x xs a.0 (apart_filter p xs a.1)

-- ---- lists of lists

pub flat_member : {X Y : Type 0} (f : X → List Y) (xs : List X) (y : Y) → Member y (flat_map f xs) → (x : X) × Member x xs × Member y (f x)
flat_member f [] y m = absurd m
flat_member f (x ∷ xs) y m = elim (member_cases y (f x) (flat_map f xs) m) [
  | inl n ↦ (x, inl refl, n)
  | inr n ↦ let r = flat_member f xs y n in (r.0, inr r.1, r.2)
]

pub member_flat : {X Y : Type 0} (f : X → List Y) (xs : List X) (x : X) (y : Y) → Member x xs → Member y (f x) → Member y (flat_map f xs)
member_flat f [] x y m n = absurd m
member_flat f (z ∷ xs) x y (inl e) n = member_left y (f z) (flat_map f xs) (subst (λ w. Member y (f w)) (sym e) n)
member_flat f (z ∷ xs) x y (inr m) n = member_right y (f z) (flat_map f xs) (member_flat f xs x y m n)

pub apart_flat : {X Y : Type 0} (f : X → List Y) (xs : List X) → Apart xs → ((x : X) → Member x xs → Apart (f x))
    → ((x y : X) (z : Y) → Member x xs → Member y xs → Member z (f x) → Member z (f y) → x ≡ y) → Apart (flat_map f xs)
apart_flat f [] a h d = tt
apart_flat f (x ∷ xs) a h d =
    apart_append (f x) (flat_map f xs) (h x (inl refl)) (apart_flat f xs a.1 (λ y m. h y (inr m)) (λ y w z m n. d y w z (inr m) (inr n)))
    (λ z m n.
    let r = flat_member f xs z n in
    let same : x ≡ r.0 = d x r.0 z (inl refl) (inr r.1) m r.2 in
    a.0 (subst (λ y. Member y xs) (sym same) r.1))

-- what is shown apart is apart
pub apart_shown : {X Y : Type 0} (f : X → Y) (xs : List X) → Apart (map f xs) → Apart xs
apart_shown f [] a = tt
apart_shown f (x ∷ xs) a = (λ m. a.0 (member_in_map f xs x m), apart_shown f xs a.1)

-- what is apart is shown apart, where what is shown tells things of the list apart
pub shown_apart : {X Y : Type 0} (f : X → Y) (xs : List X) → Apart xs → ((x y : X) → Member x xs → Member y xs → f x ≡ f y → x ≡ y) → Apart (map f xs)
shown_apart f [] a h = tt
shown_apart f (x ∷ xs) a h = (
  λ m.
      let r = Rattle.dts_tree.proofs.Lists.member_of_map f xs (f x) m in
      a.0 (subst (λ y. Member y xs) (h r.0 x (inr r.1) (inl refl) r.2) r.1),
  shown_apart f xs a.1 (λ y z m n. h y z (inr m) (inr n)),
)

-- ---- nodes and properties that are there

new_by : (b : Bool) (x : Place) (xs : List Place) → list_any (place_eq x) xs ≡ b → Apart xs → Apart (cond b xs (xs ++ x ∷ []))
new_by true x xs h a = a
new_by false x xs h a = apart_append xs (x ∷ []) a (λ m. m, tt) (λ y m n. elim n [
  | inl e ↦ true≢false (sym (any_give (place_eq x) xs x (subst (λ z. Member z xs) (sym e) m) (place_self x)) ∙ h)
  | inr k ↦ k
])

new_all : (ys acc : List Place) → Apart acc → Apart (fold (with_new place_eq) acc ys)
new_all [] acc a = a
new_all (y ∷ ys) acc a = new_all ys (with_new place_eq acc y) (new_by (list_any (place_eq y) acc) y acc refl a)

pub spots_apart : (us : List Deed) → Apart (spots us)
spots_apart us = new_all (filter_map begun us) ([] ∷ []) (λ m. m, tt)

-- ---- by index

pub member_at : {X : Type 0} (xs : List X) (i : ℕ) (x : X) → slice_get xs i ≡ Some x → Member x xs
member_at [] i x h = absurd (none-some x h)
member_at (y ∷ ys) zero x h = inl (same_Some y x h)
member_at (y ∷ ys) (suc i) x h = inr (member_at ys i x h)

pub index_of : {X : Type 0} (xs : List X) (x : X) → Member x xs → (i : ℕ) × (slice_get xs i ≡ Some x)
index_of [] x m = absurd m
index_of (y ∷ ys) x (inl e) = (zero, ap Some e)
index_of (y ∷ ys) x (inr m) = let r = index_of ys x m in (suc r.0, r.1)

pub same_index : {X : Type 0} (xs : List X) → Apart xs → (i j : ℕ) (x : X) → slice_get xs i ≡ Some x → slice_get xs j ≡ Some x → i ≡ j
same_index [] a i j x g h = absurd (none-some x g)
same_index (y ∷ ys) a zero zero x g h = refl
same_index (y ∷ ys) a zero (suc j) x g h = absurd (a.0 (member_at ys j y (h ∙ sym g)))
same_index (y ∷ ys) a (suc i) zero x g h = absurd (a.0 (member_at ys i y (g ∙ sym h)))
same_index (y ∷ ys) a (suc i) (suc j) x g h = ap suc (same_index ys a.1 i j x g h)

some_more : (first i : ℕ) → Some (first + 1 + i) ≡ Some (first + suc i)
some_more first i = let e : first + 1 + i ≡ first + suc i = omega arith in ap Some e

-- a place's number is its index
pub number_at : (ps : List Place) → Apart ps → (i first : ℕ) (p : Place) → slice_get ps i ≡ Some p → position_from (place_eq p) first ps ≡ Some (first + i)
number_at [] a i first p h = absurd (none-some p h)
number_at (q ∷ ps) a zero first p h =
    let e : first ≡ first + 0 = omega arith in
    ap (λ b. cond b (Some first) (position_from (place_eq p) (first + 1) ps)) (place_is p q (sym (same_Some q p h))) ∙ ap Some e
number_at (q ∷ ps) a (suc i) first p h =
    let other : place_eq p q ≡ false = false_from_ne_true (place_eq p q) (λ e. a.0 (subst (λ x. Member x ps) (same_place p q e) (member_at ps i p h))) in
    ap (λ b. cond b (Some first) (position_from (place_eq p) (first + 1) ps)) other
    ∙ (number_at ps a.1 i (first + 1) p h ∙ some_more first i)

number_by : (b : Bool) (p q : Place) (ps : List Place) (first k : ℕ) → place_eq p q ≡ b → cond b (Some first) (position_from (place_eq p) (first + 1) ps) ≡ Some k
    → (position_from (place_eq p) (first + 1) ps ≡ Some k → (i : ℕ) × (k ≡ first + 1 + i) × (slice_get ps i ≡ Some p))
    → (i : ℕ) × (k ≡ first + i) × (slice_get (q ∷ ps) i ≡ Some p)
number_by true p q ps first k e h next =
    let s : first ≡ k = same_Some first k h in
    (zero, omega arith, ap Some (sym (same_place p q e)))
number_by false p q ps first k e h next =
    let r = next h in
    let s : k ≡ first + 1 + r.0 = r.1 in
    (suc r.0, omega arith, r.2)

-- what has a number stands there
pub number_is : (ps : List Place) (first k : ℕ) (p : Place) → position_from (place_eq p) first ps ≡ Some k → (i : ℕ) × (k ≡ first + i) × (slice_get ps i ≡ Some p)
number_is [] first k p h = absurd (none-some k h)
number_is (q ∷ ps) first k p h = number_by (place_eq p q) p q ps first k refl h (number_is ps (first + 1) k p)
