-- Lists: members, filters and what is picked.
use Rattle.std.proofs.Common.{◌≡◌, ◌∙◌, ◌+◌, ◌<◌, ◌≤◌, ◌++◌, ◌⊎◌, ◌∷◌, [], ℕ, zero, suc, Bool, true, false, not, cond, ◌&&◌, ◌||◌, List, Option, Some, None, map, refl, sym, ap, subst, inl, inr, arith, eqb}
use Rattle.std.specs.List.{list_any, list_all, filter, filter_map, range_with_len, cons_option}
use Rattle.std.proofs.lemmas.Bool.{false≢true}
use Rattle.std.proofs.lemmas.List.{append-nil}
use Rattle.std.proofs.lemmas.List.Elements.{filter-append}

pub and_parts : (a b : Bool) → (a && b) ≡ true → (a ≡ true) × (b ≡ true)
and_parts true true e = (refl, refl)
and_parts true false e = absurd (false≢true e)
and_parts false b e = absurd (false≢true e)

pub and_both : (a b : Bool) → a ≡ true → b ≡ true → (a && b) ≡ true
and_both a b e f = rw (e, f) refl

pub or_left : (a b : Bool) → a ≡ true → (a || b) ≡ true
or_left a b e = rw e refl

pub or_right : (a b : Bool) → b ≡ true → (a || b) ≡ true
or_right true b e = refl
or_right false b e = e

pub or_cases : (a b : Bool) → (a || b) ≡ true → (a ≡ true) ⊎ (b ≡ true)
or_cases true b e = inl refl
or_cases false b e = inr e

pub not_true : (a : Bool) → not a ≡ true → a ≡ false
not_true true e = absurd (false≢true e)
not_true false e = refl

pub true_or_false : (a : Bool) → (a ≡ true) ⊎ (a ≡ false)
true_or_false true = inl refl
true_or_false false = inr refl

-- ---- members

abbrev pub Member : {X : Type 0} → X → List X → Type 0
Member x [] = ⊥
Member x (y ∷ ys) = (y ≡ x) ⊎ Member x ys

pub any_find : {X : Type 0} (f : X → Bool) (xs : List X) → list_any f xs ≡ true → (x : X) × Member x xs × (f x ≡ true)
any_find f [] e = absurd (false≢true e)
any_find f (x ∷ xs) e = elim (or_cases (f x) (list_any f xs) e) [
  | inl h ↦ (x, inl refl, h)
  | inr h ↦ let r = any_find f xs h in (r.0, inr r.1, r.2)
]

pub any_give : {X : Type 0} (f : X → Bool) (xs : List X) (x : X) → Member x xs → f x ≡ true → list_any f xs ≡ true
any_give f [] x m e = absurd m
any_give f (y ∷ ys) x (inl h) e = or_left (f y) (list_any f ys) (ap f h ∙ e)
any_give f (y ∷ ys) x (inr m) e = or_right (f y) (list_any f ys) (any_give f ys x m e)

pub all_at : {X : Type 0} (f : X → Bool) (xs : List X) (x : X) → list_all f xs ≡ true → Member x xs → f x ≡ true
all_at f [] x e m = absurd m
all_at f (y ∷ ys) x e (inl h) = ap f (sym h) ∙ (and_parts (f y) (list_all f ys) e).0
all_at f (y ∷ ys) x e (inr m) = all_at f ys x (and_parts (f y) (list_all f ys) e).1 m

pub all_from : {X : Type 0} (f : X → Bool) (xs : List X) → ((x : X) → Member x xs → f x ≡ true) → list_all f xs ≡ true
all_from f [] h = refl
all_from f (y ∷ ys) h = and_both (f y) (list_all f ys) (h y (inl refl)) (all_from f ys (λ x m. h x (inr m)))

pub all_append : {X : Type 0} (f : X → Bool) (xs ys : List X) → list_all f xs ≡ true → list_all f ys ≡ true → list_all f (xs ++ ys) ≡ true
all_append f [] ys e g = g
all_append f (x ∷ xs) ys e g =
    let h = and_parts (f x) (list_all f xs) e in
    and_both (f x) (list_all f (xs ++ ys)) h.0 (all_append f xs ys h.1 g)

pub member_left : {X : Type 0} (x : X) (xs ys : List X) → Member x xs → Member x (xs ++ ys)
member_left x [] ys m = absurd m
member_left x (y ∷ xs) ys (inl h) = inl h
member_left x (y ∷ xs) ys (inr m) = inr (member_left x xs ys m)

pub member_right : {X : Type 0} (x : X) (xs ys : List X) → Member x ys → Member x (xs ++ ys)
member_right x [] ys m = m
member_right x (y ∷ xs) ys m = inr (member_right x xs ys m)

pub member_cases : {X : Type 0} (x : X) (xs ys : List X) → Member x (xs ++ ys) → Member x xs ⊎ Member x ys
member_cases x [] ys m = inr m
member_cases x (y ∷ xs) ys (inl h) = inl (inl h)
member_cases x (y ∷ xs) ys (inr m) = elim (member_cases x xs ys m) [ inl n ↦ inl (inr n) | inr n ↦ inr n ]

filter_by : {X : Type 0} (b : Bool) (p : X → Bool) (x y : X) (ys : List X) → p y ≡ b → Member x (cond b (y ∷ filter p ys) (filter p ys))
    → ((y ≡ x) × (p x ≡ true)) ⊎ Member x (filter p ys)
filter_by true p x y ys e (inl h) = inl (h, ap p (sym h) ∙ e)
filter_by true p x y ys e (inr m) = inr m
filter_by false p x y ys e m = inr m

pub member_of_filter : {X : Type 0} (p : X → Bool) (xs : List X) (x : X) → Member x (filter p xs) → Member x xs × (p x ≡ true)
member_of_filter p [] x m = absurd m
member_of_filter p (y ∷ ys) x m = elim (filter_by (p y) p x y ys refl m) [
  | inl h ↦ (inl h.0, h.1)
  | inr n ↦ let r = member_of_filter p ys x n in (inr r.0, r.1)
]

keep_by : {X : Type 0} (b : Bool) (p : X → Bool) (x y : X) (ys : List X) → p y ≡ b → p x ≡ true → (y ≡ x) ⊎ Member x (filter p ys)
    → Member x (cond b (y ∷ filter p ys) (filter p ys))
keep_by true p x y ys e k (inl h) = inl h
keep_by true p x y ys e k (inr m) = inr m
keep_by false p x y ys e k (inl h) = absurd (false≢true (sym e ∙ (ap p h ∙ k)))
keep_by false p x y ys e k (inr m) = m

pub member_in_filter : {X : Type 0} (p : X → Bool) (xs : List X) (x : X) → Member x xs → p x ≡ true → Member x (filter p xs)
member_in_filter p [] x m k = absurd m
member_in_filter p (y ∷ ys) x (inl h) k = keep_by (p y) p x y ys refl k (inl h)
member_in_filter p (y ∷ ys) x (inr m) k = keep_by (p y) p x y ys refl k (inr (member_in_filter p ys x m k))

pub member_in_map : {X Y : Type 0} (f : X → Y) (xs : List X) (x : X) → Member x xs → Member (f x) (map f xs)
member_in_map f [] x m = absurd m
member_in_map f (y ∷ ys) x (inl h) = inl (ap f h)
member_in_map f (y ∷ ys) x (inr m) = inr (member_in_map f ys x m)

pub member_of_map : {X Y : Type 0} (f : X → Y) (xs : List X) (y : Y) → Member y (map f xs) → (x : X) × Member x xs × (f x ≡ y)
member_of_map f [] y m = absurd m
member_of_map f (x ∷ xs) y (inl h) = (x, inl refl, h)
member_of_map f (x ∷ xs) y (inr m) = let r = member_of_map f xs y m in (r.0, inr r.1, r.2)

range_first : (i a : ℕ) → a ≤ i → (a ≡ i) ⊎ (a + 1 ≤ i)
range_first i a h = elim (true_or_false (eqb a i)) [ inl e ↦ grind (arith, Rattle.std.proofs.lemmas.Bool.Decides.nat_tests) | inr e ↦ grind (arith, Rattle.std.proofs.lemmas.Bool.Decides.nat_tests) ]

pub member_in_range : (i a n : ℕ) → a ≤ i → i < a + n → Member i (range_with_len a n)
member_in_range i a zero low high = absurd (omega arith)
member_in_range i a (suc n) low high = elim (range_first i a low) [
  | inl e ↦ inl e
  | inr l ↦ inr (member_in_range i (a + 1) n l (omega arith))
]

pub member_of_range : (i a n : ℕ) → Member i (range_with_len a n) → (a ≤ i) × (i < a + n)
member_of_range i a zero m = absurd m
member_of_range i a (suc n) (inl e) = (omega arith, omega arith)
member_of_range i a (suc n) (inr m) = let r = member_of_range i (a + 1) n m in (omega arith, omega arith)

pub range_more : (a n : ℕ) → range_with_len a (n + 1) ≡ range_with_len a n ++ (a + n) ∷ []
range_more a zero = let e : a + 0 ≡ a = omega arith in rw e refl
range_more a (suc n) =
    let e : suc n + 1 ≡ suc (n + 1) = omega arith in
    let f : (a + 1) + n ≡ a + suc n = omega arith in
    let h : range_with_len (a + 1) (n + 1) ≡ range_with_len (a + 1) n ++ (a + suc n) ∷ [] = subst (λ k. range_with_len (a + 1) (n + 1) ≡ range_with_len (a + 1) n ++ k ∷ []) f (range_more (a + 1) n) in
    subst (λ k. range_with_len a k ≡ range_with_len a (suc n) ++ (a + suc n) ∷ []) (sym e) (ap (λ t. a ∷ t) h)

-- ---- filters

-- one thing more at the end of a filter that lets it through
pub filter_push : {X : Type 0} (p : X → Bool) (xs : List X) (x : X) → p x ≡ true → filter p (xs ++ x ∷ []) ≡ filter p xs ++ x ∷ []
filter_push p xs x e = filter-append p xs (x ∷ []) ∙ ap (λ b. filter p xs ++ cond b (x ∷ []) []) e

pub filter_drop : {X : Type 0} (p : X → Bool) (xs : List X) (x : X) → p x ≡ false → filter p (xs ++ x ∷ []) ≡ filter p xs
filter_drop p xs x e = filter-append p xs (x ∷ []) ∙ (ap (λ b. filter p xs ++ cond b (x ∷ []) []) e ∙ append-nil (filter p xs))

swept_by : {X Y : Type 0} (a c : Bool) (v : X → Y) (k : Y → Bool) (x : X) (fs gs : List X) → k (v x) ≡ c → map v fs ≡ filter k (map v gs)
    → map v (cond (a && c) (x ∷ fs) fs) ≡ filter k (map v (cond a (x ∷ gs) gs))
swept_by true true v k x fs gs e h = ap (λ t. v x ∷ t) h ∙ ap (λ b. cond b (v x ∷ filter k (map v gs)) (filter k (map v gs))) (sym e)
swept_by true false v k x fs gs e h = h ∙ ap (λ b. cond b (v x ∷ filter k (map v gs)) (filter k (map v gs))) (sym e)
swept_by false c v k x fs gs e h = h

-- what is left by a test of what is shown, shown
pub filter_shown : {X Y : Type 0} (p q : X → Bool) (v : X → Y) (k : Y → Bool) → ((x : X) → q x ≡ (p x && k (v x)))
    → (xs : List X) → map v (filter q xs) ≡ filter k (map v (filter p xs))
filter_shown p q v k same [] = refl
filter_shown p q v k same (x ∷ xs) =
    ap (λ b. map v (cond b (x ∷ filter q xs) (filter q xs))) (same x)
    ∙ swept_by (p x) (k (v x)) v k x (filter q xs) (filter p xs) refl (filter_shown p q v k same xs)

alike_by : {X Y : Type 0} (b : Bool) (v w : X → Y) (x : X) (fs gs : List X) → v x ≡ w x → map v fs ≡ map w gs
    → map v (cond b (x ∷ fs) fs) ≡ map w (cond b (x ∷ gs) gs)
alike_by true v w x fs gs e h = ap (λ t. v x ∷ t) h ∙ ap (λ y. y ∷ map w gs) e
alike_by false v w x fs gs e h = h

-- two tests and two views that agree on a list
pub filter_alike : {X Y : Type 0} (p q : X → Bool) (v w : X → Y) (xs : List X) → ((x : X) → Member x xs → (q x ≡ p x) × (w x ≡ v x))
    → map w (filter q xs) ≡ map v (filter p xs)
filter_alike p q v w [] same = refl
filter_alike p q v w (x ∷ xs) same =
    let h = same x (inl refl) in
    ap (λ b. map w (cond b (x ∷ filter q xs) (filter q xs))) h.0
    ∙ alike_by (p x) w v x (filter q xs) (filter p xs) h.1 (filter_alike p q v w xs (λ y m. same y (inr m)))

-- ---- picks

kept_by : {X Y : Type 0} (o : Option Y) (b : Bool) (h : X → Option Y) (f : Y → Bool) (fs gs : List X) (x : X) → h x ≡ o → ((y : Y) → o ≡ Some y → b ≡ f y)
    → filter_map h fs ≡ filter f (filter_map h gs) → filter_map h (cond b (x ∷ fs) fs) ≡ filter f (cons_option o (filter_map h gs))
kept_by None true h f fs gs x e same r = ap (λ t. cons_option t (filter_map h fs)) e ∙ r
kept_by None false h f fs gs x e same r = r
kept_by (Some y) true h f fs gs x e same r =
    ap (λ t. cons_option t (filter_map h fs)) e ∙ (ap (λ t. y ∷ t) r ∙ ap (λ b. cond b (y ∷ filter f (filter_map h gs)) (filter f (filter_map h gs))) (same y refl))
kept_by (Some y) false h f fs gs x e same r = r ∙ ap (λ b. cond b (y ∷ filter f (filter_map h gs)) (filter f (filter_map h gs))) (same y refl)

-- what is picked from a filtered list
pub kept : {X Y : Type 0} (h : X → Option Y) (k : X → Bool) (f : Y → Bool) → ((x : X) (y : Y) → h x ≡ Some y → k x ≡ f y)
    → (xs : List X) → filter_map h (filter k xs) ≡ filter f (filter_map h xs)
kept h k f same [] = refl
kept h k f same (x ∷ xs) = kept_by (h x) (k x) h f (filter k xs) xs x refl (same x) (kept h k f same xs)
