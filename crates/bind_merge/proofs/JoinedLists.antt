-- What two lists of entries in order make, joined.
use Rattle.std.proofs.Common.{◌≡◌, ◌⊎◌, inl, inr, ◌∙◌, sym, ap, subst, ℕ, List, [], ◌∷◌}
use Rattle.std.specs.Cmp.Lexicographic.{slice_cmp, nat_list_cmp_total}
use Rattle.std.specs.Ordering.{nat_cmp, ordering_reverse}
use Rattle.std.specs.declared.cmp.Ordering.TheVariants.{Less, Greater}
use Rattle.std.proofs.lemmas.Map.Lookups.{exact_bytes}
use Rattle.bind_merge.specs.Facts.{Setting, kind, IsGiven}
use Rattle.bind_merge.specs.Levels.{EntryData}
use Rattle.bind_merge.specs.Joining.{Joins, none_left, none_right, left_first, right_first, together}
use Rattle.bind_merge.specs.Ordered.{IsBefore, IsBeforeAll, Rises}
use Rattle.bind_merge.proofs.Joined.{gives-left, gives-right, gives-cases, gives-one}

pub joins-left : (xs ys zs : List EntryData) → Joins xs ys zs → (p : List ℕ) (s : Setting) → IsGiven xs p s → IsGiven zs p s
joins-left _ _ _ (none_left ys) p s h = absurd h
joins-left _ _ _ (none_right xs) p s h = h
joins-left _ _ _ (left_first x xs y ys zs e j) p s (inl h) = inl h
joins-left _ _ _ (left_first x xs y ys zs e j) p s (inr h) = inr (joins-left xs (y ∷ ys) zs j p s h)
joins-left _ _ _ (right_first x xs y ys zs e j) p s h = inr (joins-left (x ∷ xs) ys zs j p s h)
joins-left _ _ _ (together x xs y ys zs e a j) p s (inl h) = inl (h.0, gives-left x y s h.1)
joins-left _ _ _ (together x xs y ys zs e a j) p s (inr h) = inr (joins-left xs ys zs j p s h)

pub joins-right : (xs ys zs : List EntryData) → Joins xs ys zs → (p : List ℕ) (s : Setting) → IsGiven ys p s → IsGiven zs p s
joins-right _ _ _ (none_left ys) p s h = h
joins-right _ _ _ (none_right xs) p s h = absurd h
joins-right _ _ _ (left_first x xs y ys zs e j) p s h = inr (joins-right xs (y ∷ ys) zs j p s h)
joins-right _ _ _ (right_first x xs y ys zs e j) p s (inl h) = inl h
joins-right _ _ _ (right_first x xs y ys zs e j) p s (inr h) = inr (joins-right (x ∷ xs) ys zs j p s h)
joins-right _ _ _ (together x xs y ys zs e a j) p s (inl h) = inl (exact_bytes x.name y.name e ∙ h.0, gives-right x y s a h.1)
joins-right _ _ _ (together x xs y ys zs e a j) p s (inr h) = inr (joins-right xs ys zs j p s h)

swap-sum : {A B C : Type 0} → (B ⊎ C) → (A → B) → (A ⊎ C → B ⊎ C)
swap-sum d f (inl a) = inl (f a)
swap-sum d f (inr c) = inr c

pub joins-cases : (xs ys zs : List EntryData) → Joins xs ys zs → (p : List ℕ) (s : Setting) → IsGiven zs p s → IsGiven xs p s ⊎ IsGiven ys p s
joins-cases _ _ _ (none_left ys) p s h = inr h
joins-cases _ _ _ (none_right xs) p s h = inl h
joins-cases _ _ _ (left_first x xs y ys zs e j) p s (inl h) = inl (inl h)
joins-cases _ _ _ (left_first x xs y ys zs e j) p s (inr h) =
    elim (joins-cases xs (y ∷ ys) zs j p s h) [ inl l ↦ inl (inr l) | inr r ↦ inr r ]
joins-cases _ _ _ (right_first x xs y ys zs e j) p s (inl h) = inr (inl h)
joins-cases _ _ _ (right_first x xs y ys zs e j) p s (inr h) =
    elim (joins-cases (x ∷ xs) ys zs j p s h) [ inl l ↦ inl l | inr r ↦ inr (inr r) ]
joins-cases _ _ _ (together x xs y ys zs e a j) p s (inl h) =
    elim (gives-cases x y s h.1) [ inl l ↦ inl (inl (h.0, l)) | inr r ↦ inr (inl (sym (exact_bytes x.name y.name e) ∙ h.0, r)) ]
joins-cases _ _ _ (together x xs y ys zs e a j) p s (inr h) =
    elim (joins-cases xs ys zs j p s h) [ inl l ↦ inl (inr l) | inr r ↦ inr (inr r) ]

-- ---- the order

pub before-trans : (a b c : List ℕ) → IsBefore a b → IsBefore b c → IsBefore a c
before-trans a b c h k = nat_list_cmp_total.trans a b c h k

pub from-greater : (a b : List ℕ) → slice_cmp nat_cmp a b ≡ Greater → IsBefore b a
from-greater a b e = nat_list_cmp_total.antisymm b a ∙ ap ordering_reverse e

pub before-all : (a b : List ℕ) (es : List EntryData) → IsBefore a b → IsBeforeAll b es → IsBeforeAll a es
before-all a b [] h k = tt
before-all a b (e ∷ es) h k = (before-trans a b e.name h k.0, before-all a b es h k.1)

joins-before : (a : List ℕ) (xs ys zs : List EntryData) → Joins xs ys zs → IsBeforeAll a xs → IsBeforeAll a ys → IsBeforeAll a zs
joins-before a _ _ _ (none_left ys) h k = k
joins-before a _ _ _ (none_right xs) h k = h
joins-before a _ _ _ (left_first x xs y ys zs e j) h k = (h.0, joins-before a xs (y ∷ ys) zs j h.1 k)
joins-before a _ _ _ (right_first x xs y ys zs e j) h k = (k.0, joins-before a (x ∷ xs) ys zs j h k.1)
joins-before a _ _ _ (together x xs y ys zs e g j) h k = (h.0, joins-before a xs ys zs j h.1 k.1)

pub joins-rise : (xs ys zs : List EntryData) → Joins xs ys zs → Rises xs → Rises ys → Rises zs
joins-rise _ _ _ (none_left ys) h k = k
joins-rise _ _ _ (none_right xs) h k = h
joins-rise _ _ _ (left_first x xs y ys zs e j) h k =
    (joins-before x.name xs (y ∷ ys) zs j h.0 (e, before-all x.name y.name ys e k.0), joins-rise xs (y ∷ ys) zs j h.1 k)
joins-rise _ _ _ (right_first x xs y ys zs e j) h k =
    let f : IsBefore y.name x.name = from-greater x.name y.name e in
    (joins-before y.name (x ∷ xs) ys zs j (f, before-all y.name x.name xs f h.0) k.0, joins-rise (x ∷ xs) ys zs j h k.1)
joins-rise _ _ _ (together x xs y ys zs e a j) h k =
    let same : y.name ≡ x.name = sym (exact_bytes x.name y.name e) in
    (joins-before x.name xs ys zs j h.0 (subst (λ n. IsBeforeAll n ys) same k.0), joins-rise xs ys zs j h.1 k.1)

-- a name that stands before all entries isn't among them
pub before-itself : (a : List ℕ) → IsBefore a a → ⊥
before-itself a h =
    let e : Less ≡ Greater = sym h ∙ nat_list_cmp_total.antisymm a a ∙ ap ordering_reverse h in absurd cc

pub given-before : (a : List ℕ) (es : List EntryData) (p : List ℕ) (s : Setting) → IsBeforeAll a es → IsGiven es p s → IsBefore a p
given-before a (e ∷ es) p s h (inl g) = subst (λ n. IsBefore a n) g.0 h.0
given-before a (e ∷ es) p s h (inr g) = given-before a es p s h.1 g
given-before a [] p s h g = absurd g

-- in order, a name has one value of a setting
pub given-one : (es : List EntryData) (p : List ℕ) (s t : Setting) → Rises es → kind s ≡ kind t → IsGiven es p s → IsGiven es p t → s ≡ t
given-one [] p s t r e g h = absurd g
given-one (x ∷ es) p s t r e (inl g) (inl h) = gives-one x s t e g.1 h.1
given-one (x ∷ es) p s t r e (inl g) (inr h) = absurd (before-itself p (subst (λ n. IsBefore n p) g.0 (given-before x.name es p t r.0 h)))
given-one (x ∷ es) p s t r e (inr g) (inl h) = absurd (before-itself p (subst (λ n. IsBefore n p) h.0 (given-before x.name es p s r.0 g)))
given-one (x ∷ es) p s t r e (inr g) (inr h) = given-one es p s t r.1 e g h
