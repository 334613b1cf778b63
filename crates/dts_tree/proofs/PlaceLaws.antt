-- Places: what equal tests say, and what stands below what.
use Rattle.std.proofs.Common.{◌≡◌, ◌≤◌, ◌∷◌, ◌⊎◌, [], ℕ, true, List, length, refl, sym, ap, subst, inl, inr, arith}
use Rattle.std.specs.Str.{bytes_eq}
use Rattle.std.proofs.lemmas.Slice.Eq.{bytes_eq-Decides}
use Rattle.std.proofs.lemmas.Bool.{false≢true}
use Rattle.dts_tree.specs.declared.spot.Step.{Step}
use Rattle.dts_tree.specs.declared.spot.Step.TheVariants.{Child, Prop}
use Rattle.dts_tree.specs.Places.{Place, step_eq, place_eq, is_within}
use Rattle.dts_tree.proofs.Lists.{and_parts, and_both, or_cases, or_left, or_right}

pub same_bytes : (a b : List ℕ) → bytes_eq a b ≡ true → a ≡ b
same_bytes a b e = (bytes_eq-Decides a b).0 e

pub bytes_self : (a : List ℕ) → bytes_eq a a ≡ true
bytes_self a = (bytes_eq-Decides a a).1 refl

pub same_step : (s t : Step) → step_eq s t ≡ true → s ≡ t
same_step (Child a) (Child b) e = ap Child (same_bytes a b e)
same_step (Prop a) (Prop b) e = ap Prop (same_bytes a b e)
same_step (Child a) (Prop b) e = absurd (false≢true e)
same_step (Prop a) (Child b) e = absurd (false≢true e)

pub step_self : (s : Step) → step_eq s s ≡ true
step_self (Child a) = bytes_self a
step_self (Prop a) = bytes_self a

pub same_place : (p q : Place) → place_eq p q ≡ true → p ≡ q
same_place [] [] e = refl
same_place (s ∷ p) (t ∷ q) e =
    let h = and_parts (step_eq s t) (place_eq p q) e in
    let a : s ≡ t = same_step s t h.0 in
    let b : p ≡ q = same_place p q h.1 in
    cc
same_place [] (t ∷ q) e = absurd (false≢true e)
same_place (s ∷ p) [] e = absurd (false≢true e)

pub place_self : (p : Place) → place_eq p p ≡ true
place_self [] = refl
place_self (s ∷ p) = and_both (step_eq s s) (place_eq p p) (step_self s) (place_self p)

pub place_is : (p q : Place) → p ≡ q → place_eq p q ≡ true
place_is p q e = subst (λ r. place_eq p r ≡ true) e (place_self p)

pub within_self : (p : Place) → is_within p p ≡ true
within_self [] = refl
within_self (s ∷ p) = or_left (place_eq (s ∷ p) (s ∷ p)) (is_within (s ∷ p) p) (place_self (s ∷ p))

pub within_more : (p : Place) (s : Step) (q : Place) → is_within p q ≡ true → is_within p (s ∷ q) ≡ true
within_more p s q h = or_right (place_eq p (s ∷ q)) (is_within p q) h

pub within_cases : (p : Place) (s : Step) (q : Place) → is_within p (s ∷ q) ≡ true → (p ≡ s ∷ q) ⊎ (is_within p q ≡ true)
within_cases p s q h = elim (or_cases (place_eq p (s ∷ q)) (is_within p q) h) [ inl e ↦ inl (same_place p (s ∷ q) e) | inr w ↦ inr w ]

pub within_longer : (p q : Place) → is_within p q ≡ true → length p ≤ length q
within_longer p [] h = let e : p ≡ [] = same_place p [] h in subst (λ r. length r ≤ 0) (sym e) (omega arith)
within_longer p (s ∷ q) h = elim (within_cases p s q h) [
  | inl e ↦ subst (λ r. length r ≤ length (s ∷ q)) (sym e) (omega arith)
  | inr w ↦ let l : length p ≤ length q = within_longer p q w in omega arith
]
