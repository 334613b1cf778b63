-- A text that is found stands somewhere in the bytes.
use Rattle.std.proofs.Common.{◌≡◌, ℕ, zero, suc, ◌+◌, ◌<◌, ◌≤◌, Bool, true, false, ◌||◌, nat_eq, List, [], ◌∷◌, length, get_or, take, drop, refl, sym, ap, ◌∙◌, arith, Option, Some, None, is_some}
use Rattle.std.specs.List.{starts_with}
use Rattle.std.proofs.lemmas.List.{length-take}
use Rattle.std.proofs.lemmas.Bool.{false_from_ne_true, cases_eq}
use Rattle.std.proofs.lemmas.Slice.Eq.{bytes_eq-Decides}
use Rattle.memchr.specs.Find.{OccursAt, FindsNeedle}
use Rattle.memchr.proofs.lemmas.MatchLemmas.{OccursAt-part, OccursAt-from_part}
use Rattle.bind_merge.specs.Loading.{is_within}

or-left : (a b : Bool) → a ≡ true → (a || b) ≡ true
or-left true b e = refl
or-left false b e = absurd cc

or-right : (a b : Bool) → b ≡ true → (a || b) ≡ true
or-right true b e = refl
or-right false b e = e

starts : (hay needle : List ℕ) → OccursAt hay needle 0 → starts_with nat_eq hay needle ≡ true
starts hay needle o = (bytes_eq-Decides needle (take (length needle) hay)).1 (sym (OccursAt-part hay needle 0 o))

stands-below : (b : ℕ) (bs needle : List ℕ) (k : ℕ) → OccursAt (b ∷ bs) needle (suc k) → OccursAt bs needle k
stands-below b bs needle k o = record {
  fits = let f = o.fits in omega (arith, f);
  reads = λ j l. let e : suc (k + j) ≡ suc k + j = omega arith in ap (λ n. get_or (b ∷ bs) n 0) e ∙ o.reads j l;
}

within-from : (hay needle : List ℕ) (k : ℕ) → OccursAt hay needle k → is_within hay needle ≡ true
within-from [] needle zero o = starts [] needle o
within-from [] needle (suc k) o = absurd (let f = o.fits in omega (arith, f))
within-from (b ∷ bs) needle zero o = or-left _ _ (starts (b ∷ bs) needle o)
within-from (b ∷ bs) needle (suc k) o = or-right _ _ (within-from bs needle k (stands-below b bs needle k o))

record Stands (hay needle : List ℕ) : Type 0 where
  at : ℕ
  occurs : OccursAt hay needle at
  low : at < length hay + 1

starts-stands : (hay needle : List ℕ) → starts_with nat_eq hay needle ≡ true → Stands hay needle
starts-stands hay needle e =
    let t : needle ≡ take (length needle) hay = (bytes_eq-Decides needle (take (length needle) hay)).0 e in
    let l : length needle ≤ length hay = omega (arith, ap length t, length-take (length needle) hay) in
    record { at = 0; occurs = OccursAt-from_part hay needle 0 (omega arith) (sym t); low = omega arith }

stands-above : (b : ℕ) (bs needle : List ℕ) → Stands bs needle → Stands (b ∷ bs) needle
stands-above b bs needle s = record {
  at = suc s.at;
  occurs = record {
    fits = let f = s.occurs.fits in omega (arith, f);
    reads = λ j l. let e : suc s.at + j ≡ suc (s.at + j) = omega arith in ap (λ n. get_or (b ∷ bs) n 0) e ∙ s.occurs.reads j l;
  };
  low = let w = s.low in omega (arith, w);
}

stands-within : (hay needle : List ℕ) → is_within hay needle ≡ true → Stands hay needle
stands-within [] needle e = starts-stands [] needle e
stands-within (b ∷ bs) needle e = at (λ h. stands-within bs needle h) (starts_with nat_eq (b ∷ bs) needle) refl e
  where
    at : (is_within bs needle ≡ true → Stands bs needle) → (x : Bool) → starts_with nat_eq (b ∷ bs) needle ≡ x
        → (x || is_within bs needle) ≡ true → Stands (b ∷ bs) needle
    at below true s h = starts-stands (b ∷ bs) needle s
    at below false s h = stands-above b bs needle (below h)

pub found-within : (hay needle : List ℕ) (r : Option ℕ) → FindsNeedle hay needle 0 r → is_some r ≡ is_within hay needle
found-within hay needle None h = sym (false_from_ne_true (is_within hay needle) (λ e. let s = stands-within hay needle e in h s.at (omega arith) s.low s.occurs))
found-within hay needle (Some k) h = sym (within-from hay needle k h.1)

pub ruleset found_any = found-within
