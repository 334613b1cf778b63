-- The numbers of lines count newlines.
use Rattle.std.proofs.Common.{◌≡◌, ℕ, ◌+◌, ◌<◌, ◌≤◌, Bool, true, false, cond, List, [], ◌∷◌, ◌++◌, ◌&&◌, Option, Some, None, length, nat_eq, refl, sym, ap, subst, ◌∙◌, arith, inl, inr, if◌then◌else◌}
use Rattle.std.proofs.lemmas.Bool.{cases_Bool, and_parts, eqb-true}
use Rattle.c_tokens.specs.declared.tok.Tok.{Tok}
use Rattle.c_tokens.specs.LineData.{LineData}
use Rattle.c_tokens.specs.Lines.{Cut, cut, Logical, LogicalLine, closes, goes_on, stays_open, no_token, going_on, Unread, Ending, AtEnd, NoTokens, LinesOf, no_more, one_more, refused, left_behind}
use Rattle.c_tokens.specs.Laws.{newlines_in, NumbersCountNewlines}

cut_counts : (t : List ℕ) → newlines_in t ≡ (cut t).newlines + newlines_in (cut t).rest
cut_counts [] = omega arith
cut_counts (b ∷ []) = elim (cases_Bool (nat_eq b 10)) [ inl e ↦ rw e (omega arith) | inr e ↦ rw e (omega arith) ]
cut_counts (b ∷ c ∷ bs) = elim (cases_Bool (nat_eq b 92 && nat_eq c 10)) [
  | inl e ↦
      let p : (nat_eq b 92 ≡ true) × (nat_eq c 10 ≡ true) = and_parts _ _ e in
      let q : b ≡ 92 = eqb-true b 92 p.0 in
      let n : nat_eq b 10 ≡ false = ap (λ x. nat_eq x 10) q in
      let i : newlines_in bs ≡ (cut bs).newlines + newlines_in (cut bs).rest = cut_counts bs in
      rw (p.0, p.1, n) (omega (arith, i))
  | inr e ↦ elim (cases_Bool (nat_eq b 10)) [
    | inl f ↦ rw (e, f) (omega arith)
    | inr f ↦ let i : newlines_in (c ∷ bs) ≡ (cut (c ∷ bs)).newlines + newlines_in (cut (c ∷ bs)).rest = cut_counts (c ∷ bs) in rw (e, f) (omega (arith, i))
  ]
]

abbrev Counted : List ℕ → Option Logical → Type 0
Counted text None = Unit {0}
Counted text (Some l) = newlines_in text ≡ l.newlines + newlines_in l.rest

counted_on : (text : List ℕ) (toks : List Tok) (o : Option Logical) → Counted (cut text).rest o → Counted text (going_on toks (cut text).newlines o)
counted_on text toks None h = tt
counted_on text toks (Some l) h = let c : newlines_in text ≡ (cut text).newlines + newlines_in (cut text).rest = cut_counts text in omega (arith, c, h)

counted : (commented : Bool) (text : List ℕ) (o : Option Logical) → LogicalLine commented text o → Counted text o
counted _ _ _ (closes commented text toks e) = cut_counts text
counted _ _ _ (goes_on commented text toks o e some h) = counted_on text toks o (counted true (cut text).rest o h)
counted _ _ _ (stays_open commented text toks e none) = tt
counted _ _ _ (no_token commented text e) = tt

none_counted : (bytes : List ℕ) → length bytes ≡ 0 → newlines_in bytes ≡ 0
none_counted [] h = refl
none_counted (b ∷ bs) h = absurd (omega arith)

abbrev Ended : Unread → Ending → Type 0
Ended u (AtEnd n) = n ≡ u.number + newlines_in u.rest
Ended u (NoTokens n) = Unit {0}

ended_on : (u : Unread) (l : Logical) (e : Ending) → newlines_in u.rest ≡ l.newlines + newlines_in l.rest → Ended (left_behind u l) e → Ended u e
ended_on u l (AtEnd n) c h = omega (arith, c, h)
ended_on u l (NoTokens n) c h = tt

ended : (u : Unread) (ls : List LineData) (e : Ending) → LinesOf u ls e → Ended u e
ended _ _ _ (no_more u h) = let c : newlines_in u.rest ≡ 0 = none_counted u.rest h in omega (arith, c)
ended _ _ _ (one_more u l ls e some h rest) = ended_on u l e (counted false u.rest (Some l) h) (ended (left_behind u l) ls e rest)
ended _ _ _ (refused u some h) = tt

pub numbers_count_newlines : NumbersCountNewlines
numbers_count_newlines u ls n h = ended u ls (AtEnd n) h
