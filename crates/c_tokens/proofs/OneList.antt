-- A text has one list of lines.
use Rattle.std.proofs.Common.{◌≡◌, ℕ, zero, suc, ◌+◌, ◌<◌, ◌≤◌, Bool, true, false, List, [], ◌∷◌, ◌++◌, ◌&&◌, Option, Some, None, length, nat_eq, refl, sym, ap, subst, ◌∙◌, arith, rules, inl, inr, if◌then◌else◌, IfSome, option_map}
use Rattle.std.proofs.lemmas.Bool.{cases_Bool, eqb-true}
use Rattle.std.proofs.lemmas.Bool.Decides.{nat_tests}
use Rattle.c_tokens.specs.declared.tok.Tok.{Tok}
use Rattle.c_tokens.specs.LineData.{LineData}
use Rattle.c_tokens.specs.Lexed.{Lexed, lexed}
use Rattle.c_tokens.specs.Lines.{Cut, cut, cut_end, with_byte, with_newline, Logical, LogicalLine, closes, goes_on, stays_open, no_token, going_on, Unread, Ending, AtEnd, NoTokens, LinesOf, no_more, one_more, refused, line_of, left_behind, HasOneList}

-- ---- a joined line takes a byte at least

cut_le : (t : List ℕ) → length (cut t).rest ≤ length t
cut_le [] = omega arith
cut_le (b ∷ []) = elim (cases_Bool (nat_eq b 10)) [ inl e ↦ rw e (omega arith) | inr e ↦ rw e (omega arith) ]
cut_le (b ∷ c ∷ bs) = elim (cases_Bool (nat_eq b 92 && nat_eq c 10)) [
  | inl e ↦ rw e (let k : length (cut bs).rest ≤ length bs = cut_le bs in omega (arith, k))
  | inr e ↦ rw e (elim (cases_Bool (nat_eq b 10)) [
    | inl f ↦ rw f (omega arith)
    | inr f ↦ rw f (let k : length (cut (c ∷ bs)).rest ≤ length (c ∷ bs) = cut_le (c ∷ bs) in omega (arith, k))
  ])
]

cut_shorter : (t : List ℕ) → 0 < length t → length (cut t).rest < length t
cut_shorter [] h = absurd (omega arith)
cut_shorter (b ∷ []) h = elim (cases_Bool (nat_eq b 10)) [ inl e ↦ rw e (omega arith) | inr e ↦ rw e (omega arith) ]
cut_shorter (b ∷ c ∷ bs) h = elim (cases_Bool (nat_eq b 92 && nat_eq c 10)) [
  | inl e ↦ rw e (let k : length (cut bs).rest ≤ length bs = cut_le bs in omega (arith, k))
  | inr e ↦ rw e (elim (cases_Bool (nat_eq b 10)) [
    | inl f ↦ rw f (omega arith)
    | inr f ↦ rw f (let k : length (cut (c ∷ bs)).rest ≤ length (c ∷ bs) = cut_le (c ∷ bs) in
        let m : length (cut (c ∷ bs)).rest < length (c ∷ bs) = cut_shorter (c ∷ bs) (omega arith) in omega (arith, m))
  ])
]

-- ---- at most one logical line

-- what a logical line with an open comment comes from
abbrev pub FromOpen : List ℕ → ℕ → List Tok → Option Logical → Type 0
FromOpen [] newlines toks o = o ≡ None
FromOpen (b ∷ bs) newlines toks o = (q : Option Logical) × LogicalLine true (b ∷ bs) q × (o ≡ going_on toks newlines q)

abbrev pub FromEnd : List ℕ → ℕ → List Tok → Bool → Option Logical → Type 0
FromEnd rest newlines toks false o = o ≡ Some (record { toks = toks; rest = rest; newlines = newlines })
FromEnd rest newlines toks true o = FromOpen rest newlines toks o

abbrev pub FromLexed : List ℕ → ℕ → Option Lexed → Option Logical → Type 0
FromLexed rest newlines None o = o ≡ None
FromLexed rest newlines (Some l) o = FromEnd rest newlines l.toks l.unclosed o

open_on : (rest : List ℕ) (n : ℕ) (toks : List Tok) (q : Option Logical) → 0 < length rest → LogicalLine true rest q → FromOpen rest n toks (going_on toks n q)
open_on [] n toks q some h = absurd (omega arith)
open_on (b ∷ bs) n toks q some h = (q, h, refl)

open_end : (rest : List ℕ) (n : ℕ) (toks : List Tok) → length rest ≡ 0 → FromOpen rest n toks None
open_end [] n toks none = refl
open_end (b ∷ bs) n toks none = absurd (omega arith)

on_open : (rest : List ℕ) (n : ℕ) (toks : List Tok) (o : Option Logical) → 0 < length rest → FromOpen rest n toks o → (q : Option Logical) × LogicalLine true rest q × (o ≡ going_on toks n q)
on_open [] n toks o some h = absurd (omega arith)
on_open (b ∷ bs) n toks o some h = h

end_open : (rest : List ℕ) (n : ℕ) (toks : List Tok) (o : Option Logical) → length rest ≡ 0 → FromOpen rest n toks o → o ≡ None
end_open [] n toks o none h = h
end_open (b ∷ bs) n toks o none h = absurd (omega arith)

from : (c : Bool) (t : List ℕ) (o : Option Logical) → LogicalLine c t o → FromLexed (cut t).rest (cut t).newlines (lexed c (cut t).bytes) o
from _ _ _ (closes c t toks e) = rw e refl
from _ _ _ (goes_on c t toks o e some h) = rw e (open_on (cut t).rest (cut t).newlines toks o some h)
from _ _ _ (stays_open c t toks e none) = rw e (open_end (cut t).rest (cut t).newlines toks none)
from _ _ _ (no_token c t e) = rw e refl

same : (c : Bool) (t : List ℕ) (o p : Option Logical) → LogicalLine c t o → LogicalLine c t p → o ≡ p
same _ _ _ p (closes c t toks e) g = let k = rw e at (from _ _ _ g) in sym k
same _ _ _ p (goes_on c t toks o e some h) g =
    let k : FromOpen (cut t).rest (cut t).newlines toks p = rw e at (from _ _ _ g) in
    let m = on_open (cut t).rest (cut t).newlines toks p some k in
    ap (going_on toks (cut t).newlines) (same true (cut t).rest o m.0 h m.1) ∙ sym m.2
same _ _ _ p (stays_open c t toks e none) g =
    let k : FromOpen (cut t).rest (cut t).newlines toks p = rw e at (from _ _ _ g) in
    sym (end_open (cut t).rest (cut t).newlines toks p none k)
same _ _ _ p (no_token c t e) g = let k = rw e at (from _ _ _ g) in sym k

-- ---- at least one

-- what is left behind a logical line is shorter
abbrev pub Shorter : List ℕ → Option Logical → Type 0
Shorter t o = IfSome o (λ l. length l.rest < length t)

pub record Found (c : Bool) (t : List ℕ) : Type 0 where
  pub o : Option Logical
  pub line : LogicalLine c t o
  pub shorter : Shorter t o

going_shorter : (t rest : List ℕ) (toks : List Tok) (n : ℕ) (o : Option Logical) → length rest ≤ length t → Shorter rest o → Shorter t (going_on toks n o)
going_shorter t rest toks n None le s = tt
going_shorter t rest toks n (Some l) le s = omega (arith, s)

found_open : (c : Bool) (t rest : List ℕ) (toks : List Tok) → rest ≡ (cut t).rest → 0 < length t → lexed c (cut t).bytes ≡ Some (record { toks = toks; unclosed = true })
    → (0 < length rest → Found true rest) → Found c t
found_open c t [] toks r some e go = record { o = None; line = stays_open c t toks e (subst (λ (xs : List ℕ). length xs ≡ 0) r refl); shorter = tt }
found_open c t (b ∷ bs) toks r some e go =
    let f : Found true (b ∷ bs) = go (omega arith) in
    let le : length (b ∷ bs) ≤ length t = subst (λ (xs : List ℕ). length xs ≤ length t) (sym r) (cut_le t) in
    record {
      o = going_on toks (cut t).newlines f.o;
      line = goes_on c t toks f.o e (subst (λ (xs : List ℕ). 0 < length xs) r (omega arith)) (subst (λ xs. LogicalLine true xs f.o) r f.line);
      shorter = going_shorter t (b ∷ bs) toks (cut t).newlines f.o le f.shorter;
    }

found_by : (c : Bool) (t : List ℕ) (l : Option Lexed) → l ≡ lexed c (cut t).bytes → 0 < length t → (0 < length (cut t).rest → Found true (cut t).rest) → Found c t
found_by c t None e some go = record { o = None; line = no_token c t (sym e); shorter = tt }
found_by c t (Some l) e some go = found_end c t l.toks l.unclosed (sym e) some go
  where
    found_end : (c : Bool) (t : List ℕ) (toks : List Tok) (unclosed : Bool) → lexed c (cut t).bytes ≡ Some (record { toks = toks; unclosed = unclosed }) → 0 < length t
        → (0 < length (cut t).rest → Found true (cut t).rest) → Found c t
    found_end c t toks false e some go = record { o = Some (record { toks = toks; rest = (cut t).rest; newlines = (cut t).newlines }); line = closes c t toks e; shorter = cut_shorter t some }
    found_end c t toks true e some go = found_open c t (cut t).rest toks refl some e go

found : (k : ℕ) (c : Bool) (t : List ℕ) → length t < k → 0 < length t → Found c t
found zero c t le some = absurd (omega arith)
found (suc k) c t le some = found_by c t (lexed c (cut t).bytes) refl some (λ more. found k true (cut t).rest (let s = cut_shorter t some in omega (arith, s)) more)

-- ---- the lines of a text

same_lines : (u : Unread) (ls ks : List LineData) (e f : Ending) → LinesOf u ls e → LinesOf u ks f → (ls ≡ ks) × (e ≡ f)
same_lines _ _ _ _ _ (no_more u none) (no_more _ n) = (refl, refl)
same_lines _ _ _ _ _ (no_more u none) (one_more _ l ls e some h rest) = absurd (omega arith)
same_lines _ _ _ _ _ (no_more u none) (refused _ some h) = absurd (omega arith)
same_lines _ _ _ _ _ (one_more u l ls e some h rest) (no_more _ n) = absurd (omega arith)
same_lines _ _ _ _ _ (one_more u l ls e some h rest) (one_more _ m ks f some' h' rest') =
    let is : l ≡ m = some_same (same false u.rest (Some l) (Some m) h h') in
    let rest1 : LinesOf (left_behind u l) ks f = subst (λ x. LinesOf (left_behind u x) ks f) (sym is) rest' in
    let s = same_lines (left_behind u l) ls ks e f rest rest1 in
    (ap (λ x. line_of u.number x ∷ ls) is ∙ ap (λ xs. line_of u.number m ∷ xs) s.0, s.1)
  where
    some_same : {x y : Logical} → Some x ≡ Some y → x ≡ y
    some_same e = cc
same_lines _ _ _ _ _ (one_more u l ls e some h rest) (refused _ some' h') = let c : Some l ≡ None = same false u.rest (Some l) None h h' in cc
same_lines _ _ _ _ _ (refused u some h) (no_more _ n) = absurd (omega arith)
same_lines _ _ _ _ _ (refused u some h) (one_more _ l ls e some' h' rest) = let c : None ≡ Some l = same false u.rest None (Some l) h h' in cc
same_lines _ _ _ _ _ (refused u some h) (refused _ some' h') = (refl, refl)

pub record FoundLines (u : Unread) : Type 0 where
  pub lines : List LineData
  pub end : Ending
  pub are : LinesOf u lines end

lines_by : (u : Unread) → 0 < length u.rest → Found false u.rest → ((l : Logical) → length l.rest < length u.rest → FoundLines (left_behind u l)) → FoundLines u
lines_by u some f go = by_line f.o f.line f.shorter
  where
    by_line : (o : Option Logical) → LogicalLine false u.rest o → Shorter u.rest o → FoundLines u
    by_line None h s = record { lines = []; end = NoTokens u.number; are = refused u some h }
    by_line (Some l) h s = let r : FoundLines (left_behind u l) = go l s in record { lines = line_of u.number l ∷ r.lines; end = r.end; are = one_more u l r.lines r.end some h r.are }

found_lines : (k : ℕ) (u : Unread) → length u.rest < k → FoundLines u
found_lines zero u le = absurd (omega arith)
found_lines (suc k) u le = elim (cases_Bool (nat_eq (length u.rest) 0)) [
  | inl e ↦ record { lines = []; end = AtEnd u.number; are = no_more u (eqb-true _ _ e) }
  | inr e ↦
      let some : 0 < length u.rest = grind (arith, nat_tests) in
      lines_by u some (found (suc k) false u.rest le some) (λ l s. found_lines k (left_behind u l) (omega (arith, s)))
]

pub one_list : HasOneList
one_list u =
    let f : FoundLines u = found_lines (suc (length u.rest)) u (omega arith) in
    (f.lines, f.end, f.are, λ ks g h. same_lines u f.lines ks f.end g f.are h)
