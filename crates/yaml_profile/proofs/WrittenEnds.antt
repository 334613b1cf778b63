-- Line ends may be written with a carriage return, and the last one may be missing: fronts differ in places alone.
use Rattle.std.proofs.Common.{◌≡◌, ℕ, zero, suc, ◌+◌, ◌-◌, ◌<◌, Bool, true, false, not, ◌&&◌, ◌||◌, ◌==◌, List, [], ◌∷◌, Result, Ok, Err, if◌then◌else◌, refl, sym, subst, ◌∙◌, arith, inl, inr}
use Rattle.std.specs.Char.{len_utf8}
use Rattle.std.proofs.lemmas.Bool.{and_parts, cases_Bool}
use Rattle.std.proofs.lemmas.Bool.Decides.{nat_tests}
use Rattle.edt_base.specs.YamlData.{Value, a_text, null}
use Rattle.yaml_profile.specs.declared.stop.Broken.{Broken}
use Rattle.edt_base.specs.declared.fault.Rule.TheVariants.{Y1}
use Rattle.yaml_profile.specs.declared.front.Role.TheVariants.{Value as ValueOnly}
use Rattle.yaml_profile.specs.Answers.{◌>>=◌, no_text}
use Rattle.yaml_profile.specs.Signs.{begins_with, ends_word, begins_mark}
use Rattle.yaml_profile.specs.Scalars.{scalar_of}
use Rattle.yaml_profile.specs.Folding.{Folding, end_line, join_line}
use Rattle.yaml_profile.specs.BlockText.{BlockText, blank_line, block_text}
use Rattle.yaml_profile.specs.Fronts.{Frame, Going, Whole, Innermost, AtLine, AtValue, InPlain, InSingle, AtSecondQuote, InDouble, InEscape, InDigits, AfterQuoted, AfterValue, InComment, InMark, InHeader, InHeaderComment, AtTextLine, AtBlankEnd, InTextLine, Front, front, is_flow, all_closed, value_so_far}
use Rattle.yaml_profile.specs.Pieces.{is_key_only, in_after_value, in_at_value, in_plain, in_single, at_second_quote, in_double, in_escape, in_digits, in_after_quoted}
use Rattle.yaml_profile.specs.Layout.{in_line, in_comment, in_header, in_header_comment, at_text_line, in_text_line, one_line_more}
use Rattle.yaml_profile.specs.Reading.{taken, step, walk, ends, outside_flow, last_line}
use Rattle.yaml_profile.specs.Written.{end_of_line, with_ends, ends_begun, is_clear, word_ends, is_mark}
use Rattle.yaml_profile.proofs.ReadSteps.{past, not_true, is_that, with_returns, line_walk, ReadsOn, OnFrom, step_on, no_second, no_third, feed_is_no_second, no_feed_ahead, word_ahead, first_ahead, mark_ahead}
use Rattle.yaml_profile.proofs.WrittenPlaces.{Alike, Fits, Begun, Same, Ahead, on_column, taken_same, feed_same, returned, return_same}
use Rattle.yaml_profile.proofs.WrittenLines.{going_is, more_is}

-- ---- the end of the file

outside_same : (b : Bool) (u v : Value) (at to : ℕ) → (if b then no_text at else Ok u) ≡ Ok v → (if b then no_text to else Ok u) ≡ Ok v
outside_same true u v at to h = absurd (let q : Err (record { rule = Y1; at = at }) ≡ Ok v = h in cc)
outside_same false u v at to h = h

unless_key : (k b : Bool) (u v : Value) (at to : ℕ) → (if k then no_text at else if b then no_text at else Ok u) ≡ Ok v → (if k then no_text to else if b then no_text to else Ok u) ≡ Ok v
unless_key true b u v at to h = absurd (let q : Err (record { rule = Y1; at = at }) ≡ Ok v = h in cc)
unless_key false b u v at to h = outside_same b u v at to h

pub outside_to : (fs : List Frame) (u v : Value) (at to : ℕ) → outside_flow fs u at ≡ Ok v → outside_flow fs u to ≡ Ok v
outside_to fs u v at to h = outside_same (is_flow fs) (all_closed fs u) v at to h

unless_to : (k : Bool) (fs : List Frame) (u v : Value) (at to : ℕ) → (if k then no_text at else outside_flow fs u at) ≡ Ok v → (if k then no_text to else outside_flow fs u to) ≡ Ok v
unless_to k fs u v at to h = unless_key k (is_flow fs) (all_closed fs u) v at to h

pub ends_same : (i j : Innermost) (at to : ℕ) (fs : List Frame) (v : Value) → Alike at to i j → ends fs i at ≡ Ok v → ends fs j to ≡ Ok v
unfolding ends
ends_same (AtLine s w) j at to fs v (r, n, e, p) h = subst (λ (x : Innermost). ends fs x to ≡ Ok v) (sym e) (outside_to fs (value_so_far w) v at to h)
ends_same (AtValue s true sp) j at to fs v (r, n, e, p) h = subst (λ (x : Innermost). ends fs x to ≡ Ok v) (sym e) (outside_to fs null v at to h)
ends_same (AtValue s false sp) j at to fs v (r, e) h = subst (λ (x : Innermost). ends fs x to ≡ Ok v) (sym e) (outside_to fs null v at to h)
ends_same (InPlain t role b sp) j at to fs v (d, e) h = subst (λ (x : Innermost). ends fs x to ≡ Ok v) (sym e) (unless_to (is_key_only role) fs (scalar_of t.text) v at to h)
ends_same (InSingle t role b) j at to fs v a h = absurd (let q : Err (record { rule = Y1; at = at }) ≡ Ok v = h in cc)
ends_same (AtSecondQuote t role b) j at to fs v a h = absurd (let q : Err (record { rule = Y1; at = at }) ≡ Ok v = h in cc)
ends_same (InDouble t role b) j at to fs v a h = absurd (let q : Err (record { rule = Y1; at = at }) ≡ Ok v = h in cc)
ends_same (InEscape t role b) j at to fs v a h = absurd (let q : Err (record { rule = Y1; at = at }) ≡ Ok v = h in cc)
ends_same (InDigits t role b left number) j at to fs v a h = absurd (let q : Err (record { rule = Y1; at = at }) ≡ Ok v = h in cc)
ends_same (AfterQuoted y role b sp) j at to fs v (d, e) h = subst (λ (x : Innermost). ends fs x to ≡ Ok v) (sym e) (unless_to (is_key_only role) fs (a_text y) v at to h)
ends_same (AfterValue w sp) j at to fs v e h = subst (λ (x : Innermost). ends fs x to ≡ Ok v) (sym e) (outside_to fs (value_so_far w) v at to h)
ends_same (InComment w) j at to fs v e h = subst (λ (x : Innermost). ends fs x to ≡ Ok v) (sym e) (outside_to fs (value_so_far w) v at to h)
ends_same (InMark left) j at to fs v a h = absurd (let q : Err (record { rule = Y1; at = at }) ≡ Ok v = h in cc)
ends_same (InHeader b g sp) j at to fs v e h = subst (λ (x : Innermost). ends fs x to ≡ Ok v) (sym e) (outside_to fs (a_text (block_text b)) v at to h)
ends_same (InHeaderComment b) j at to fs v e h = subst (λ (x : Innermost). ends fs x to ≡ Ok v) (sym e) (outside_to fs (a_text (block_text b)) v at to h)
ends_same (AtTextLine s b) j at to fs v (r, n, e, p) h =
    let a : to - r ≡ at - s = on_column r to n p.1 ∙ sym (on_column s at n p.0) in
    subst (λ (x : Innermost). ends fs x to ≡ Ok v) (sym e)
    (subst (λ (k : ℕ). outside_flow fs (a_text (block_text (last_line b k))) to ≡ Ok v) (sym a) (outside_to fs (a_text (block_text (last_line b (at - s)))) v at to h))
ends_same (AtBlankEnd n b) j at to fs v e h = subst (λ (x : Innermost). ends fs x to ≡ Ok v) (sym e) (outside_to fs (a_text (block_text (last_line b n))) v at to h)
ends_same (InTextLine b) j at to fs v e h = subst (λ (x : Innermost). ends fs x to ≡ Ok v) (sym e) (outside_to fs (a_text (block_text b)) v at to h)

-- a value that is read with a line feed at the end
abbrev Last : List Frame → Innermost → (at : ℕ) → Value → Type 0
Last fs i at v = (taken fs i at 10 [] >>= λ g. ends g.frames g.inner (at + 1)) ≡ Ok v

no_single : (k : Bool) (fs : List Frame) (t : Folding) (d at : ℕ) (v : Value) → ((if k then no_text at else Ok (front fs (InSingle t ValueOnly d))) >>= λ g. ends g.frames g.inner (at + 1)) ≡ Ok v → ⊥
unfolding ends
no_single true fs t d at v h = let q : ◌≡◌ {A = Result Value Broken} (Err (record { rule = Y1; at = at })) (Ok v) = h in cc
no_single false fs t d at v h = let q : ◌≡◌ {A = Result Value Broken} (Err (record { rule = Y1; at = at + 1 })) (Ok v) = h in cc

no_double : (k : Bool) (fs : List Frame) (t : Folding) (d at : ℕ) (v : Value) → ((if k then no_text at else Ok (front fs (InDouble t ValueOnly d))) >>= λ g. ends g.frames g.inner (at + 1)) ≡ Ok v → ⊥
unfolding ends
no_double true fs t d at v h = let q : ◌≡◌ {A = Result Value Broken} (Err (record { rule = Y1; at = at })) (Ok v) = h in cc
no_double false fs t d at v h = let q : ◌≡◌ {A = Result Value Broken} (Err (record { rule = Y1; at = at + 1 })) (Ok v) = h in cc

pub self_line : (b : BlockText) (n : ℕ) → last_line b (n - n) ≡ b
self_line b n = let z : ((n - n) == 0) ≡ true = grind (arith, nat_tests) in rw z refl

text_ended : (fs : List Frame) (b : BlockText) (at : ℕ) (v : Value) → outside_flow fs (a_text (block_text (last_line b ((at + 1) - (at + 1))))) (at + 1) ≡ Ok v → outside_flow fs (a_text (block_text b)) at ≡ Ok v
text_ended fs b at v h = outside_to fs (a_text (block_text b)) v (at + 1) at (subst (λ (x : BlockText). outside_flow fs (a_text (block_text x)) (at + 1) ≡ Ok v) (self_line b (at + 1)) h)

plain_last : (k : Bool) (fs : List Frame) (t : Folding) (at : ℕ) (v : Value) → ((if k then no_text at else Ok (front fs (AtLine (at + 1) (Going (end_line t))))) >>= λ g. ends g.frames g.inner (at + 1)) ≡ Ok v
    → (if k then no_text at else outside_flow fs (scalar_of t.text) at) ≡ Ok v
unfolding ends
plain_last true fs t at v h = absurd (let q : Err (record { rule = Y1; at = at }) ≡ Ok v = h in cc)
plain_last false fs t at v h = subst (λ (x : Value). outside_flow fs x at ≡ Ok v) (going_is t) (outside_to fs (scalar_of (end_line t).text) v (at + 1) at h)

quoted_last : (k : Bool) (fs : List Frame) (x : List ℕ) (at : ℕ) (v : Value) → ((if k then no_text at else Ok (front fs (AtLine (at + 1) (Whole (a_text x))))) >>= λ g. ends g.frames g.inner (at + 1)) ≡ Ok v
    → (if k then no_text at else outside_flow fs (a_text x) at) ≡ Ok v
unfolding ends
quoted_last true fs x at v h = absurd (let q : Err (record { rule = Y1; at = at }) ≡ Ok v = h in cc)
quoted_last false fs x at v h = outside_to fs (a_text x) v (at + 1) at h

last_ends : (i : Innermost) (at : ℕ) (fs : List Frame) (v : Value) → Fits (10 ∷ []) i → Begun true at i → Last fs i at v → ends fs i at ≡ Ok v
unfolding ends taken in_line in_at_value in_plain in_single at_second_quote in_double in_escape in_digits in_after_quoted in_after_value in_comment in_header in_header_comment in_text_line at_text_line
last_ends (AtLine s w) at fs v f b h = subst (λ (x : Value). outside_flow fs x at ≡ Ok v) (more_is w) (outside_to fs (value_so_far (one_line_more w)) v (at + 1) at h)
last_ends (AtValue s m sp) at fs v f b h = outside_to fs null v (at + 1) at h
last_ends (InPlain t role d sp) at fs v f b h = plain_last (is_key_only role) fs t at v h
last_ends (InSingle t role d) at fs v f b h = absurd (no_single (is_key_only role) fs (end_line t) d at v h)
last_ends (AtSecondQuote t role d) at fs v f b h = absurd (let q : Err (record { rule = Y1; at = at + 1 }) ≡ Ok v = h in cc)
last_ends (InDouble t role d) at fs v f b h = absurd (no_double (is_key_only role) fs (end_line t) d at v h)
last_ends (InEscape t role d) at fs v f b h = absurd (no_double (is_key_only role) fs (join_line t) d at v h)
last_ends (InDigits t role d left number) at fs v f b h = absurd (let q : Err (record { rule = Y1; at = at }) ≡ Ok v = h in cc)
last_ends (AfterQuoted x role d sp) at fs v f b h = quoted_last (is_key_only role) fs x at v h
last_ends (AfterValue w sp) at fs v f b h = outside_to fs (value_so_far w) v (at + 1) at h
last_ends (InComment w) at fs v f b h = outside_to fs (value_so_far w) v (at + 1) at h
last_ends (InMark zero) at fs v f b h = absurd (let l : 0 < 0 = f.0 in omega arith)
last_ends (InMark (suc k)) at fs v f b h = absurd (let g : false ≡ true = f.1 in cc)
last_ends (InHeader t g sp) at fs v f b h = text_ended fs t at v h
last_ends (InHeaderComment t) at fs v f b h = text_ended fs t at v h
last_ends (AtTextLine s t) at fs v f b h =
    let z : ((at - s) == 0) ≡ false = grind (arith, nat_tests) in
    rw z (text_ended fs (blank_line t (at - s)) at v h)
last_ends (AtBlankEnd n t) at fs v f b h = absurd f
last_ends (InTextLine t) at fs v f b h = text_ended fs t at v h

-- ---- the whole file

or_true : (b : Bool) → (b || true) ≡ true
or_true true = refl
or_true false = refl

-- what stands where a line ends
end_word : (cut return : Bool) (rest more : List ℕ) → ends_word (end_of_line cut return rest more) ≡ true
end_word true true [] more = refl
end_word true false [] more = refl
end_word true true (c ∷ cs) more = refl
end_word true false (c ∷ cs) more = refl
end_word false true rest more = refl
end_word false false rest more = refl

end_first : (cut return : Bool) (rest more : List ℕ) (d : ℕ) → (13 == d) ≡ false → (10 == d) ≡ false → begins_with d (end_of_line cut return rest more) ≡ false
end_first true true [] more d a b = refl
end_first true false [] more d a b = refl
end_first true true (c ∷ cs) more d a b = a
end_first true false (c ∷ cs) more d a b = b
end_first false true rest more d a b = a
end_first false false rest more d a b = b

starts_no_mark : (c d : ℕ) (ds : List ℕ) → (d == 45) ≡ false → (d == 46) ≡ false → begins_mark c (d ∷ ds) ≡ false
starts_no_mark c d [] a b = refl
starts_no_mark c d (e ∷ more) a b = rw (no_second c d a b) refl

end_mark : (cut return : Bool) (rest more : List ℕ) (c : ℕ) → begins_mark c (end_of_line cut return rest more) ≡ false
end_mark true true [] more c = refl
end_mark true false [] more c = refl
end_mark true true (d ∷ ds) more c = starts_no_mark c 13 (10 ∷ more) refl refl
end_mark true false (d ∷ ds) more c = starts_no_mark c 10 more refl refl
end_mark false true rest more c = starts_no_mark c 13 (10 ∷ more) refl refl
end_mark false false rest more c = starts_no_mark c 10 more refl refl

-- and where the second character of a mark stood
third_no_mark : (c d e : ℕ) (more : List ℕ) → (e == 45) ≡ false → (e == 46) ≡ false → begins_mark c (d ∷ e ∷ more) ≡ false
third_no_mark c d e more a b = let k : ((((c == 45) || (c == 46)) && (d == c)) && (e == c)) ≡ false = no_third _ (d == c) (e == c) (no_second c e a b) in rw k refl

second_mark : (cut return : Bool) (rest more : List ℕ) (c d : ℕ) → begins_mark c (d ∷ end_of_line cut return rest more) ≡ false
second_mark true true [] more c d = refl
second_mark true false [] more c d = refl
second_mark true true (e ∷ es) more c d = third_no_mark c d 13 (10 ∷ more) refl refl
second_mark true false (e ∷ es) more c d = third_no_mark c d 10 more refl refl
second_mark false true rest more c d = third_no_mark c d 13 (10 ∷ more) refl refl
second_mark false false rest more c d = third_no_mark c d 10 more refl refl

-- a character that ends no line, before what is clear
record Clear (c : ℕ) (cs : List ℕ) (cut : Bool) (returns : ℕ → Bool) (line : ℕ) : Type 0 where
  here : ((c == 13) && begins_with 10 (with_ends cut returns line cs)) ≡ false
  more : is_clear cut returns line cs ≡ true

clear_parts : (c : ℕ) (cs : List ℕ) (cut : Bool) (returns : ℕ → Bool) (line : ℕ) → (c == 10) ≡ false → is_clear cut returns line (c ∷ cs) ≡ true → Clear c cs cut returns line
clear_parts c cs cut returns line e h =
    let k : (not ((c == 13) && begins_with 10 (with_ends cut returns line cs)) && is_clear cut returns line cs) ≡ true = rw e at h in
    let p : (not ((c == 13) && begins_with 10 (with_ends cut returns line cs)) ≡ true) × (is_clear cut returns line cs ≡ true) = and_parts _ _ k in
    record { here = not_true _ p.0; more = p.1 }

word_same : (cs : List ℕ) (cut : Bool) (returns : ℕ → Bool) (line : ℕ) → is_clear cut returns line cs ≡ true → ends_word (with_ends cut returns line cs) ≡ word_ends true cs
word_same [] cut returns line h = refl
word_same (d ∷ ds) cut returns line h = elim (cases_Bool (d == 10)) [
  | inl e ↦ rw e (end_word cut (returns line) ds (with_ends cut returns (suc line) ds) ∙ sym (or_true (d == 32)))
  | inr e ↦
      let b : Clear d ds cut returns line = clear_parts d ds cut returns line e h in
      rw (e, b.here, e) refl
]

first_same : (cs : List ℕ) (cut : Bool) (returns : ℕ → Bool) (line d : ℕ) → (13 == d) ≡ false → (10 == d) ≡ false → begins_with d (with_ends cut returns line cs) ≡ begins_with d cs
first_same [] cut returns line d m n = refl
first_same (c ∷ cs) cut returns line d m n = elim (cases_Bool (c == 10)) [
  | inl e ↦ rw e (end_first cut (returns line) cs (with_ends cut returns (suc line) cs) d m n ∙ sym (subst (λ (k : ℕ). (k == d) ≡ false) (is_that c 10 e) n))
  | inr e ↦ rw e refl
]

feed_mark : (c d : ℕ) (more : List ℕ) → (d == 10) ≡ true → is_mark true c (d ∷ more) ≡ false
feed_mark c d [] e = refl
feed_mark c d (x ∷ xs) e = let k : (((c == 45) || (c == 46)) && (d == c)) ≡ false = feed_is_no_second c d e in rw k refl

second_feed_mark : (c d e : ℕ) (more : List ℕ) → (e == 10) ≡ true → is_mark true c (d ∷ e ∷ more) ≡ false
second_feed_mark c d e more g = let k : ((((c == 45) || (c == 46)) && (d == c)) && (e == c)) ≡ false = no_third _ (d == c) (e == c) (feed_is_no_second c e g) in rw k refl

mark_same : (cs : List ℕ) (cut : Bool) (returns : ℕ → Bool) (line c : ℕ) → is_clear cut returns line cs ≡ true → begins_mark c (with_ends cut returns line cs) ≡ is_mark true c cs
mark_same [] cut returns line c h = refl
mark_same (d ∷ []) cut returns line c h = elim (cases_Bool (d == 10)) [
  | inl e ↦ rw e (end_mark cut (returns line) [] [] c)
  | inr e ↦ rw e refl
]
mark_same (d ∷ e ∷ more) cut returns line c h = elim (cases_Bool (d == 10)) [
  | inl f ↦ rw f (end_mark cut (returns line) (e ∷ more) (with_ends cut returns (suc line) (e ∷ more)) c ∙ sym (feed_mark c d (e ∷ more) f))
  | inr f ↦
      let k : is_clear cut returns line (e ∷ more) ≡ true = (clear_parts d (e ∷ more) cut returns line f h).more in
      elim (cases_Bool (e == 10)) [
        | inl g ↦ rw (f, g) (second_mark cut (returns line) more (with_ends cut returns (suc line) more) c d ∙ sym (second_feed_mark c d e more g))
        | inr g ↦ rw (f, g, word_same more cut returns line ((clear_parts e more cut returns line g k).more)) refl
      ]
]

pub ahead : (cs : List ℕ) (cut : Bool) (returns : ℕ → Bool) (line : ℕ) → is_clear cut returns line cs ≡ true → Ahead (with_returns cs) (with_ends cut returns line cs)
ahead cs cut returns line h = record {
  word = word_same cs cut returns line h ∙ sym (word_ahead cs);
  quote = first_same cs cut returns line 39 refl refl ∙ sym (first_ahead cs 39 refl refl);
  space = first_same cs cut returns line 32 refl refl ∙ sym (first_ahead cs 32 refl refl);
  mark = λ c. mark_same cs cut returns line c h ∙ sym (mark_ahead cs c);
}

-- the characters are read to the end of the file, with this value
pub record Finishes (f : Front) (at : ℕ) (xs : List ℕ) (v : Value) : Type 0 where
  pub front : Front
  pub run : walk f at xs ≡ Ok front
  pub value : ends front.frames front.inner (past at xs) ≡ Ok v

-- the next front, where the first step is known
stepped : (x y : Result Front Broken) (begun : Bool) (at to : ℕ) (look xs more : List ℕ) (v : Value) → Same begun at to look x y → OnFrom x at xs v
    → ((g h : Front) → h.frames ≡ g.frames → Alike at to g.inner h.inner → Fits look g.inner → Begun begun at g.inner → ReadsOn g at xs v → Finishes h to more v)
    → (k : Front) × (y ≡ Ok k) × Finishes k to more v
stepped (Ok g) (Ok h) begun at to look xs more v s e go = (h, refl, go g h s.0 s.1 s.2 s.3 e)
stepped (Ok g) (Err b) begun at to look xs more v s e go = absurd s
stepped (Err b) y begun at to look xs more v s e go = absurd e

stepped_walk : (f k : Front) (at c : ℕ) (rest : List ℕ) (v : Value) → step f at c rest ≡ Ok k → Finishes k (at + len_utf8 c) rest v → Finishes f at (c ∷ rest) v
unfolding walk
stepped_walk f k at c rest v e r = record { front = r.front; run = rw e r.run; value = r.value }

pub step_is : (fs : List Frame) (j : Innermost) (to c : ℕ) (rest : List ℕ) → ((c == 13) && begins_with 10 rest) ≡ false → step (front fs j) to c rest ≡ taken fs j to c rest
unfolding step
step_is fs j to c rest h = rw h refl

-- what may stand before a line end with a carriage return may stand before one without
pub fits_feed : (i : Innermost) (more rest : List ℕ) → Fits (13 ∷ more) i → Fits (10 ∷ rest) i
fits_feed (InMark zero) more rest f = (f.0, refl)
fits_feed (InMark (suc k)) more rest f = absurd (let g : false ≡ true = f.1 in cc)
fits_feed (AtBlankEnd n b) more rest f = f
fits_feed (AtLine s w) more rest f = tt
fits_feed (AtValue s m sp) more rest f = tt
fits_feed (InPlain t role b sp) more rest f = tt
fits_feed (InSingle t role b) more rest f = tt
fits_feed (AtSecondQuote t role b) more rest f = tt
fits_feed (InDouble t role b) more rest f = tt
fits_feed (InEscape t role b) more rest f = tt
fits_feed (InDigits t role b left number) more rest f = tt
fits_feed (AfterQuoted x role b sp) more rest f = tt
fits_feed (AfterValue w sp) more rest f = tt
fits_feed (InComment w) more rest f = tt
fits_feed (InHeader b g sp) more rest f = tt
fits_feed (InHeaderComment b) more rest f = tt
fits_feed (AtTextLine s b) more rest f = tt
fits_feed (InTextLine b) more rest f = tt

-- the end of a file may be cut off after these
abbrev pub may_cut : (begun : Bool) → List ℕ → Bool
may_cut begun [] = true
may_cut begun (c ∷ cs) = ends_begun begun (c ∷ cs)

cut_later : (begun : Bool) (c : ℕ) (cs : List ℕ) → may_cut begun (c ∷ cs) ≡ true → may_cut (not (c == 10)) cs ≡ true
cut_later begun c [] h = refl
cut_later begun c (d ∷ ds) h = h

last_of : (r : Result Front Broken) (at : ℕ) (v : Value) → OnFrom r at [] v → (r >>= λ g. ends g.frames g.inner at) ≡ Ok v
unfolding line_walk
last_of (Ok g) at v h = h
last_of (Err e) at v h = absurd h

-- the file ends here, with the value that it has with one more line feed
ended_here : (fs : List Frame) (i j : Innermost) (at to : ℕ) (v : Value) → Alike at to i j → Fits (10 ∷ []) i → Begun true at i → ReadsOn (front fs i) at (10 ∷ []) v → Finishes (front fs j) to [] v
unfolding walk
ended_here fs i j at to v a f b r = record {
  front = front fs j;
  run = refl;
  value = ends_same i j at to fs v a (last_ends i at fs v f b (last_of (taken fs i at 10 []) (at + 1) v (step_on fs i at 10 [] v r)));
}

two_steps : (r : Result Front Broken) (k : Front) (at : ℕ) (more : List ℕ) (g : Front) → (r >>= λ h. step h at 10 more) ≡ Ok k → walk k (at + 1) more ≡ Ok g → (r >>= λ h. walk h at (10 ∷ more)) ≡ Ok g
unfolding walk
two_steps (Ok h) k at more g e r = rw e r
two_steps (Err b) k at more g e r = absurd (let q : Err b ≡ Ok k = e in cc)

returned_walk : (fs : List Frame) (j : Innermost) (k : Front) (to : ℕ) (more : List ℕ) (v : Value) → returned fs j to more ≡ Ok k → Finishes k (to + 1 + 1) more v → Finishes (front fs j) to (13 ∷ 10 ∷ more) v
unfolding walk
returned_walk fs j k to more v e r = record { front = r.front; run = two_steps (step (front fs j) to 13 (10 ∷ more)) k (to + 1) more r.front e r.run; value = r.value }

-- what follows a line end
abbrev Next : (at : ℕ) → (cs more : List ℕ) → Value → Type 0
Next at cs more v = (q : ℕ) (g k : Front) → k.frames ≡ g.frames → Alike (at + 1) (q + 1) g.inner k.inner → Fits (with_returns cs) g.inner → Begun false (at + 1) g.inner → ReadsOn g (at + 1) cs v → Finishes k (q + 1) more v

with_return : (fs : List Frame) (i j : Innermost) (at to : ℕ) (cs more : List ℕ) (v : Value) → Alike at to i j → Fits (10 ∷ with_returns cs) i → ReadsOn (front fs i) at (10 ∷ cs) v → Next at cs more v → Finishes (front fs j) to (13 ∷ 10 ∷ more) v
with_return fs i j at to cs more v a f r next =
    let look : List ℕ = with_returns cs in
    let s : (k : Front) × (returned fs j to more ≡ Ok k) × Finishes k (to + 1 + 1) more v
    = stepped (taken fs i at 10 look) (returned fs j to more) false (at + 1) (to + 1 + 1) look cs more v (return_same i j at to look more fs a f) (step_on fs i at 10 cs v r) (next (to + 1)) in
    returned_walk fs j s.0 to more v s.1 s.2

with_feed : (fs : List Frame) (i j : Innermost) (at to : ℕ) (cs more : List ℕ) (v : Value) → Alike at to i j → Fits (10 ∷ with_returns cs) i → ReadsOn (front fs i) at (10 ∷ cs) v → Next at cs more v → Finishes (front fs j) to (10 ∷ more) v
with_feed fs i j at to cs more v a f r next =
    let look : List ℕ = with_returns cs in
    let y : Result Front Broken = taken fs j to 10 more in
    let s : (k : Front) × (y ≡ Ok k) × Finishes k (to + 1) more v
    = stepped (taken fs i at 10 look) y false (at + 1) (to + 1) look cs more v (feed_same i j at to look more fs a f) (step_on fs i at 10 cs v r) (next to) in
    stepped_walk (front fs j) s.0 to 10 more v (step_is fs j to 10 more refl ∙ s.1) s.2

begun_true : (b : Bool) (at : ℕ) (i : Innermost) → (b && true) ≡ true → Begun b at i → Begun true at i
begun_true true at i e h = h
begun_true false at i e h = cc

line_ends_so : (cut return begun : Bool) (cs more : List ℕ) (fs : List Frame) (i j : Innermost) (at to : ℕ) (v : Value) → Alike at to i j → Fits (13 ∷ 10 ∷ with_returns cs) i → Begun begun at i → (cut ≡ true → may_cut begun (10 ∷ cs) ≡ true)
    → ReadsOn (front fs i) at (10 ∷ cs) v → Next at cs more v → Finishes (front fs j) to (end_of_line cut return cs more) v
line_ends_so true true begun [] more fs i j at to v a f b c r next = ended_here fs i j at to v a (fits_feed i (10 ∷ []) [] f) (begun_true begun at i (c refl) b) r
line_ends_so true false begun [] more fs i j at to v a f b c r next = ended_here fs i j at to v a (fits_feed i (10 ∷ []) [] f) (begun_true begun at i (c refl) b) r
line_ends_so true true begun (d ∷ ds) more fs i j at to v a f b c r next = with_return fs i j at to (d ∷ ds) more v a (fits_feed i (10 ∷ with_returns (d ∷ ds)) (with_returns (d ∷ ds)) f) r next
line_ends_so true false begun (d ∷ ds) more fs i j at to v a f b c r next = with_feed fs i j at to (d ∷ ds) more v a (fits_feed i (10 ∷ with_returns (d ∷ ds)) (with_returns (d ∷ ds)) f) r next
line_ends_so false true begun cs more fs i j at to v a f b c r next = with_return fs i j at to cs more v a (fits_feed i (10 ∷ with_returns cs) (with_returns cs) f) r next
line_ends_so false false begun cs more fs i j at to v a f b c r next = with_feed fs i j at to cs more v a (fits_feed i (10 ∷ with_returns cs) (with_returns cs) f) r next

pub no_blank_end : (b d : Bool) → d ≡ false → (b && d) ≡ false
no_blank_end true d e = e
no_blank_end false d e = refl

pub ends_so : (xs : List ℕ) (cut : Bool) (returns : ℕ → Bool) (line : ℕ) (fs : List Frame) (i j : Innermost) (at to : ℕ) (begun : Bool) (v : Value) → Alike at to i j → Fits (with_returns xs) i → Begun begun at i → is_clear cut returns line xs ≡ true
    → (cut ≡ true → may_cut begun xs ≡ true) → ReadsOn (front fs i) at xs v → Finishes (front fs j) to (with_ends cut returns line xs) v
unfolding line_walk walk
ends_so [] cut returns line fs i j at to begun v a f b clear cuts r = record { front = front fs j; run = refl; value = ends_same i j at to fs v a r }
ends_so (c ∷ cs) cut returns line fs i j at to begun v a f b clear cuts r =
    elim (cases_Bool (c == 10)) [
      | inl e ↦
          let more : List ℕ = with_ends cut returns (suc line) cs in
          let g : is_clear cut returns (suc line) cs ≡ true = rw e at clear in
          let u : Fits (13 ∷ 10 ∷ with_returns cs) i = rw e at f in
          let next : Next at cs more v
          = λ q x k l m n o p. subst (λ (gs : List Frame). Finishes (front gs k.inner) (q + 1) more v) (sym l)
          (ends_so cs cut returns (suc line) x.frames x.inner k.inner (at + 1) (q + 1) false v m n o g (λ t. subst (λ (z : Bool). may_cut (not z) cs ≡ true) e (cut_later begun c cs (cuts t))) p) in
          let Q : ℕ → Type 0 = λ d. (cut ≡ true → may_cut begun (d ∷ cs) ≡ true) → ReadsOn (front fs i) at (d ∷ cs) v → Finishes (front fs j) to (end_of_line cut (returns line) cs more) v in
          rw e (subst Q (is_that c 10 e) (λ m n. line_ends_so cut (returns line) begun cs more fs i j at to v a u b m n next) cuts r)
      | inr e ↦
          let more : List ℕ = with_ends cut returns line cs in
          let h : Clear c cs cut returns line = clear_parts c cs cut returns line e clear in
          let g : is_clear cut returns line cs ≡ true = h.more in
          let look : List ℕ = with_returns cs in
          let z : Fits (c ∷ look) i = rw e at f in
          let y : Result Front Broken = taken fs j to c more in
          let w : ((c == 13) && begins_with 10 more) ≡ false = h.here in
          let s : (k : Front) × (y ≡ Ok k) × Finishes k (to + len_utf8 c) more v
          = stepped (taken fs i at c look) y true (at + len_utf8 c) (to + len_utf8 c) look cs more v
          (taken_same i j at to c look more fs a z e (no_blank_end (c == 13) (begins_with 10 look) (no_feed_ahead cs)) w (ahead cs cut returns line g)) (step_on fs i at c cs v r)
          (λ x k l m n o p. subst (λ (gs : List Frame). Finishes (front gs k.inner) (to + len_utf8 c) more v) (sym l)
          (ends_so cs cut returns line x.frames x.inner k.inner (at + len_utf8 c) (to + len_utf8 c) true v m n o g (λ t. subst (λ (q : Bool). may_cut (not q) cs ≡ true) e (cut_later begun c cs (cuts t))) p)) in
          rw e (stepped_walk (front fs j) s.0 to c more v (step_is fs j to c more w ∙ s.1) s.2)
    ]

pub cut_of : (xs : List ℕ) → ends_begun false xs ≡ true → may_cut false xs ≡ true
cut_of [] h = refl
cut_of (c ∷ cs) h = h
