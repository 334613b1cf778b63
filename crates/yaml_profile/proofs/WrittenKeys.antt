-- How keys of written files are read, and what begins on a line.
use Rattle.std.proofs.Common.{◌≡◌, ℕ, zero, suc, ◌+◌, ◌-◌, ◌<◌, ◌≤◌, Bool, true, false, not, ◌&&◌, ◌||◌, ◌==◌, nat_lt, List, [], ◌∷◌, ◌++◌, length, Option, Some, Result, refl, sym, ap, subst, ◌∙◌, arith, append_assoc, codes, inl, inr}
use Rattle.std.specs.Str.{bytes_eq}
use Rattle.std.proofs.lemmas.Bool.{and_parts, cases_Bool}
use Rattle.std.proofs.lemmas.Bool.Decides.{nat_tests}
use Rattle.std.specs.List.{list_any}
use Rattle.yaml_profile.specs.declared.stop.Broken.{Broken}
use Rattle.yaml_profile.specs.declared.front.Role.{Role}
use Rattle.yaml_profile.specs.declared.front.Role.TheVariants.{Value as ValueOnly, Either, Key as KeyOnly}
use Rattle.yaml_profile.specs.Answers.{◌>>=◌, no_text}
use Rattle.yaml_profile.specs.Signs.{begins_with, ends_word, begins_mark, behind, is_word_sign, begins_nothing}
use Rattle.yaml_profile.specs.Folding.{Folding, nothing_yet}
use Rattle.yaml_profile.specs.Fronts.{Frame, Waiting, Fresh, Nothing, Going, Whole, Innermost, AtLine, AtValue, InPlain, AfterQuoted, Front, front, value_so_far, is_flow, is_deeper, is_map_at, is_full}
use Rattle.yaml_profile.specs.Pieces.{begin_value, in_at_value, in_plain, in_after_quoted, is_value_only, plain_key, key_of, first_key, further_key}
use Rattle.yaml_profile.specs.Layout.{in_line, line_content, block_line, value_on_line, settle, is_dash, ends_blank_line}
use Rattle.yaml_profile.specs.Reading.{taken}
use Rattle.yaml_profile.specs.Written.{spaces, word_ends, is_mark, may_begin, IsPlain, with_chars, spell_inners, spell_singles, Double, Single, spell_scalar, Key, PlainKey, DoubleKey, SingleKey, spell_key, key_text, IsKey, double_text, is_line_end, single_text, is_feed}
use Rattle.yaml_profile.proofs.WrittenTexts.{return_ahead, goes_by, spaced_by, spaces_quoted, spaced_after, After, next_word}
use Rattle.yaml_profile.proofs.ReadSteps.{is_that, line_walk, never, not_true, past, past_append, with_returns, no_second}
use Rattle.yaml_profile.proofs.WrittenQuotes.{MayEnd, same_then}
use Rattle.yaml_profile.proofs.WrittenLines.{BeginFacts, begin_facts, begin_run, role_of, line_goes, double_goes, singled_goes}

-- ---- tests

pub lt_true : (a b : ℕ) → a < b → nat_lt a b ≡ true
lt_true a b h = grind (arith, nat_tests)

pub lt_false : (a b : ℕ) → b ≤ a → nat_lt a b ≡ false
lt_false a b h = grind (arith, nat_tests)

pub eq_self : (a : ℕ) → (a == a) ≡ true
eq_self a = grind (arith, nat_tests)

pub not_full : (fs : List Frame) (level : ℕ) → length fs ≡ level → level < 32 → is_full fs ≡ false
not_full fs level e h = grind (arith, nat_tests)

-- ---- a key, from its first character to its colon

-- what a key does, where one may stand
abbrev pub named : List Frame → Role → List ℕ → ℕ → Result Front Broken
named fs ValueOnly key at = no_text at
named fs (Either n) key at = first_key fs n key at
named fs KeyOnly key at = further_key fs key at

is_named : (fs : List Frame) (role : Role) (key : List ℕ) (at fails : ℕ) → is_value_only role ≡ false → key_of fs role key at fails ≡ named fs role key at
unfolding key_of
is_named fs ValueOnly key at fails h = cc
is_named fs (Either n) key at fails h = refl
is_named fs KeyOnly key at fails h = refl

plain_colon : (fs : List Frame) (t : Folding) (role : Role) (begun : ℕ) (sp : Bool) (at : ℕ) (rest : List ℕ) → is_value_only role ≡ false → ends_word rest ≡ true → bytes_eq t.text (codes "<<") ≡ false
    → taken fs (InPlain t role begun sp) at 58 rest ≡ named fs role t.text begun
unfolding taken in_plain plain_key
plain_colon fs t role begun sp at rest v w k = rw (w, k) (is_named fs role t.text begun (behind at rest) v)

quoted_colon : (fs : List Frame) (x : List ℕ) (role : Role) (begun : ℕ) (sp : Bool) (at : ℕ) (rest : List ℕ) → is_value_only role ≡ false → ends_word rest ≡ true
    → taken fs (AfterQuoted x role begun sp) at 58 rest ≡ named fs role x begun
unfolding taken in_after_quoted
quoted_colon fs x role begun sp at rest v w = rw w (is_named fs role x begun at v)

quoted_key_goes : (x ys : List ℕ) (n : ℕ) (fs : List Frame) (role : Role) (at : ℕ) (rest : List ℕ) → is_value_only role ≡ false → ends_word (with_returns rest) ≡ true
    → begin_run fs role at (ys ++ (spaces n ++ 58 ∷ rest)) ≡ line_walk (front fs (AfterQuoted x role at false)) (past at ys) (spaces n ++ 58 ∷ rest)
    → begin_run fs role at ((ys ++ spaces n) ++ 58 ∷ rest) ≡ (named fs role x at >>= λ g. line_walk g (past at ((ys ++ spaces n) ++ 58 ∷ [])) rest)
quoted_key_goes x ys n fs role at rest v w e =
    let zs : List ℕ = ys ++ spaces n in
    let p : ℕ = past (past at ys) (spaces n) in
    let i : Innermost = AfterQuoted x role at (spaced_by false n) in
    ap (λ us. begin_run fs role at us) (append_assoc ys (spaces n) (58 ∷ rest))
    ∙ (e
    ∙ (spaces_quoted n fs x role at false (past at ys) (58 ∷ rest)
    ∙ (goes_by fs i (named fs role x at) p 58 rest (quoted_colon fs x role at (spaced_by false n) p (with_returns rest) v w)
    ∙ ap (λ q. named fs role x at >>= λ g. line_walk g q rest) (sym (past_append zs (58 ∷ []) at ∙ ap (λ q. q + 1) (past_append ys (spaces n) at))))))

key_no_quote : (n : ℕ) (rest : List ℕ) → begins_with 39 (with_returns (spaces n ++ 58 ∷ rest)) ≡ false
key_no_quote zero rest = refl
key_no_quote (suc n) rest = refl

one_line : {X : Type 0} (f : X → Bool) (xs : List X) (r : Role) → list_any f xs ≡ false → MayEnd f r xs
one_line f xs r h = λ e. absurd (let q : true ≡ false = sym e ∙ h in cc)

pub key_goes : (k : Key) (place : Option ℕ) (fs : List Frame) (role : Role) (at : ℕ) (rest : List ℕ) → IsKey place k → is_flow fs ≡ false → is_value_only role ≡ false → ends_word (with_returns rest) ≡ true
    → begin_run fs role at (spell_key k ++ 58 ∷ rest) ≡ (named fs role (key_text k) at >>= λ g. line_walk g (past at (spell_key k ++ 58 ∷ [])) rest)
key_goes (PlainKey c cs) place fs role at rest k f v w =
    let t : Folding = with_chars nothing_yet (c ∷ cs) in
    let sp : Bool = spaced_after false cs in
    let m : ℕ = past at (c ∷ cs) in
    line_goes c cs fs role false false at (58 ∷ rest) k.0.0 k.0.1 f refl
    ∙ (goes_by fs (InPlain t role at sp) (named fs role t.text at) m 58 rest (plain_colon fs t role at sp m (with_returns rest) v w k.1)
    ∙ ap (λ p. named fs role t.text at >>= λ g. line_walk g p rest) (sym (past_append (c ∷ cs) (58 ∷ []) at)))
key_goes (DoubleKey xs n) place fs role at rest k f v w =
    let ys : List ℕ = spell_scalar (Double xs) in
    let zs : List ℕ = spaces n ++ 58 ∷ rest in
    quoted_key_goes (double_text xs) ys n fs role at rest v w
    (double_goes xs fs role at zs k.0 (one_line is_line_end xs role k.1)
    ∙ ap (λ (r : Role). line_walk (front fs (AfterQuoted (double_text xs) r at false)) (past at ys) zs) (same_then is_line_end xs role k.1))
key_goes (SingleKey cs n) place fs role at rest k f v w =
    let ys : List ℕ = spell_scalar (Single cs) in
    let zs : List ℕ = spaces n ++ 58 ∷ rest in
    quoted_key_goes (single_text cs) ys n fs role at rest v w
    (singled_goes cs fs role at zs (one_line is_feed cs role k) (key_no_quote n rest)
    ∙ ap (λ (r : Role). line_walk (front fs (AfterQuoted (single_text cs) r at false)) (past at ys) zs) (same_then is_feed cs role k))

-- ---- what begins on a line

-- a character of content at a column, which isn't a mark's first
pub record Content (n c : ℕ) (rest : List ℕ) : Type 0 where
  pub space : (c == 32) ≡ false
  pub feed : (c == 10) ≡ false
  pub tab : (c == 9) ≡ false
  pub hash : (c == 35) ≡ false
  pub return : ends_blank_line c rest ≡ false
  pub mark : ((n == 0) && begins_mark c rest) ≡ false

pub and_false : (b : Bool) → (b && false) ≡ false
and_false true = refl
and_false false = refl

no_mark : (c : ℕ) (rest : List ℕ) → (c == 45) ≡ false → (c == 46) ≡ false → begins_mark c rest ≡ false
no_mark c [] a b = refl
no_mark c (d ∷ []) a b = refl
no_mark c (d ∷ e ∷ more) a b = rw (a, b) refl

first_word : (d : ℕ) (ds : List ℕ) → ends_word (d ∷ ds) ≡ true → (d == 45) ≡ false
first_word d ds h = grind (arith, nat_tests)

dash_mark : (rest : List ℕ) → ends_word rest ≡ true → begins_mark 45 rest ≡ false
dash_mark [] h = refl
dash_mark (d ∷ []) h = refl
dash_mark (d ∷ e ∷ more) h = rw (first_word d (e ∷ more) h) refl

pub dash_content : (n : ℕ) (rest : List ℕ) → ends_word rest ≡ true → Content n 45 rest
dash_content n rest h = record { space = refl; feed = refl; tab = refl; hash = refl; return = refl; mark = rw (dash_mark rest h) (and_false (n == 0)) }

pub content_line : (fs : List Frame) (w : Waiting) (s at n c : ℕ) (rest : List ℕ) → at - s ≡ n → is_flow fs ≡ false → Content n c rest
    → taken fs (AtLine s w) at c rest ≡ block_line fs w s at c rest
unfolding taken in_line line_content
content_line fs w s at n c rest e f h =
    let m : (((at - s) == 0) && begins_mark c rest) ≡ false = ap (λ (k : ℕ). (k == 0) && begins_mark c rest) e ∙ h.mark in
    rw (h.space, h.feed, h.tab, h.hash, f, m) refl

-- a value that is no block, or a key, begins with this character at a place, in a flow list or not
pub record Starts (place : Option ℕ) (flow : Bool) (c : ℕ) (rest : List ℕ) : Type 0 where
  pub space : (c == 32) ≡ false
  pub feed : (c == 10) ≡ false
  pub hash : (c == 35) ≡ false
  pub return : ends_blank_line c rest ≡ false
  pub right : (c == 93) ≡ false
  pub dash : is_dash c rest ≡ false
  pub tab : (n : ℕ) → place ≡ Some n → (c == 9) ≡ false
  pub mark : (n : ℕ) → place ≡ Some n → flow ≡ false → ((n == 0) && begins_mark c rest) ≡ false

pub line_content_of : (n c : ℕ) (rest : List ℕ) → Starts (Some n) false c rest → Content n c rest
line_content_of n c rest h = record { space = h.space; feed = h.feed; tab = h.tab n refl; hash = h.hash; return = h.return; mark = h.mark n refl refl }

-- an indicator that begins nothing but one value
pub sign_starts : (place : Option ℕ) (flow : Bool) (c : ℕ) (rest : List ℕ) → (c == 32) ≡ false → (c == 10) ≡ false → (c == 9) ≡ false → (c == 35) ≡ false → (c == 13) ≡ false → (c == 45) ≡ false → (c == 46) ≡ false → (c == 93) ≡ false
    → Starts place flow c rest
sign_starts place flow c rest a b d e f g h i = record {
  space = a;
  feed = b;
  hash = e;
  return = rw f refl;
  right = i;
  dash = rw g refl;
  tab = λ n q. d;
  mark = λ n q r. rw (no_mark c rest g h) (and_false (n == 0));
}

pub no_second_of : (c d e : ℕ) (more : List ℕ) → (d == 45) ≡ false → (d == 46) ≡ false → begins_mark c (d ∷ e ∷ more) ≡ false
no_second_of c d e more a b = rw (no_second c d a b) refl

pub no_third : (c d e : ℕ) (x : Bool) → (e == 45) ≡ false → (e == 46) ≡ false → (((c == 45) || (c == 46)) && (d == c) && (e == c) && x) ≡ false
no_third c d e x a b = elim (cases_Bool (c == 45)) [
  | inl g ↦ let q : (e == c) ≡ false = subst (λ (k : ℕ). (e == k) ≡ false) (is_that c 45 g) a in rw (g, q) (elim (cases_Bool (d == c)) [ inl h ↦ rw h refl | inr h ↦ rw h refl ])
  | inr g ↦ elim (cases_Bool (c == 46)) [
    | inl i ↦ let q : (e == c) ≡ false = subst (λ (k : ℕ). (e == k) ≡ false) (is_that c 46 i) b in rw (g, i, q) (elim (cases_Bool (d == c)) [ inl h ↦ rw h refl | inr h ↦ rw h refl ])
    | inr i ↦ rw (g, i) refl
  ]
]

no_first_mark : (c : ℕ) (zs : List ℕ) → begins_with 45 zs ≡ false → begins_with 46 zs ≡ false → begins_mark c zs ≡ false
no_first_mark c [] a b = refl
no_first_mark c (d ∷ []) a b = refl
no_first_mark c (d ∷ e ∷ more) a b = no_second_of c d e more a b

no_second_mark : (c d : ℕ) (zs : List ℕ) → begins_with 45 zs ≡ false → begins_with 46 zs ≡ false → begins_mark c (d ∷ zs) ≡ false
no_second_mark c d [] a b = refl
no_second_mark c d (e ∷ more) a b = no_third c d e (ends_word more) a b

feed_no_mark : (c d e : ℕ) (more : List ℕ) (ended : Bool) → (d == 10) ≡ true → is_mark ended c (d ∷ e ∷ more) ≡ false
feed_no_mark c d e more ended h = subst (λ (k : ℕ). is_mark ended c (k ∷ e ∷ more) ≡ false) (is_that d 10 h) (rw (no_second c 10 refl refl) refl)

second_feed_no_mark : (c d e : ℕ) (more : List ℕ) (ended : Bool) → (e == 10) ≡ true → is_mark ended c (d ∷ e ∷ more) ≡ false
second_feed_no_mark c d e more ended h = subst (λ (k : ℕ). is_mark ended c (d ∷ k ∷ more) ≡ false) (is_that e 10 h) (no_third c d 10 (word_ends ended more) refl refl)

-- what stands after a text isn't the rest of a mark
pub mark_is : (c : ℕ) (cs rest : List ℕ) (ended : Bool) → After ended rest → begins_mark c (with_returns (cs ++ rest)) ≡ is_mark ended c cs
mark_is c [] rest ended a = no_first_mark c (with_returns rest) a.dash a.dot
mark_is c (d ∷ []) rest ended a = elim (cases_Bool (d == 10)) [
  | inl e ↦ rw e (no_second_of c 13 10 (with_returns rest) refl refl)
  | inr e ↦ rw e (no_second_mark c d (with_returns rest) a.dash a.dot)
]
mark_is c (d ∷ e ∷ more) rest ended a = elim (cases_Bool (d == 10)) [
  | inl f ↦ rw f (no_second_of c 13 10 (with_returns (e ∷ (more ++ rest))) refl refl ∙ sym (feed_no_mark c d e more ended f))
  | inr f ↦ elim (cases_Bool (e == 10)) [
    | inl g ↦ rw (f, g) (no_third c d 13 (ends_word (10 ∷ with_returns (more ++ rest))) refl refl ∙ sym (second_feed_no_mark c d e more ended g))
    | inr g ↦ rw (f, g, next_word more rest ended a.word) refl
  ]
]

word_dash : (c : ℕ) (w : Bool) → (is_word_sign c && w) ≡ false → ((c == 45) && w) ≡ false
word_dash c w h = elim (cases_Bool (c == 45)) [
  | inl e ↦ let q : w ≡ false = subst (λ (k : ℕ). (is_word_sign k && w) ≡ false) (sym (is_that c 45 e)) h in rw q (and_false (c == 45))
  | inr e ↦ rw e refl
]

mark_off : (flow b c : Bool) → not (not flow && b && c) ≡ true → flow ≡ false → (b && c) ≡ false
mark_off true b c h e = cc
mark_off false b c h e = not_true _ h

pub mark_of : (flow ended : Bool) (n c : ℕ) (cs rest : List ℕ) → After ended rest → not (not flow && (n == 0) && is_mark ended c cs) ≡ true → flow ≡ false
    → ((n == 0) && begins_mark c (with_returns (cs ++ rest))) ≡ false
mark_of flow ended n c cs rest a m q = rw (mark_is c cs rest ended a) (mark_off flow (n == 0) (is_mark ended c cs) m q)

pub plain_starts : (place : Option ℕ) (flow ended : Bool) (c : ℕ) (cs rest : List ℕ) → IsPlain place flow ended c cs → After ended rest → Starts place flow c (with_returns (cs ++ rest))
plain_starts place flow ended c cs rest h a =
    let f : BeginFacts ended c cs = begin_facts ended c cs h.0 in
    let w : ends_word (with_returns (cs ++ rest)) ≡ word_ends ended cs = next_word cs rest ended a.word in
    let line : (n : ℕ) → place ≡ Some n → (not (c == 9) ≡ true) × (not (not flow && (n == 0) && is_mark ended c cs) ≡ true)
    = λ n q. let m : may_begin (Some n) flow ended c cs ≡ true = subst (λ (o : Option ℕ). may_begin o flow ended c cs ≡ true) q h.2 in and_parts _ _ m in
    record {
      space = f.space;
      feed = f.feed;
      hash = never begins_nothing c 35 f.nothing refl;
      return = return_ahead c (cs ++ rest);
      right = never begins_nothing c 93 f.nothing refl;
      dash = rw w (word_dash c (word_ends ended cs) f.word);
      tab = λ n q. not_true _ (line n q).0;
      mark = λ n q r. mark_of flow ended n c cs rest a (line n q).1 r;
    }

-- such characters, before what may stand after them
pub record Started (place : Option ℕ) (flow ended : Bool) (xs : List ℕ) : Type 0 where
  pub first : ℕ
  pub tail : List ℕ
  pub parts : xs ≡ first ∷ tail
  pub starts : (rest : List ℕ) → After ended rest → Starts place flow first (with_returns (tail ++ rest))

pub started_by : (place : Option ℕ) (flow ended : Bool) (xs : List ℕ) (g : Started place flow ended xs) (fs gs : List Frame) (i : Innermost) (role : Role) (at : ℕ) (rest : List ℕ) → After ended rest
    → ((c : ℕ) (cs : List ℕ) → Starts place flow c cs → taken fs i at c cs ≡ begin_value gs role at c cs) → line_walk (front fs i) at (xs ++ rest) ≡ begin_run gs role at (xs ++ rest)
started_by place flow ended xs g fs gs i role at rest a step =
    let c : ℕ = g.first in
    let cs : List ℕ = g.tail ++ rest in
    let p : xs ++ rest ≡ c ∷ cs = ap (λ zs. zs ++ rest) g.parts in
    let h : Starts place flow c (with_returns cs) = g.starts rest a in
    ap (λ zs. line_walk (front fs i) at zs) p ∙ (goes_by fs i (begin_value gs role at c (with_returns cs)) at c cs (step c (with_returns cs) h) ∙ ap (λ zs. begin_run gs role at zs) (sym p))

pub key_started : (k : Key) (place : Option ℕ) → IsKey place k → Started place false false (spell_key k)
key_started (PlainKey c cs) place h = record { first = c; tail = cs; parts = refl; starts = λ rest a. plain_starts place false false c cs rest h.0 a }
key_started (DoubleKey xs n) place h = record {
  first = 34;
  tail = (spell_inners xs ++ 34 ∷ []) ++ spaces n;
  parts = refl;
  starts = λ rest a. sign_starts place false 34 (with_returns (((spell_inners xs ++ 34 ∷ []) ++ spaces n) ++ rest)) refl refl refl refl refl refl refl refl;
}
key_started (SingleKey cs n) place h = record {
  first = 39;
  tail = (spell_singles cs ++ 39 ∷ []) ++ spaces n;
  parts = refl;
  starts = λ rest a. sign_starts place false 39 (with_returns (((spell_singles cs ++ 39 ∷ []) ++ spaces n) ++ rest)) refl refl refl refl refl refl refl refl;
}

-- after a colon, a dash, a bracket or a comma
pub value_taken : (place : Option ℕ) (flow : Bool) (fs : List Frame) (s : ℕ) (m sp : Bool) (at c : ℕ) (rest : List ℕ) → Starts place flow c rest → taken fs (AtValue s m sp) at c rest ≡ begin_value fs (role_of m (at - s)) at c rest
unfolding taken in_at_value
value_taken place flow fs s m sp at c rest h = rw (h.space, h.feed, h.hash, h.right) refl

pub value_run : (place : Option ℕ) (flow ended : Bool) (xs : List ℕ) (g : Started place flow ended xs) (fs : List Frame) (s : ℕ) (m sp : Bool) (at : ℕ) (rest : List ℕ) → After ended rest
    → line_walk (front fs (AtValue s m sp)) at (xs ++ rest) ≡ begin_run fs (role_of m (at - s)) at (xs ++ rest)
value_run place flow ended xs g fs s m sp at rest a = started_by place flow ended xs g fs fs (AtValue s m sp) (role_of m (at - s)) at rest a (λ c cs h. value_taken place flow fs s m sp at c cs h)

-- nothing is there yet
abbrev pub is_pending : Waiting → Bool
is_pending Fresh = true
is_pending Nothing = true
is_pending _ = false

pub pending_line : (fs : List Frame) (w : Waiting) (s at c : ℕ) (rest : List ℕ) → is_pending w ≡ true → block_line fs w s at c rest ≡ value_on_line fs s at c rest
unfolding block_line
pending_line fs Fresh s at c rest h = refl
pending_line fs Nothing s at c rest h = refl
pending_line fs (Going t) s at c rest h = cc
pending_line fs (Whole v) s at c rest h = cc

-- something begins that isn't deeper: the value so far is whole
pub settle_line : (fs : List Frame) (w : Waiting) (s at n c : ℕ) (rest : List ℕ) → at - s ≡ n → is_deeper n fs ≡ false → (is_map_at n fs && is_dash c rest) ≡ false
    → block_line fs w s at c rest ≡ settle fs (value_so_far w) s at c rest
unfolding block_line value_on_line
settle_line fs Fresh s at n c rest e d m = rw (e, d, m) refl
settle_line fs Nothing s at n c rest e d m = rw (e, d, m) refl
settle_line fs (Going t) s at n c rest e d m = rw (e, d) refl
settle_line fs (Whole v) s at n c rest e d m = refl
