-- What is read of the lines of a block scalar, and of what ends them.
use Rattle.std.proofs.Common.{◌≡◌, ℕ, zero, suc, ◌+◌, ◌-◌, ◌<◌, ◌≤◌, Bool, true, false, not, ◌&&◌, ◌==◌, nat_le, List, [], ◌∷◌, ◌++◌, length, Option, Some, None, Result, Ok, ◌⊎◌, inl, inr, if◌then◌else◌, refl, sym, ap, subst, ◌∙◌, arith, append_assoc}
use Rattle.std.specs.List.{list_all}
use Rattle.std.specs.Char.{len_utf8}
use Rattle.std.proofs.lemmas.Bool.{and_parts, cases_Bool, not-false}
use Rattle.std.proofs.lemmas.Bool.Decides.{nat_tests}
use Rattle.edt_base.specs.YamlData.{Value, a_text}
use Rattle.yaml_profile.specs.declared.stop.Broken.{Broken}
use Rattle.yaml_profile.specs.Answers.{no_text}
use Rattle.yaml_profile.specs.Signs.{begins_with, begins_mark}
use Rattle.yaml_profile.specs.BlockText.{BlockText, begin_line, go_on, first_line, blank_line, block_text}
use Rattle.yaml_profile.specs.Fronts.{Frame, Whole, InComment, AtTextLine, AtBlankEnd, InTextLine, Front, front, is_flow, is_deeper, all_closed}
use Rattle.yaml_profile.specs.Layout.{in_line, line_content, begin_comment, at_text_line, is_indented, is_text_line, begin_text, ends_blank_line, end_blank, end_block}
use Rattle.yaml_profile.specs.Reading.{taken, ends, outside_flow}
use Rattle.yaml_profile.specs.Written.{spaces, Noted, spell_ending, is_inner, is_mark, Note, spell_note, spell_gaps, AreGaps, go_all}
use Rattle.yaml_profile.proofs.ReadParts.{Gapped}
use Rattle.yaml_profile.proofs.ReadGaps.{reads_end, past_indent, Commented, comment_read, gaps_read, closed_whole}
use Rattle.yaml_profile.proofs.ReadSteps.{past, past_append, not_true, is_that, with_returns, ReadsOn, OnFrom, step_by, Taken, was_taken, all_ended, no_feed_ahead, mark_ahead, is_content, Closed}
use Rattle.yaml_profile.proofs.WrittenScalars.{text_char, text_end}

-- the start of a line of a block scalar, or of what ends it
abbrev pub OnText : List Frame → BlockText → (s : ℕ) → List ℕ → Value → Type 0
OnText fs b s xs v = ReadsOn (front fs (AtTextLine s b)) s xs v

-- ---- within a line of text

-- the rest of a line of text
pub record TextRead (fs : List Frame) (b : BlockText) (at : ℕ) (xs : List ℕ) (v : Value) : Type 0 where
  pub text : List ℕ
  pub rest : List ℕ
  pub parts : xs ≡ text ++ 10 ∷ rest
  pub inner : list_all is_inner text ≡ true
  pub on : OnText fs (go_all b text) (past at (text ++ 10 ∷ [])) rest v
  pub ended : all_ended false rest ≡ true
  pub shorter : length rest < length xs

text_feed : (fs : List Frame) (b : BlockText) (at c : ℕ) (cs : List ℕ) (v : Value) → (c == 10) ≡ true → all_ended (not (c == 10)) cs ≡ true → ReadsOn (front fs (InTextLine b)) at (c ∷ cs) v → TextRead fs b at (c ∷ cs) v
text_feed fs b at c cs v f e h =
    let q : 10 ≡ c = is_that c 10 f in
    let g : ReadsOn (front fs (InTextLine b)) at (10 ∷ cs) v = subst (λ (k : ℕ). ReadsOn (front fs (InTextLine b)) at (k ∷ cs) v) (sym q) h in
    record {
      text = [];
      rest = cs;
      parts = ap (λ (k : ℕ). k ∷ cs) (sym q);
      inner = refl;
      on = step_by fs (InTextLine b) (Ok (front fs (AtTextLine (at + 1) b))) at 10 cs v (text_end fs b at (with_returns cs)) g;
      ended = rw f at e;
      shorter = omega arith;
    }

text_more : (fs : List Frame) (b : BlockText) (at c : ℕ) (cs : List ℕ) (v : Value) → (c == 10) ≡ false → TextRead fs (go_on b c) (at + len_utf8 c) cs v → TextRead fs b at (c ∷ cs) v
text_more fs b at c cs v f t = record {
  text = c ∷ t.text;
  rest = t.rest;
  parts = ap (λ (zs : List ℕ). c ∷ zs) t.parts;
  inner = rw (f, t.inner) refl;
  on = t.on;
  ended = t.ended;
  shorter = let s : length t.rest < length cs = t.shorter in omega arith;
}

pub text_read : (xs : List ℕ) (fs : List Frame) (b : BlockText) (at : ℕ) (v : Value) → all_ended true xs ≡ true → ReadsOn (front fs (InTextLine b)) at xs v → TextRead fs b at xs v
text_read [] fs b at v e h = absurd (let q : false ≡ true = e in cc)
text_read (c ∷ cs) fs b at v e h = elim (cases_Bool (c == 10)) [
  | inl f ↦ text_feed fs b at c cs v f e h
  | inr f ↦
      let a : all_ended true cs ≡ true = rw f at e in
      text_more fs b at c cs v f (text_read cs fs (go_on b c) (at + len_utf8 c) v a (step_by fs (InTextLine b) (Ok (front fs (InTextLine (go_on b c)))) at c cs v (text_char fs b at c (with_returns cs) f) h))
]

-- ---- the start of a line

-- after so many spaces of the line that begins at s: more of them, up to the text's indentation, and the character after
record RowFrom (fs : List Frame) (b : BlockText) (s j : ℕ) (xs : List ℕ) (v : Value) : Type 0 where
  pub count : ℕ
  pub column : ℕ
  pub sum : column ≡ j + count
  pub first : ℕ
  pub more : List ℕ
  pub parts : xs ≡ spaces count ++ first ∷ more
  pub below : (n : ℕ) → j ≤ n → n < column → is_indented b n ≡ false
  pub stops : ((first == 32) && not (is_indented b column)) ≡ false
  pub on : OnFrom (at_text_line fs b s (s + column) first (with_returns more)) (s + column + len_utf8 first) more v
  pub ended : all_ended (not (first == 10)) more ≡ true
  pub shorter : length more < length xs

line_char : (fs : List Frame) (b : BlockText) (s at c : ℕ) (rest : List ℕ) → taken fs (AtTextLine s b) at c rest ≡ at_text_line fs b s at c rest
unfolding taken
line_char fs b s at c rest = refl

line_space : (fs : List Frame) (b : BlockText) (s j : ℕ) (rest : List ℕ) → is_indented b j ≡ false → taken fs (AtTextLine s b) (s + j) 32 rest ≡ Ok (front fs (AtTextLine s b))
unfolding taken at_text_line
line_space fs b s j rest i = let e : (s + j) - s ≡ j = omega arith in rw (e, i) refl

from_space : (fs : List Frame) (b : BlockText) (s j : ℕ) (cs : List ℕ) (v : Value) → is_indented b j ≡ false → RowFrom fs b s (j + 1) cs v → RowFrom fs b s j (32 ∷ cs) v
from_space fs b s j cs v i l = record {
  count = suc l.count;
  column = l.column;
  sum = let e : l.column ≡ (j + 1) + l.count = l.sum in omega arith;
  first = l.first;
  more = l.more;
  parts = ap (λ (zs : List ℕ). 32 ∷ zs) l.parts;
  below = λ n g h. elim (cases_Bool (n == j)) [
    | inl q ↦ subst (λ (m : ℕ). is_indented b m ≡ false) (is_that n j q) i
    | inr q ↦ l.below n (grind (arith, nat_tests)) h
  ];
  stops = l.stops;
  on = l.on;
  ended = l.ended;
  shorter = let h : length l.more < length cs = l.shorter in omega arith;
}

from_first : (fs : List Frame) (b : BlockText) (s j c : ℕ) (cs : List ℕ) (v : Value) → ((c == 32) && not (is_indented b j)) ≡ false → all_ended (not (c == 10)) cs ≡ true
    → ReadsOn (front fs (AtTextLine s b)) (s + j) (c ∷ cs) v → RowFrom fs b s j (c ∷ cs) v
from_first fs b s j c cs v f e h = record {
  count = zero;
  column = j;
  sum = omega arith;
  first = c;
  more = cs;
  parts = refl;
  below = λ n g k. absurd (omega arith);
  stops = f;
  on = step_by fs (AtTextLine s b) (at_text_line fs b s (s + j) c (with_returns cs)) (s + j) c cs v (line_char fs b s (s + j) c (with_returns cs)) h;
  ended = e;
  shorter = omega arith;
}

row_from : (xs : List ℕ) (fs : List Frame) (b : BlockText) (s j : ℕ) (v : Value) → all_ended true xs ≡ true → ReadsOn (front fs (AtTextLine s b)) (s + j) xs v → RowFrom fs b s j xs v
row_from [] fs b s j v e h = absurd (let q : false ≡ true = e in cc)
row_from (c ∷ cs) fs b s j v e h = elim (cases_Bool ((c == 32) && not (is_indented b j))) [
  | inl f ↦
      let p : ((c == 32) ≡ true) × (not (is_indented b j) ≡ true) = and_parts _ _ f in
      let q : 32 ≡ c = is_that c 32 p.0 in
      let i : is_indented b j ≡ false = not_true _ p.1 in
      let g : ReadsOn (front fs (AtTextLine s b)) (s + j) (32 ∷ cs) v = subst (λ (k : ℕ). ReadsOn (front fs (AtTextLine s b)) (s + j) (k ∷ cs) v) (sym q) h in
      let a : all_ended true cs ≡ true = subst (λ (k : ℕ). all_ended (not (k == 10)) cs ≡ true) (sym q) e in
      let n : ReadsOn (front fs (AtTextLine s b)) (s + j + 1) cs v = step_by fs (AtTextLine s b) (Ok (front fs (AtTextLine s b))) (s + j) 32 cs v (line_space fs b s j (with_returns cs) i) g in
      let place : s + j + 1 ≡ s + (j + 1) = omega arith in
      let m : ReadsOn (front fs (AtTextLine s b)) (s + (j + 1)) cs v = subst (λ (k : ℕ). ReadsOn (front fs (AtTextLine s b)) k cs v) place n in
      subst (λ (k : ℕ). RowFrom fs b s j (k ∷ cs) v) q (from_space fs b s j cs v i (row_from cs fs b s (j + 1) v a m))
  | inr f ↦ from_first fs b s j c cs v f e h
]

-- a line begins: its spaces, up to the text's indentation, and the character after them
pub record RowRead (fs : List Frame) (b : BlockText) (s : ℕ) (xs : List ℕ) (v : Value) : Type 0 where
  pub column : ℕ
  pub first : ℕ
  pub more : List ℕ
  pub parts : xs ≡ spaces column ++ first ∷ more
  pub below : (n : ℕ) → n < column → is_indented b n ≡ false
  pub stops : ((first == 32) && not (is_indented b column)) ≡ false
  pub on : OnFrom (at_text_line fs b s (s + column) first (with_returns more)) (s + column + len_utf8 first) more v
  pub ended : all_ended (not (first == 10)) more ≡ true
  pub shorter : length more < length xs

pub row_read : (fs : List Frame) (b : BlockText) (s c : ℕ) (cs : List ℕ) (v : Value) → all_ended false (c ∷ cs) ≡ true → OnText fs b s (c ∷ cs) v → RowRead fs b s (c ∷ cs) v
row_read fs b s c cs v e h =
    let place : s ≡ s + 0 = omega arith in
    let l : RowFrom fs b s 0 (c ∷ cs) v = row_from (c ∷ cs) fs b s 0 v e (subst (λ (k : ℕ). ReadsOn (front fs (AtTextLine s b)) k (c ∷ cs) v) place h) in
    let same : l.count ≡ l.column = let q : l.column ≡ 0 + l.count = l.sum in omega arith in
    record {
      column = l.column;
      first = l.first;
      more = l.more;
      parts = subst (λ (k : ℕ). c ∷ cs ≡ spaces k ++ l.first ∷ l.more) same l.parts;
      below = λ n g. l.below n (omega arith) g;
      stops = l.stops;
      on = l.on;
      ended = l.ended;
      shorter = l.shorter;
    }

-- ---- which kind of line begins

-- what is taken after so many spaces of a line
abbrev line_taken : List Frame → BlockText → (s at n c : ℕ) → List ℕ → Result Front Broken
line_taken fs b s at n c rest =
    if c == 10 then end_blank fs n b at
    else if ends_blank_line c rest then Ok (front fs (AtBlankEnd n b))
    else if (c == 32) && not (is_indented b n) then Ok (front fs (AtTextLine s b))
    else if is_text_line fs b n && not ((n == 0) && begins_mark c rest) then begin_text fs b n c
    else end_block fs b s at c rest

column_taken : (fs : List Frame) (b : BlockText) (s n c : ℕ) (rest : List ℕ) → at_text_line fs b s (s + n) c rest ≡ line_taken fs b s (s + n) n c rest
unfolding at_text_line
column_taken fs b s n c rest = let e : (s + n) - s ≡ n = omega arith in ap (λ (m : ℕ). line_taken fs b s (s + n) m c rest) e

pub no_mark : (cs : List ℕ) (c : ℕ) → (c == 45) ≡ false → (c == 46) ≡ false → is_mark true c cs ≡ false
no_mark [] c f g = refl
no_mark (d ∷ []) c f g = refl
no_mark (d ∷ e ∷ more) c f g = rw (f, g) refl

-- a line of spaces alone
abbrev pub AsBlank : List Frame → BlockText → (s n c : ℕ) → List ℕ → Value → Type 0
AsBlank fs b s n c more v = ((c == 10) ≡ true) × OnText fs (blank_line b n) (s + n + 1) more v

-- the text with the first character of a line
abbrev pub begun_text : BlockText → (n c : ℕ) → BlockText
begun_text b n c = elim b.indent [ None ↦ first_line b n c | Some i ↦ begin_line b c ]

-- a line of text
pub record AsText (fs : List Frame) (b : BlockText) (s n c : ℕ) (more : List ℕ) (v : Value) : Type 0 where
  pub feed : (c == 10) ≡ false
  pub is : is_text_line fs b n ≡ true
  pub mark : ((n == 0) && is_mark true c more) ≡ false
  pub on : ReadsOn (front fs (InTextLine (begun_text b n c))) (s + n + len_utf8 c) more v

-- a line that ends the text
pub record AsOver (fs : List Frame) (b : BlockText) (s n c : ℕ) (more : List ℕ) (v : Value) : Type 0 where
  pub feed : (c == 10) ≡ false
  pub space : (c == 32) ≡ false
  pub note : (c == 35) ≡ true → is_text_line fs b n ≡ false
  pub on : OnFrom (in_line fs (Whole (a_text (block_text b))) s (s + n) c (with_returns more)) (s + n + len_utf8 c) more v

abbrev pub RowKind : List Frame → BlockText → (s n c : ℕ) → List ℕ → Value → Type 0
RowKind fs b s n c more v = AsBlank fs b s n c more v ⊎ (AsText fs b s n c more v ⊎ AsOver fs b s n c more v)

text_taken : (fs : List Frame) (b : BlockText) (s at n c : ℕ) (rest : List ℕ) → (c == 10) ≡ false → ((c == 13) && begins_with 10 rest) ≡ false → ((c == 32) && not (is_indented b n)) ≡ false
    → (is_text_line fs b n && not ((n == 0) && begins_mark c rest)) ≡ true → line_taken fs b s at n c rest ≡ Ok (front fs (InTextLine (begun_text b n c)))
text_taken fs b s at n c rest f r p t = rw (f, r, p, t) refl

over_taken : (fs : List Frame) (b : BlockText) (s at n c : ℕ) (rest : List ℕ) → (c == 10) ≡ false → ((c == 13) && begins_with 10 rest) ≡ false → ((c == 32) && not (is_indented b n)) ≡ false
    → (is_text_line fs b n && not ((n == 0) && begins_mark c rest)) ≡ false → line_taken fs b s at n c rest ≡ in_line fs (Whole (a_text (block_text b))) s at c rest
over_taken fs b s at n c rest f r p t = rw (f, r, p, t) refl

-- a space begins no mark
no_space_mark : (cs : List ℕ) → is_mark true 32 cs ≡ false
no_space_mark cs = no_mark cs 32 refl refl

unmarked : (a b : Bool) → b ≡ false → (a && b) ≡ false
unmarked true b e = e
unmarked false b e = refl

-- a test and no other fails: the first one fails, or the other holds
left_fails : (a b : Bool) → (a && not b) ≡ false → b ≡ false → a ≡ false
left_fails true true e f = absurd (let q : true ≡ false = f in cc)
left_fails true false e f = e
left_fails false b e f = refl

indented_text : (fs : List Frame) (b : BlockText) (n : ℕ) → is_indented b n ≡ true → is_text_line fs b n ≡ true
indented_text fs b n e = by_indent b.indent e
  where
    by_indent : (o : Option ℕ) → elim o [ None ↦ false | Some i ↦ nat_le i n ] ≡ true → elim o [ None ↦ is_deeper n fs | Some i ↦ nat_le i n ] ≡ true
    by_indent None e = absurd (let q : false ≡ true = e in cc)
    by_indent (Some i) e = e

over_space : (fs : List Frame) (b : BlockText) (n c : ℕ) (more : List ℕ) → ((c == 32) && not (is_indented b n)) ≡ false → (is_text_line fs b n && not ((n == 0) && is_mark true c more)) ≡ false → (c == 32) ≡ false
over_space fs b n c more p t = elim (cases_Bool (c == 32)) [
  | inr f ↦ f
  | inl f ↦
      let q : 32 ≡ c = is_that c 32 f in
      let i : not (is_indented b n) ≡ false = rw f at p in
      let a : is_text_line fs b n ≡ true = indented_text fs b n (not-false _ i) in
      let m : is_mark true c more ≡ false = subst (λ (k : ℕ). is_mark true k more ≡ false) q (no_space_mark more) in
      let z : is_text_line fs b n ≡ false = left_fails _ _ t (unmarked (n == 0) _ m) in
      absurd (let x : true ≡ false = sym a ∙ z in cc)
]

over_note : (fs : List Frame) (b : BlockText) (n c : ℕ) (more : List ℕ) → (is_text_line fs b n && not ((n == 0) && is_mark true c more)) ≡ false → (c == 35) ≡ true → is_text_line fs b n ≡ false
over_note fs b n c more t f =
    let m : is_mark true c more ≡ false = subst (λ (k : ℕ). is_mark true k more ≡ false) (is_that c 35 f) (no_mark more 35 refl refl) in
    left_fails _ _ t (unmarked (n == 0) _ m)

blank_kind : (fs : List Frame) (b : BlockText) (s n c : ℕ) (more : List ℕ) (v : Value) → (c == 10) ≡ true → OnFrom (line_taken fs b s (s + n) n c (with_returns more)) (s + n + len_utf8 c) more v → OnText fs (blank_line b n) (s + n + 1) more v
blank_kind fs b s n c more v f h =
    let g : OnFrom (line_taken fs b s (s + n) n 10 (with_returns more)) (s + n + len_utf8 10) more v
    = subst (λ (k : ℕ). OnFrom (line_taken fs b s (s + n) n k (with_returns more)) (s + n + len_utf8 k) more v) (sym (is_that c 10 f)) h in g

-- what is taken where another definition says it
on_by : (r q : Result Front Broken) (at : ℕ) (xs : List ℕ) (v : Value) → r ≡ q → OnFrom r at xs v → OnFrom q at xs v
on_by r q at xs v e h = subst (λ (x : Result Front Broken). OnFrom x at xs v) e h

mark_test : (fs : List Frame) (b : BlockText) (n c : ℕ) (more : List ℕ) (t : Bool) → (is_text_line fs b n && not ((n == 0) && is_mark true c more)) ≡ t → (is_text_line fs b n && not ((n == 0) && begins_mark c (with_returns more))) ≡ t
mark_test fs b n c more t e = rw (mark_ahead more c) e

no_return : (c : ℕ) (more : List ℕ) → ((c == 13) && begins_with 10 (with_returns more)) ≡ false
no_return c more = unmarked (c == 13) _ (no_feed_ahead more)

pub row_kind : (fs : List Frame) (b : BlockText) (s n c : ℕ) (more : List ℕ) (v : Value) → ((c == 32) && not (is_indented b n)) ≡ false
    → OnFrom (at_text_line fs b s (s + n) c (with_returns more)) (s + n + len_utf8 c) more v → RowKind fs b s n c more v
row_kind fs b s n c more v p h =
    let zs : List ℕ = with_returns more in
    let at : ℕ = s + n in
    let g : OnFrom (line_taken fs b s at n c zs) (at + len_utf8 c) more v = on_by (at_text_line fs b s at c zs) (line_taken fs b s at n c zs) (at + len_utf8 c) more v (column_taken fs b s n c zs) h in
    elim (cases_Bool (c == 10)) [
      | inl f ↦ inl (f, blank_kind fs b s n c more v f g)
      | inr f ↦ elim (cases_Bool (is_text_line fs b n && not ((n == 0) && is_mark true c more))) [
        | inl t ↦
            let a : (is_text_line fs b n ≡ true) × (not ((n == 0) && is_mark true c more) ≡ true) = and_parts _ _ t in
            let e : line_taken fs b s at n c zs ≡ Ok (front fs (InTextLine (begun_text b n c))) = text_taken fs b s at n c zs f (no_return c more) p (mark_test fs b n c more true t) in
            let o : OnFrom (Ok (front fs (InTextLine (begun_text b n c)))) (at + len_utf8 c) more v = on_by (line_taken fs b s at n c zs) _ (at + len_utf8 c) more v e g in
            inr (inl (record { feed = f; is = a.0; mark = not_true _ a.1; on = o }))
        | inr t ↦
            let e : line_taken fs b s at n c zs ≡ in_line fs (Whole (a_text (block_text b))) s at c zs = over_taken fs b s at n c zs f (no_return c more) p (mark_test fs b n c more false t) in
            inr (inr (record {
              feed = f;
              space = over_space fs b n c more p t;
              note = over_note fs b n c more t;
              on = on_by (line_taken fs b s at n c zs) _ (at + len_utf8 c) more v e g;
            }))
      ]
    ]

-- ---- what ends the text

-- a comment line at a lower column, with lines without content after it
abbrev pub EndsText : (limit : ℕ) → Option Note → Type 0
EndsText limit None = Unit {0}
EndsText limit (Some n) = (n.indent < limit) × (list_all is_inner n.text ≡ true) × AreGaps n.gaps

-- the text is over where this line begins
pub record TextOver (fs : List Frame) (limit : ℕ) (u : Value) (s : ℕ) (xs : List ℕ) (v : Value) : Type 0 where
  pub note : Option Note
  pub rest : List ℕ
  pub parts : xs ≡ spell_note note ++ rest
  pub is : EndsText limit note
  pub closed : Closed fs u (past s (spell_note note)) rest v
  pub ended : all_ended false rest ≡ true

ends_here : (fs : List Frame) (b : BlockText) (s : ℕ) → ends fs (AtTextLine s b) s ≡ outside_flow fs (a_text (block_text b)) s
unfolding ends
ends_here fs b s = let z : ((s - s) == 0) ≡ true = grind (arith, nat_tests) in rw z refl

whole_file : (fs : List Frame) (u v : Value) (at : ℕ) → is_flow fs ≡ false → outside_flow fs u at ≡ Ok v → all_closed fs u ≡ v
whole_file fs u v at f h = let g : ◌≡◌ {A = Result Value Broken} (Ok (all_closed fs u)) (Ok v) = rw f at h in cc

pub over_end : (fs : List Frame) (b : BlockText) (limit s : ℕ) (v : Value) → is_flow fs ≡ false → OnText fs b s [] v → TextOver fs limit (a_text (block_text b)) s [] v
over_end fs b limit s v f h =
    let u : Value = a_text (block_text b) in
    let e : outside_flow fs u s ≡ Ok v = sym (ends_here fs b s) ∙ reads_end (front fs (AtTextLine s b)) s v h in
    record { note = None; rest = []; parts = refl; is = tt; closed = inl (refl, whole_file fs u v s f e); ended = refl }

-- after the spaces of a line that isn't blank
abbrev beyond_taken : List Frame → Value → (s at c : ℕ) → List ℕ → Result Front Broken
beyond_taken fs u s at c rest = if c == 9 then no_text at else if c == 35 then begin_comment fs (Whole u) else line_content fs (Whole u) s at c rest

line_beyond : (fs : List Frame) (u : Value) (s at c : ℕ) (rest : List ℕ) → (c == 10) ≡ false → (c == 32) ≡ false → in_line fs (Whole u) s at c rest ≡ beyond_taken fs u s at c rest
unfolding in_line
line_beyond fs u s at c rest f p = rw (f, p) refl

-- the characters and the place of a line
pub line_parts : (hs ts gs rest : List ℕ) (c : ℕ) → hs ++ c ∷ (ts ++ 10 ∷ (gs ++ rest)) ≡ ((hs ++ c ∷ (ts ++ 10 ∷ [])) ++ gs) ++ rest
line_parts hs ts gs rest c = simp append_assoc refl

pub line_place : (n s c : ℕ) (ts : List ℕ) → past s (spaces n ++ c ∷ ts) ≡ past (s + n + len_utf8 c) ts
line_place n s c ts = past_indent n s (c ∷ ts)

over_noted : (fs : List Frame) (u : Value) (limit s n : ℕ) (more : List ℕ) (v : Value) → is_flow fs ≡ false → n < limit → all_ended true more ≡ true
    → ReadsOn (front fs (InComment (Whole u))) (s + n + 1) more v → TextOver fs limit u s (spaces n ++ 35 ∷ more) v
over_noted fs u limit s n more v f l e h =
    let c : Commented fs (Whole u) (s + n + 1) more v = comment_read fs (Whole u) (s + n + 1) more v h e in
    let p : ℕ = past (s + n + 1) (c.text ++ 10 ∷ []) in
    let g : Gapped fs (Whole u) p c.rest v = gaps_read fs (Whole u) p c.rest v refl c.ended c.on in
    let q : ℕ = past p (spell_gaps g.gaps) in
    let o : Closed fs u q g.rest v = closed_whole fs u q g.rest v f g.next in
    let place : past s (spell_ending (Noted n c.text) ++ spell_gaps g.gaps) ≡ q
    = past_append (spell_ending (Noted n c.text)) (spell_gaps g.gaps) s ∙ ap (λ (k : ℕ). past k (spell_gaps g.gaps)) (line_place n s 35 (c.text ++ 10 ∷ [])) in
    record {
      note = Some (record { indent = n; text = c.text; gaps = g.gaps });
      rest = g.rest;
      parts = ap (λ (zs : List ℕ). spaces n ++ 35 ∷ zs) (c.parts ∙ ap (λ (zs : List ℕ). c.text ++ 10 ∷ zs) g.parts) ∙ line_parts (spaces n) c.text (spell_gaps g.gaps) g.rest 35;
      is = (l, c.inner, g.are);
      closed = subst (λ (k : ℕ). Closed fs u k g.rest v) (sym place) o;
      ended = g.ended;
    }

line_ended : (n c : ℕ) (more : List ℕ) (within : Bool) → (c == 10) ≡ false → all_ended true more ≡ true → all_ended within (spaces n ++ c ∷ more) ≡ true
line_ended zero c more within f e = rw f e
line_ended (suc n) c more within f e = line_ended n c more true f e

over_content : (fs : List Frame) (u : Value) (limit s n c : ℕ) (more : List ℕ) (v : Value) → is_flow fs ≡ false → (c == 10) ≡ false → is_content c ≡ true → all_ended true more ≡ true
    → OnFrom (line_content fs (Whole u) s (s + n) c (with_returns more)) (s + n + len_utf8 c) more v → TextOver fs limit u s (spaces n ++ c ∷ more) v
over_content fs u limit s n c more v f d i e h =
    let t : Taken (line_content fs (Whole u) s (s + n) c (with_returns more)) (s + n + len_utf8 c) more v = was_taken _ (s + n + len_utf8 c) more v h in
    record {
      note = None;
      rest = spaces n ++ c ∷ more;
      parts = refl;
      is = tt;
      closed = closed_whole fs u s (spaces n ++ c ∷ more) v f (inr (record { indent = n; first = c; more = more; parts = refl; content = i; ended = e; front = t.front; taken = t.is; on = t.on }));
      ended = line_ended n c more false d e;
    }

pub over_line : (fs : List Frame) (u : Value) (limit s n c : ℕ) (more : List ℕ) (v : Value) → is_flow fs ≡ false → (c == 10) ≡ false → (c == 32) ≡ false → ((c == 35) ≡ true → n < limit) → all_ended true more ≡ true
    → OnFrom (in_line fs (Whole u) s (s + n) c (with_returns more)) (s + n + len_utf8 c) more v → TextOver fs limit u s (spaces n ++ c ∷ more) v
over_line fs u limit s n c more v f d p l e h =
    let zs : List ℕ = with_returns more in
    let at : ℕ = s + n in
    let g : OnFrom (beyond_taken fs u s at c zs) (at + len_utf8 c) more v = on_by (in_line fs (Whole u) s at c zs) (beyond_taken fs u s at c zs) (at + len_utf8 c) more v (line_beyond fs u s at c zs d p) h in
    elim (cases_Bool (c == 9)) [
      | inl t ↦ let x : OnFrom (no_text at) (at + len_utf8 c) more v = rw t at g in absurd x
      | inr t ↦ elim (cases_Bool (c == 35)) [
        | inl k ↦
            let q : 35 ≡ c = is_that c 35 k in
            let x : OnFrom (beyond_taken fs u s at 35 zs) (at + len_utf8 35) more v = subst (λ (y : ℕ). OnFrom (beyond_taken fs u s at y zs) (at + len_utf8 y) more v) (sym q) g in
            subst (λ (y : ℕ). TextOver fs limit u s (spaces n ++ y ∷ more) v) q (over_noted fs u limit s n more v f (l k) e x)
        | inr k ↦
            let x : OnFrom (line_content fs (Whole u) s at c zs) (at + len_utf8 c) more v = rw (t, k) at g in
            over_content fs u limit s n c more v f d (rw (d, p, t, k) refl) e x
      ]
    ]
