-- Plain texts that were read, with their further lines and what stands after them.
use Rattle.std.proofs.Common.{◌≡◌, ℕ, zero, suc, ◌+◌, ◌<◌, ◌≤◌, Bool, true, false, not, ◌&&◌, ◌||◌, ◌==◌, List, [], ◌∷◌, ◌++◌, length, Option, Some, None, Result, Ok, ◌⊎◌, inl, inr, refl, sym, ap, subst, ◌∙◌, arith, append-nil, append_assoc, length-append}
use Rattle.std.specs.Prelude.{codes}
use Rattle.std.specs.Str.{bytes_eq}
use Rattle.std.specs.Char.{len_utf8}
use Rattle.std.proofs.lemmas.Bool.{and_parts, cases_Bool}
use Rattle.edt_base.specs.YamlData.{Value}
use Rattle.yaml_profile.specs.declared.stop.Broken.{Broken}
use Rattle.yaml_profile.specs.declared.front.Role.{Role}
use Rattle.yaml_profile.specs.declared.front.Role.TheVariants.{Value as ValueOnly, Either, Key as KeyOnly}
use Rattle.yaml_profile.specs.Answers.{no_text}
use Rattle.yaml_profile.specs.Signs.{is_flow_sign, is_word_sign, begins_nothing, behind, place_of}
use Rattle.yaml_profile.specs.Scalars.{scalar_of}
use Rattle.yaml_profile.specs.Folding.{Folding, nothing_yet, end_line}
use Rattle.yaml_profile.specs.Fronts.{Frame, InFlow, Going, Whole, AtLine, InPlain, InComment, Front, front, is_flow}
use Rattle.yaml_profile.specs.Pieces.{in_plain, plain_key, key_of, begin_plain, is_key_only, is_value_sign, after_item}
use Rattle.yaml_profile.specs.Written.{spaces, Ending, Bare, Noted, spell_ending, IsApart, spell_gaps, word_ends, stays_plain, begins_plain, is_mark, may_begin, with_char, with_chars, Further, spell_blanks, spell_furthers, line_ends, IsFurther, AreFurther, Scalar, Plain, spell_scalar, IsScalarText, scalar_value, Pad, Inline, Over, spell_pad, IsPad, ends_before, Text, PlainKey}
use Rattle.yaml_profile.proofs.ReadSteps.{past, past_append, is_that, with_returns, ReadsOn, OnFrom, all_ended, Taken, was_taken, word_ahead}
use Rattle.yaml_profile.proofs.ReadParts.{MayBegin, IsLeast, LineEnded, ItemEnded, FlowText, LeafRead, Keyed, ValueRead}
use Rattle.yaml_profile.proofs.ReadGaps.{Commented, comment_read, leaf_of, item_over}
use Rattle.yaml_profile.proofs.ReadFurther.{word_within, mark_within, stays_more, Stopped, line_read, end_text, Goes, next_line, one_of, no_key, LastSpace, some_space, stays_before, space_text}
use Rattle.yaml_profile.proofs.WrittenParagraphs.{chars_append, end_waits}
use Rattle.yaml_profile.proofs.WrittenTexts.{spaced_after}

-- ---- what stands after a text

-- an indicator of a flow list
pub record Signed (fs : List Frame) (u : Value) (at : ℕ) (xs : List ℕ) (v : Value) : Type 0 where
  pub sign : ℕ
  pub more : List ℕ
  pub parts : xs ≡ sign ∷ more
  pub flow : is_flow fs ≡ true
  pub on : OnFrom (after_item fs u at sign) (at + len_utf8 sign) more v
  pub ended : all_ended (not (sign == 10)) more ≡ true

-- the end of a line, or in a flow list an indicator of it
abbrev pub Behind : List Frame → Value → (at : ℕ) → List ℕ → Value → Type 0
Behind fs u at xs v = ((e : LineEnded fs (Whole u) at xs v) × IsApart e.ending) ⊎ Signed fs u at xs v

-- a text t goes on with a line's characters and with further lines
pub record Lines (fs : List Frame) (least : ℕ) (t : Folding) (at : ℕ) (xs : List ℕ) (v : Value) : Type 0 where
  pub text : List ℕ
  pub lines : List Further
  pub rest : List ℕ
  pub parts : xs ≡ (text ++ spell_furthers lines) ++ rest
  pub stays : stays_plain (is_flow fs) false (line_ends (word_ends true rest) lines) text ≡ true
  pub are : AreFurther (is_flow fs) (word_ends true rest) least lines
  pub behind : Behind fs (scalar_of (with_chars t (text ++ spell_furthers lines)).text) (past at (text ++ spell_furthers lines)) rest v

-- a text t ends with a line's characters before a key's colon
pub record KeyEnd (fs : List Frame) (role : Role) (begun : ℕ) (t : Folding) (at : ℕ) (xs : List ℕ) (v : Value) : Type 0 where
  pub text : List ℕ
  pub rest : List ℕ
  pub parts : xs ≡ text ++ 58 ∷ rest
  pub stays : stays_plain (is_flow fs) false false text ≡ true
  pub word : word_ends true rest ≡ true
  pub fails : ℕ
  pub on : OnFrom (plain_key fs role (with_chars t text).text begun fails) (past at text + 1) rest v
  pub ended : all_ended true rest ≡ true

abbrev pub TextRead : List Frame → (least : ℕ) → Role → (begun : ℕ) → Folding → (at : ℕ) → List ℕ → Value → Type 0
TextRead fs least role begun t at xs v = KeyEnd fs role begun t at xs v ⊎ ((is_flow fs ≡ false → is_key_only role ≡ false) × Lines fs least t at xs v)

-- ---- a text of one line more

one_line : (fs : List Frame) (least : ℕ) (t : Folding) (at : ℕ) (xs text rest : List ℕ) (v : Value) → xs ≡ text ++ rest → stays_plain (is_flow fs) false (word_ends true rest) text ≡ true
    → Behind fs (scalar_of (with_chars t text).text) (past at text) rest v → Lines fs least t at xs v
one_line fs least t at xs text rest v parts stays behind =
    let e : text ++ [] ≡ text = append-nil text in
    record {
      text = text;
      lines = [];
      rest = rest;
      parts = parts ∙ ap (λ (zs : List ℕ). zs ++ rest) (sym e);
      stays = stays;
      are = tt;
      behind = subst (λ (zs : List ℕ). Behind fs (scalar_of (with_chars t zs).text) (past at zs) rest v) (sym e) behind;
    }

-- ---- the colon of a key

colon_on : (fs : List Frame) (t : Folding) (role : Role) (begun : ℕ) (sp : Bool) (at c p : ℕ) (cs : List ℕ) (v : Value) → ((c == 58) && word_ends true cs) ≡ true → OnFrom (in_plain fs t role begun sp at c (with_returns cs)) p cs v
    → OnFrom (plain_key fs role t.text begun (behind at (with_returns cs))) p cs v
unfolding in_plain
colon_on fs t role begun sp at c p cs v a h = rw (word_ahead cs, a) at h

key_ends : (fs : List Frame) (t : Folding) (role : Role) (begun at : ℕ) (xs : List ℕ) (v : Value) → (r : Stopped fs role begun false t at xs v) → ((r.sign == 58) && word_ends true r.more) ≡ true → KeyEnd fs role begun t at xs v
key_ends fs t role begun at xs v r a =
    let b : ((r.sign == 58) ≡ true) × (word_ends true r.more ≡ true) = and_parts _ _ a in
    let e : r.sign ≡ 58 = sym (is_that r.sign 58 b.0) in
    let p : ℕ = past at r.text in
    let u : Folding = with_chars t r.text in
    let k : OnFrom (plain_key fs role u.text begun (behind p (with_returns r.more))) (p + len_utf8 r.sign) r.more v
    = colon_on fs u role begun (spaced_after false r.text) p r.sign (p + len_utf8 r.sign) r.more v a r.on in
    record {
      text = r.text;
      rest = r.more;
      parts = subst (λ (d : ℕ). xs ≡ r.text ++ d ∷ r.more) e r.parts;
      stays = subst (λ (d : ℕ). stays_plain (is_flow fs) false (word_ends true (d ∷ r.more)) r.text ≡ true) e r.stays;
      word = b.1;
      fails = behind p (with_returns r.more);
      on = subst (λ (d : ℕ). OnFrom (plain_key fs role u.text begun (behind p (with_returns r.more))) (p + len_utf8 d) r.more v) e k;
      ended = subst (λ (d : ℕ). all_ended (not (d == 10)) r.more ≡ true) e r.ended;
    }

-- ---- a comment

hash_on : (fs : List Frame) (t : Folding) (role : Role) (begun : ℕ) (sp : Bool) (at c p : ℕ) (cs : List ℕ) (v : Value) → ((c == 58) && word_ends true cs) ≡ false → ((c == 35) && sp) ≡ true
    → OnFrom (in_plain fs t role begun sp at c (with_returns cs)) p cs v → (is_key_only role ≡ false) × ReadsOn (front fs (InComment (Whole (scalar_of t.text)))) p cs v
unfolding in_plain
hash_on fs t role begun sp at c p cs v a b h = elim (cases_Bool (is_key_only role)) [
  | inl k ↦ absurd (rw (word_ahead cs, a, b, k) at h)
  | inr k ↦ (k, rw (word_ahead cs, a, b, k) at h)
]

-- a comment with one space before it ends the line
comment_line : (fs : List Frame) (u : Value) (at : ℕ) (cs : List ℕ) (v : Value) → Commented fs (Whole u) (at + 1 + 1) cs v → Behind fs u at (32 ∷ 35 ∷ cs) v
comment_line fs u at cs v r =
    let line : LineEnded fs (Whole u) at (32 ∷ 35 ∷ cs) v = record {
      ending = Noted 1 r.text;
      rest = r.rest;
      parts = ap (λ (zs : List ℕ). 32 ∷ 35 ∷ zs) (r.parts ∙ sym (append_assoc r.text (10 ∷ []) r.rest));
      is = r.inner;
      on = r.on;
      ended = r.ended;
    } in
    let apart : 0 < 1 = omega arith in
    inl (line, apart)

comment_ends : (fs : List Frame) (least : ℕ) (t : Folding) (role : Role) (begun at : ℕ) (xs : List ℕ) (v : Value) → (r : Stopped fs role begun false t at xs v) → ((r.sign == 58) && word_ends true r.more) ≡ false
    → ((r.sign == 35) && spaced_after false r.text) ≡ true → (is_key_only role ≡ false) × Lines fs least t at xs v
comment_ends fs least t role begun at xs v r a b =
    let q : ((r.sign == 35) ≡ true) × (spaced_after false r.text ≡ true) = and_parts _ _ b in
    let e : r.sign ≡ 35 = sym (is_that r.sign 35 q.0) in
    let l : LastSpace r.text = some_space r.text q.1 in
    let p : ℕ = past at l.before in
    let u : Value = scalar_of (with_chars t l.before).text in
    let k = hash_on fs (with_chars t r.text) role begun (spaced_after false r.text) (past at r.text) r.sign (past at r.text + len_utf8 r.sign) r.more v a b r.on in
    let on : ReadsOn (front fs (InComment (Whole u))) (past at r.text + 1) r.more v = subst (λ (d : ℕ). ReadsOn (front fs (InComment (Whole u))) (past at r.text + len_utf8 d) r.more v) e
    (subst (λ (x : List ℕ). ReadsOn (front fs (InComment (Whole (scalar_of x)))) (past at r.text + len_utf8 r.sign) r.more v) (ap (λ (zs : List ℕ). (with_chars t zs).text) l.parts ∙ space_text l.before t) k.1) in
    let place : past at r.text ≡ p + 1 = ap (λ (zs : List ℕ). past at zs) l.parts ∙ past_append l.before (32 ∷ []) at in
    let ended : all_ended true r.more ≡ true = subst (λ (d : ℕ). all_ended (not (d == 10)) r.more ≡ true) e r.ended in
    let line : Behind fs u p (32 ∷ 35 ∷ r.more) v
    = comment_line fs u p r.more v (comment_read fs (Whole u) (p + 1 + 1) r.more v (subst (λ (n : ℕ). ReadsOn (front fs (InComment (Whole u))) (n + 1) r.more v) place on) ended) in
    let parts : xs ≡ l.before ++ 32 ∷ 35 ∷ r.more
    = subst (λ (d : ℕ). xs ≡ r.text ++ d ∷ r.more) e r.parts ∙ (ap (λ (zs : List ℕ). zs ++ 35 ∷ r.more) l.parts ∙ append_assoc l.before (32 ∷ []) (35 ∷ r.more)) in
    let stays : stays_plain (is_flow fs) false true l.before ≡ true
    = stays_before (is_flow fs) false (word_ends true (r.sign ∷ r.more)) l.before (32 ∷ []) (subst (λ (zs : List ℕ). stays_plain (is_flow fs) false (word_ends true (r.sign ∷ r.more)) zs ≡ true) l.parts r.stays) in
    (k.0, one_line fs least t at xs l.before (32 ∷ 35 ∷ r.more) v parts stays line)

-- ---- an indicator of a flow list

sign_on : (fs : List Frame) (t : Folding) (role : Role) (begun : ℕ) (sp : Bool) (at c p : ℕ) (cs : List ℕ) (v : Value) → ((c == 58) && word_ends true cs) ≡ false → ((c == 35) && sp) ≡ false → (c == 10) ≡ false → (is_flow_sign c && is_flow fs) ≡ true
    → OnFrom (in_plain fs t role begun sp at c (with_returns cs)) p cs v → OnFrom (after_item fs (scalar_of t.text) at c) p cs v
unfolding in_plain
sign_on fs t role begun sp at c p cs v a b d e h = rw (word_ahead cs, a, b, d, e) at h

-- ---- a further line

feed_on : (fs : List Frame) (t : Folding) (role : Role) (begun : ℕ) (sp : Bool) (at c p : ℕ) (cs : List ℕ) (v : Value) → ((c == 58) && word_ends true cs) ≡ false → ((c == 35) && sp) ≡ false → (c == 10) ≡ true
    → OnFrom (in_plain fs t role begun sp at c (with_returns cs)) p cs v → (is_key_only role ≡ false) × ReadsOn (front fs (AtLine (at + 1) (Going (end_line t)))) p cs v
unfolding in_plain
feed_on fs t role begun sp at c p cs v a b d h = elim (cases_Bool (is_key_only role)) [
  | inl k ↦ absurd (rw (word_ahead cs, a, b, d, k) at h)
  | inr k ↦ (k, rw (word_ahead cs, a, b, d, k) at h)
]

-- the text of further lines ends where they do
lines_word : (lines : List Further) (rest : List ℕ) → word_ends true (spell_furthers lines ++ rest) ≡ line_ends (word_ends true rest) lines
lines_word [] rest = refl
lines_word (f ∷ fs) rest = refl

both_false : (a b c : Bool) → (b ≡ false → c ≡ false) → (a && b) ≡ false → (a && c) ≡ false
both_false true b c f h = f h
both_false false b c f h = refl

pub may_begin_of : (place : Option ℕ) (flow : Bool) (c : ℕ) (cs text rest : List ℕ) → cs ≡ text ++ rest → MayBegin place flow c cs → may_begin place flow (word_ends true rest) c text ≡ true
may_begin_of None flow c cs text rest e m = refl
may_begin_of (Some column) flow c cs text rest e m =
    let k : (not flow && (column == 0) && is_mark (word_ends true rest) c text) ≡ false
    = both_false (not flow && (column == 0)) (is_mark true c cs) (is_mark (word_ends true rest) c text) (λ h. mark_within c text rest (ap (λ (zs : List ℕ). is_mark true c zs) (sym e) ∙ h)) m.1 in
    rw (m.0, k) refl

-- where a line's characters stand among the others
further_is : (before blanks indent text more : List ℕ) (c : ℕ) → before ≡ blanks ++ indent → before ++ c ∷ (text ++ more) ≡ (blanks ++ (indent ++ c ∷ text)) ++ more
further_is before blanks indent text more c e =
    ap (λ (zs : List ℕ). zs ++ c ∷ (text ++ more)) e ∙ (append_assoc blanks indent (c ∷ (text ++ more))
    ∙ (ap (λ (zs : List ℕ). blanks ++ zs) (sym (append_assoc indent (c ∷ text) more)) ∙ sym (append_assoc blanks (indent ++ c ∷ text) more)))

joined : (xs text more before rest ys zs : List ℕ) (c : ℕ) → xs ≡ text ++ 10 ∷ more → more ≡ before ++ c ∷ zs → zs ≡ ys ++ rest → xs ≡ (text ++ 10 ∷ (before ++ c ∷ ys)) ++ rest
joined xs text more before rest ys zs c a b d =
    a ∙ (ap (λ (ws : List ℕ). text ++ 10 ∷ ws) (b ∙ (ap (λ (ws : List ℕ). before ++ c ∷ ws) d ∙ sym (append_assoc before (c ∷ ys) rest))) ∙ sym (append_assoc text (10 ∷ (before ++ c ∷ ys)) rest))

text_joined : (text before ys : List ℕ) (c : ℕ) (t : Folding) → with_chars t (text ++ 10 ∷ (before ++ c ∷ ys)) ≡ with_chars (with_char (with_chars (end_line (with_chars t text)) before) c) ys
text_joined text before ys c t = chars_append text (10 ∷ (before ++ c ∷ ys)) t ∙ chars_append before (c ∷ ys) (end_line (with_chars t text))

past_joined : (text before ys : List ℕ) (c at : ℕ) → past at (text ++ 10 ∷ (before ++ c ∷ ys)) ≡ past (past (past at text + 1) before + len_utf8 c) ys
past_joined text before ys c at = past_append text (10 ∷ (before ++ c ∷ ys)) at ∙ past_append before (c ∷ ys) (past at text + 1)

further_line : (fs : List Frame) (t : Folding) (j at : ℕ) (xs text : List ℕ) (lines : List Further) (rest : List ℕ) (least : ℕ) (v : Value) → (g : Goes fs t j at xs v) → IsLeast least fs → g.more ≡ (text ++ spell_furthers lines) ++ rest
    → stays_plain (is_flow fs) false (line_ends (word_ends true rest) lines) text ≡ true
    → IsFurther (is_flow fs) (line_ends (word_ends true rest) lines) least (record { blanks = g.blanks; indent = g.indent; first = g.first; text = text })
further_line fs t j at xs text lines rest least v g least_is parts stays =
    let e : Bool = line_ends (word_ends true rest) lines in
    let w : word_ends true (spell_furthers lines ++ rest) ≡ e = lines_word lines rest in
    let p : g.more ≡ text ++ (spell_furthers lines ++ rest) = parts ∙ append_assoc text (spell_furthers lines) rest in
    let s : stays_plain (is_flow fs) (g.first == 32) (word_ends true (spell_furthers lines ++ rest)) text ≡ true = rw (w, g.space) stays in
    let all : stays_plain (is_flow fs) false (word_ends true (spell_furthers lines ++ rest)) (g.first ∷ text) ≡ true = stays_more (is_flow fs) false g.first text (spell_furthers lines ++ rest) g.more p g.stop s in (
      least_is g.indent g.deep,
      rw (g.space, g.hash) refl,
      subst (λ (b : Bool). stays_plain (is_flow fs) false b (g.first ∷ text) ≡ true) w all,
      subst (λ (b : Bool). may_begin (Some g.indent) (is_flow fs) b g.first text ≡ true) w (may_begin_of (Some g.indent) (is_flow fs) g.first g.more text (spell_furthers lines ++ rest) p g.begins),
    )

-- a line, a further one and those after that
more_lines : (fs : List Frame) (least : ℕ) (t : Folding) (at : ℕ) (xs text more : List ℕ) (v : Value) → IsLeast least fs → xs ≡ text ++ 10 ∷ more → stays_plain (is_flow fs) false true text ≡ true
    → (g : Goes fs (end_line (with_chars t text)) 0 (past at text + 1) more v)
    → Lines fs least (with_char (with_chars (end_line (with_chars t text)) g.before) g.first) (past (past at text + 1) g.before + len_utf8 g.first) g.more v → Lines fs least t at xs v
more_lines fs least t at xs text more v m parts stays g l =
    let f : Further = record { blanks = g.blanks; indent = g.indent; first = g.first; text = l.text } in
    let ys : List ℕ = l.text ++ spell_furthers l.lines in
    let zs : List ℕ = 10 ∷ (g.before ++ g.first ∷ ys) in
    let same : zs ≡ spell_furthers (f ∷ l.lines) = ap (λ (ws : List ℕ). 10 ∷ ws) (further_is g.before (spell_blanks g.blanks) (spaces g.indent) l.text (spell_furthers l.lines) g.first g.shape) in
    let u : Folding = with_char (with_chars (end_line (with_chars t text)) g.before) g.first in
    let p : ℕ = past (past at text + 1) g.before + len_utf8 g.first in
    let b : Behind fs (scalar_of (with_chars t (text ++ zs)).text) (past at (text ++ zs)) l.rest v
    = subst (λ (x : Folding). Behind fs (scalar_of x.text) (past at (text ++ zs)) l.rest v) (sym (text_joined text g.before ys g.first t))
    (subst (λ (n : ℕ). Behind fs (scalar_of (with_chars u ys).text) n l.rest v) (sym (past_joined text g.before ys g.first at)) l.behind) in
    record {
      text = text;
      lines = f ∷ l.lines;
      rest = l.rest;
      parts = subst (λ (ws : List ℕ). xs ≡ (text ++ ws) ++ l.rest) same (joined xs text more g.before l.rest ys g.more g.first parts g.parts l.parts);
      stays = stays;
      are = (further_line fs (end_line (with_chars t text)) 0 (past at text + 1) more l.text l.lines l.rest least v g m l.parts l.stays, l.are);
      behind = subst (λ (ws : List ℕ). Behind fs (scalar_of (with_chars t (text ++ ws)).text) (past at (text ++ ws)) l.rest v) same b;
    }

-- ---- a text, its line and all the further ones

-- a list of characters after others is shorter
shorter : (xs text more : List ℕ) (c : ℕ) → xs ≡ text ++ c ∷ more → length more < length xs
shorter xs text more c e =
    let l : length xs ≡ length text + length (c ∷ more) = ap (λ (zs : List ℕ). length zs) e ∙ length-append text (c ∷ more) in
    let k : length (c ∷ more) ≡ suc (length more) = refl in
    omega (arith, l, k)

-- texts after lines of no more than so many characters
abbrev NextLines : ℕ → List Frame → (least : ℕ) → Value → Type 0
NextLines n fs least v = (t : Folding) (begun at : ℕ) (xs : List ℕ) → length xs ≤ n → all_ended true xs ≡ true → ReadsOn (front fs (InPlain t ValueOnly begun false)) at xs v → Lines fs least t at xs v

-- the line ends: the text ends there, or has a further line
feed_lines : (n : ℕ) (fs : List Frame) (least : ℕ) (t : Folding) (at : ℕ) (xs text more : List ℕ) (v : Value) → NextLines n fs least v → length xs ≤ suc n → IsLeast least fs → xs ≡ text ++ 10 ∷ more → stays_plain (is_flow fs) false true text ≡ true
    → all_ended false more ≡ true → ReadsOn (front fs (AtLine (past at text + 1) (Going (end_line (with_chars t text))))) (past at text + 1) more v → Lines fs least t at xs v
feed_lines n fs least t at xs text more v next short m parts stays ended h =
    let u : Folding = with_chars t text in
    let s : ℕ = past at text + 1 in
    elim (next_line more fs (end_line u) s 0 s false v (omega arith) (end_waits u) ended h) [
      | inl g ↦
          let a : length more < length xs = shorter xs text more 10 parts in
          let b : length g.more < length more = shorter more g.before g.more g.first g.parts in
          more_lines fs least t at xs text more v m parts stays g (next (with_char (with_chars (end_line u) g.before) g.first) g.begun (past s g.before + len_utf8 g.first) g.more (omega arith) g.ended g.on)
      | inr k ↦
          let line : LineEnded fs (Whole (scalar_of u.text)) (past at text) (10 ∷ more) v = record {
            ending = Bare 0;
            rest = more;
            parts = refl;
            is = tt;
            on = subst (λ (x : List ℕ). ReadsOn (front fs (AtLine s (Whole (scalar_of x)))) s more v) (end_text u) k;
            ended = ended;
          } in
          one_line fs least t at xs text (10 ∷ more) v parts stays (inl (line, tt))
    ]

feed_ends : (n : ℕ) (fs : List Frame) (least : ℕ) (t : Folding) (role : Role) (begun at : ℕ) (xs : List ℕ) (v : Value) → NextLines n fs least v → length xs ≤ suc n → IsLeast least fs → (r : Stopped fs role begun false t at xs v)
    → ((r.sign == 58) && word_ends true r.more) ≡ false → ((r.sign == 35) && spaced_after false r.text) ≡ false → (r.sign == 10) ≡ true → (is_key_only role ≡ false) × Lines fs least t at xs v
feed_ends n fs least t role begun at xs v next short m r a b d =
    let e : r.sign ≡ 10 = sym (is_that r.sign 10 d) in
    let u : Folding = with_chars t r.text in
    let p : ℕ = past at r.text in
    let k = feed_on fs u role begun (spaced_after false r.text) p r.sign (p + len_utf8 r.sign) r.more v a b d r.on in
    let on : ReadsOn (front fs (AtLine (p + 1) (Going (end_line u)))) (p + 1) r.more v = subst (λ (c : ℕ). ReadsOn (front fs (AtLine (p + 1) (Going (end_line u)))) (p + len_utf8 c) r.more v) e k.1 in (
      k.0,
      feed_lines n fs least t at xs r.text r.more v next short m
          (subst (λ (c : ℕ). xs ≡ r.text ++ c ∷ r.more) e r.parts)
          (subst (λ (c : ℕ). stays_plain (is_flow fs) false (word_ends true (c ∷ r.more)) r.text ≡ true) e r.stays)
          (subst (λ (c : ℕ). all_ended (not (c == 10)) r.more ≡ true) e r.ended) on,
    )

sign_ends : (fs : List Frame) (least : ℕ) (t : Folding) (role : Role) (begun at : ℕ) (xs : List ℕ) (v : Value) → (r : Stopped fs role begun false t at xs v) → ((r.sign == 58) && word_ends true r.more) ≡ false
    → ((r.sign == 35) && spaced_after false r.text) ≡ false → (r.sign == 10) ≡ false → (is_flow_sign r.sign && is_flow fs) ≡ true → (is_flow fs ≡ true) × Lines fs least t at xs v
sign_ends fs least t role begun at xs v r a b d e =
    let u : Folding = with_chars t r.text in
    let p : ℕ = past at r.text in
    let flow : (is_flow_sign r.sign ≡ true) × (is_flow fs ≡ true) = and_parts _ _ e in
    let on : OnFrom (after_item fs (scalar_of u.text) p r.sign) (p + len_utf8 r.sign) r.more v = sign_on fs u role begun (spaced_after false r.text) p r.sign (p + len_utf8 r.sign) r.more v a b d e r.on in
    let signed : Signed fs (scalar_of u.text) p (r.sign ∷ r.more) v = record { sign = r.sign; more = r.more; parts = refl; flow = flow.1; on = on; ended = r.ended } in
    (flow.1, one_line fs least t at xs r.text (r.sign ∷ r.more) v r.parts r.stays (inr signed))

stopped_lines : (n : ℕ) (fs : List Frame) (least : ℕ) (t : Folding) (role : Role) (begun at : ℕ) (xs : List ℕ) (v : Value) → NextLines n fs least v → length xs ≤ suc n → IsLeast least fs → Stopped fs role begun false t at xs v
    → TextRead fs least role begun t at xs v
stopped_lines n fs least t role begun at xs v next short m r =
    elim (one_of ((r.sign == 58) && word_ends true r.more) ((r.sign == 35) && spaced_after false r.text) (r.sign == 10) (is_flow_sign r.sign && is_flow fs) r.stop) [
      | inl a ↦ inl (key_ends fs t role begun at xs v r a)
      | inr (inl q) ↦ let k = comment_ends fs least t role begun at xs v r q.0 q.1 in inr ((λ f. k.0), k.1)
      | inr (inr (inl q)) ↦ let k = feed_ends n fs least t role begun at xs v next short m r q.0 q.1 q.2 in inr ((λ f. k.0), k.1)
      | inr (inr (inr q)) ↦ let k = sign_ends fs least t role begun at xs v r q.0 q.1 q.2 q.3 in inr ((λ f. absurd (let z : true ≡ false = sym k.0 ∙ f in cc)), k.1)
    ]

value_lines : (fs : List Frame) (least : ℕ) (t : Folding) (begun at : ℕ) (xs : List ℕ) (v : Value) → TextRead fs least ValueOnly begun t at xs v → Lines fs least t at xs v
value_lines fs least t begun at xs v (inl k) = no_key fs (with_chars t k.text).text begun k.fails (past at k.text + 1) k.rest v k.on
value_lines fs least t begun at xs v (inr k) = k.1

no_chars : {A : Type 0} (xs : List ℕ) → length xs ≤ 0 → all_ended true xs ≡ true → A
no_chars [] l e = absurd (let q : false ≡ true = e in cc)
no_chars (x ∷ xs) l e = absurd (omega arith)

lines_read : (n : ℕ) (fs : List Frame) (least : ℕ) (t : Folding) (role : Role) (begun at : ℕ) (xs : List ℕ) (v : Value) → length xs ≤ n → IsLeast least fs → all_ended true xs ≡ true → ReadsOn (front fs (InPlain t role begun false)) at xs v
    → TextRead fs least role begun t at xs v
lines_read zero fs least t role begun at xs v l m e h = no_chars xs l e
lines_read (suc n) fs least t role begun at xs v l m e h =
    stopped_lines n fs least t role begun at xs v (λ u b p ys k ye yh. value_lines fs least u b p ys v (lines_read n fs least u ValueOnly b p ys v k m ye yh)) l m (line_read xs fs t role begun false at v e h)

-- ---- where a plain text begins

-- this character begins a plain text and no other value
pub record BeginsPlain (c : ℕ) (cs : List ℕ) : Type 0 where
  pub double : (c == 34) ≡ false
  pub single : (c == 39) ≡ false
  pub sign : is_value_sign c ≡ false
  pub nothing : begins_nothing c ≡ false
  pub space : (c == 32) ≡ false
  pub feed : (c == 10) ≡ false
  pub word : (is_word_sign c && word_ends true cs) ≡ false

begins_of : (c : ℕ) (cs text rest : List ℕ) → BeginsPlain c cs → cs ≡ text ++ rest → begins_plain (word_ends true rest) c text ≡ true
begins_of c cs text rest b e =
    let w : word_ends true cs ≡ word_ends (word_ends true rest) text = ap (λ (zs : List ℕ). word_ends true zs) e ∙ word_within text rest true in
    let k : (is_word_sign c && word_ends (word_ends true rest) text) ≡ false = ap (λ (q : Bool). is_word_sign c && q) (sym w) ∙ b.word in
    rw (b.feed, b.space, b.double, b.single, b.sign, b.nothing, k) refl

plain_on : (fs : List Frame) (role : Role) (at c p : ℕ) (cs : List ℕ) (v : Value) → BeginsPlain c cs → OnFrom (begin_plain fs role at c) p cs v → ReadsOn (front fs (InPlain (with_char nothing_yet c) role at false)) p cs v
plain_on fs role at c p cs v b h = elim (cases_Bool (c == 9)) [
  | inl t ↦ let k = rw t at h in rw (b.feed, b.space, t) k
  | inr t ↦ let k = rw t at h in rw (b.feed, b.space, t) k
]

text_read : (fs : List Frame) (role : Role) (least at c : ℕ) (cs : List ℕ) (v : Value) → IsLeast least fs → BeginsPlain c cs → all_ended true cs ≡ true → OnFrom (begin_plain fs role at c) (at + len_utf8 c) cs v
    → TextRead fs least role at (with_char nothing_yet c) (at + len_utf8 c) cs v
text_read fs role least at c cs v m b e h = lines_read (length cs) fs least (with_char nothing_yet c) role at (at + len_utf8 c) cs v (omega arith) m e (plain_on fs role at c (at + len_utf8 c) cs v b h)

-- ---- keys

-- a key that is taken isn't `<<`
named_on : (fs : List Frame) (role : Role) (key : List ℕ) (begun fails at : ℕ) (xs : List ℕ) (v : Value) → OnFrom (plain_key fs role key begun fails) at xs v
    → (bytes_eq key (codes "<<") ≡ false) × OnFrom (key_of fs role key begun fails) at xs v
unfolding plain_key
named_on fs ValueOnly key begun fails at xs v h = no_key fs key begun fails at xs v h
named_on fs (Either column) key begun fails at xs v h = elim (cases_Bool (bytes_eq key (codes "<<"))) [ inl e ↦ absurd (rw e at h) | inr e ↦ (e, rw e at h) ]
named_on fs KeyOnly key begun fails at xs v h = elim (cases_Bool (bytes_eq key (codes "<<"))) [ inl e ↦ absurd (rw e at h) | inr e ↦ (e, rw e at h) ]

plain_keyed : (fs : List Frame) (role : Role) (place : Option ℕ) (at c : ℕ) (cs : List ℕ) (v : Value) → is_flow fs ≡ false → MayBegin place false c cs → BeginsPlain c cs → KeyEnd fs role at (with_char nothing_yet c) (at + len_utf8 c) cs v
    → Keyed fs role place at (c ∷ cs) v
plain_keyed fs role place at c cs v f m b k =
    let key : List ℕ = (with_chars (with_char nothing_yet c) k.text).text in
    let p : ℕ = past (at + len_utf8 c) k.text + 1 in
    let n = named_on fs role key at k.fails p k.rest v k.on in
    let r : Taken (key_of fs role key at k.fails) p k.rest v = was_taken (key_of fs role key at k.fails) p k.rest v n.1 in
    let place_is : past (at + len_utf8 c) (k.text ++ 58 ∷ []) ≡ p = past_append k.text (58 ∷ []) (at + len_utf8 c) in
    record {
      key = PlainKey c k.text;
      rest = k.rest;
      parts = ap (λ (zs : List ℕ). c ∷ zs) k.parts;
      is = (
        (begins_of c cs k.text (58 ∷ k.rest) b k.parts, subst (λ (q : Bool). stays_plain q false false k.text ≡ true) f k.stays, may_begin_of place false c cs k.text (58 ∷ k.rest) k.parts m),
        n.0,
      );
      word = k.word;
      begun = at;
      fails = k.fails;
      front = r.front;
      named = r.is;
      on = subst (λ (q : ℕ). ReadsOn r.front q k.rest v) (sym place_is) r.on;
      ended = k.ended;
    }

-- ---- values

-- a word ends before the end of a line
ending_word : (e : Ending) (rest : List ℕ) → IsApart e → word_ends true (spell_ending e ++ rest) ≡ true
ending_word (Bare zero) rest a = refl
ending_word (Bare (suc n)) rest a = refl
ending_word (Noted zero text) rest a = absurd (omega arith)
ending_word (Noted (suc n) text) rest a = refl

-- the text is one of the tree's, where it is known whether a word ends after it
text_is : (fs : List Frame) (place : Option ℕ) (flow ended : Bool) (least at c : ℕ) (cs : List ℕ) (v : Value) → is_flow fs ≡ flow → MayBegin place flow c cs → BeginsPlain c cs → (l : Lines fs least (with_char nothing_yet c) at cs v)
    → word_ends true l.rest ≡ ended → IsScalarText place flow ended least (Plain c l.text l.lines)
text_is fs place flow ended least at c cs v f m b l w =
    let zs : List ℕ = spell_furthers l.lines ++ l.rest in
    let e : word_ends true zs ≡ line_ends ended l.lines = lines_word l.lines l.rest ∙ ap (λ (q : Bool). line_ends q l.lines) w in
    let parts : cs ≡ l.text ++ zs = l.parts ∙ append_assoc l.text (spell_furthers l.lines) l.rest in
    let stays : stays_plain flow false (line_ends ended l.lines) l.text ≡ true
    = subst (λ (q : Bool). stays_plain q false (line_ends ended l.lines) l.text ≡ true) f (subst (λ (q : Bool). stays_plain (is_flow fs) false (line_ends q l.lines) l.text ≡ true) w l.stays) in (
      (subst (λ (q : Bool). begins_plain q c l.text ≡ true) e (begins_of c cs l.text zs b parts), stays, subst (λ (q : Bool). may_begin place flow q c l.text ≡ true) e (may_begin_of place flow c cs l.text zs parts m)),
      subst (λ (q : Bool). AreFurther q ended least l.lines) f (subst (λ (q : Bool). AreFurther (is_flow fs) q least l.lines) w l.are),
    )

no_sign : {A : Type 0} (fs : List Frame) (u : Value) (at : ℕ) (xs : List ℕ) (v : Value) → is_flow fs ≡ false → Signed fs u at xs v → A
no_sign fs u at xs v f s = absurd (let q : true ≡ false = sym s.flow ∙ f in cc)

leaf_from : (fs : List Frame) (place : Option ℕ) (least at c : ℕ) (cs : List ℕ) (v : Value) → is_flow fs ≡ false → MayBegin place false c cs → BeginsPlain c cs → (l : Lines fs least (with_char nothing_yet c) (at + len_utf8 c) cs v)
    → Behind fs (scalar_value (Plain c l.text l.lines)) (past at (spell_scalar (Plain c l.text l.lines))) l.rest v → LeafRead fs place least (length fs) at (c ∷ cs) v
leaf_from fs place least at c cs v f m b l (inr s) = no_sign fs (scalar_value (Plain c l.text l.lines)) (past at (spell_scalar (Plain c l.text l.lines))) l.rest v f s
leaf_from fs place least at c cs v f m b l (inl h) =
    let w : word_ends true l.rest ≡ true = ap (λ (zs : List ℕ). word_ends true zs) h.0.parts ∙ ending_word h.0.ending h.0.rest h.1 in
    leaf_of fs place least (length fs) at (Text (Plain c l.text l.lines)) (c ∷ cs) l.rest v (ap (λ (zs : List ℕ). c ∷ zs) l.parts) (text_is fs place false true least (at + len_utf8 c) c cs v f m b l w) f h.0 h.1

pub plain_read : (fs : List Frame) (role : Role) (place : Option ℕ) (least at c : ℕ) (cs : List ℕ) (v : Value) → is_flow fs ≡ false → IsLeast least fs → MayBegin place false c cs → BeginsPlain c cs → all_ended true cs ≡ true
    → OnFrom (begin_plain fs role at c) (at + len_utf8 c) cs v → ValueRead fs role place least (length fs) at (c ∷ cs) v
plain_read fs role place least at c cs v f l m b e h = elim (text_read fs role least at c cs v l b e h) [
  | inl k ↦ inl (plain_keyed fs role place at c cs v f m b k)
  | inr k ↦ inr (k.0 f, leaf_from fs place least at c cs v f m b k.1 k.1.behind)
]

-- ---- items of flow lists

-- what stands after an item is no blank
after_sign : (fs : List Frame) (u : Value) (at c : ℕ) (f : Front) → after_item fs u at c ≡ Ok f → ((c == 32) || (c == 10)) ≡ false
unfolding after_item
after_sign (InFlow items ∷ fs) u at c f h = elim (cases_Bool (c == 44)) [
  | inl e ↦ subst (λ (d : ℕ). ((d == 32) || (d == 10)) ≡ false) (is_that c 44 e) refl
  | inr e ↦ elim (cases_Bool (c == 93)) [
    | inl g ↦ subst (λ (d : ℕ). ((d == 32) || (d == 10)) ≡ false) (is_that c 93 g) refl
    | inr g ↦ let q : ◌≡◌ {A = Result Front Broken} (no_text (place_of at c)) (Ok f) = rw (e, g) at h in absurd (let z : ◌≡◌ {A = Result Front Broken} (no_text (place_of at c)) (Ok f) = q in cc)
  ]
]
after_sign fs u at c f h = absurd (let q : ◌≡◌ {A = Result Front Broken} (no_text (place_of at c)) (Ok f) = h in cc)

pad_word : (pad : Pad) (c : ℕ) (rest : List ℕ) → IsPad pad → ((c == 32) || (c == 10)) ≡ false → word_ends true (spell_pad pad ++ c ∷ rest) ≡ ends_before pad
pad_word (Inline zero) c rest i h = h
pad_word (Inline (suc n)) c rest i h = refl
pad_word (Over e gaps n) c rest i h = ap (λ (zs : List ℕ). word_ends true zs) (append_assoc (spell_ending e) (spell_gaps gaps ++ spaces n) (c ∷ rest)) ∙ ending_word e ((spell_gaps gaps ++ spaces n) ++ c ∷ rest) i.1

within_of : (c : ℕ) (cs : List ℕ) → ((c == 32) || (c == 10)) ≡ false → all_ended (not (c == 10)) cs ≡ true → all_ended true cs ≡ true
within_of c cs h e = elim (cases_Bool (c == 10)) [
  | inl a ↦ absurd (subst (λ (d : ℕ). ((d == 32) || (d == 10)) ≡ false → ⊥) (is_that c 10 a) (λ q. let z : true ≡ false = q in cc) h)
  | inr a ↦ subst (λ (b : Bool). all_ended (not b) cs ≡ true) a e
]

item_from : (fs : List Frame) (u : Value) (at : ℕ) (xs : List ℕ) (v : Value) → is_flow fs ≡ true → Behind fs u at xs v → ItemEnded fs u at xs v
item_from fs u at xs v f (inl h) = item_over fs u at xs v h.0 h.1 f
item_from fs u at xs v f (inr s) =
    let r : Taken (after_item fs u at s.sign) (at + len_utf8 s.sign) s.more v = was_taken (after_item fs u at s.sign) (at + len_utf8 s.sign) s.more v s.on in
    let k : ((s.sign == 32) || (s.sign == 10)) ≡ false = after_sign fs u at s.sign r.front r.is in
    record { pad = Inline 0; sign = s.sign; rest = s.more; parts = s.parts; is = tt; front = r.front; after = r.is; on = r.on; ended = within_of s.sign s.more k s.ended }

pub plain_item : (fs : List Frame) (place : Option ℕ) (least at c : ℕ) (cs : List ℕ) (v : Value) → is_flow fs ≡ true → IsLeast least fs → MayBegin place true c cs → BeginsPlain c cs → all_ended true cs ≡ true
    → OnFrom (begin_plain fs ValueOnly at c) (at + len_utf8 c) cs v → FlowText fs place least at (c ∷ cs) v
plain_item fs place least at c cs v f l m b e h =
    let k : Lines fs least (with_char nothing_yet c) (at + len_utf8 c) cs v = value_lines fs least (with_char nothing_yet c) at (at + len_utf8 c) cs v (text_read fs ValueOnly least at c cs v l b e h) in
    let text : Scalar = Plain c k.text k.lines in
    let p : ℕ = past at (spell_scalar text) in
    let item : ItemEnded fs (scalar_value text) p k.rest v = item_from fs (scalar_value text) p k.rest v f k.behind in
    let w : word_ends true k.rest ≡ ends_before item.pad
    = ap (λ (zs : List ℕ). word_ends true zs) item.parts ∙ pad_word item.pad item.sign item.rest item.is (after_sign fs (scalar_value text) (past p (spell_pad item.pad)) item.sign item.front item.after) in
    record { text = text; rest = k.rest; parts = ap (λ (zs : List ℕ). c ∷ zs) k.parts; item = item; is = text_is fs place true (ends_before item.pad) least (at + len_utf8 c) c cs v f m b k w }
