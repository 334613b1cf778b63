-- What is found of a plain text on its lines.
use Rattle.std.proofs.Common.{◌≡◌, ℕ, suc, ◌+◌, ◌-◌, Bool, true, false, not, ◌&&◌, ◌||◌, ◌==◌, List, [], ◌∷◌, ◌++◌, Some, Result, Ok, Err, ◌⊎◌, inl, inr, refl, sym, ap, subst, ◌∙◌, arith, append-nil, append_assoc}
use Rattle.std.specs.Prelude.{codes}
use Rattle.std.specs.Str.{bytes_eq}
use Rattle.std.specs.Char.{len_utf8}
use Rattle.std.proofs.lemmas.Bool.{and_parts, cases_Bool}
use Rattle.edt_base.specs.YamlData.{Value}
use Rattle.yaml_profile.specs.declared.stop.Broken.{Broken}
use Rattle.yaml_profile.specs.declared.front.Role.{Role}
use Rattle.yaml_profile.specs.declared.front.Role.TheVariants.{Value as ValueOnly}
use Rattle.yaml_profile.specs.declared.folding.Seam.{Seam}
use Rattle.yaml_profile.specs.declared.folding.Seam.TheVariants.{Inside, Folds, Joins}
use Rattle.yaml_profile.specs.Signs.{is_blank, begins_mark, is_flow_sign, behind}
use Rattle.yaml_profile.specs.Scalars.{scalar_of}
use Rattle.yaml_profile.specs.Folding.{Folding, after_blank, end_line, after_line}
use Rattle.yaml_profile.specs.Fronts.{Frame, Waiting, Going, Whole, Innermost, AtLine, InPlain, Front, front, is_flow, is_deeper}
use Rattle.yaml_profile.specs.Pieces.{in_plain, plain_key, key_of, after_item}
use Rattle.yaml_profile.specs.Layout.{settle, block_line, flow_line, line_content, in_line}
use Rattle.yaml_profile.specs.Reading.{taken, ends}
use Rattle.yaml_profile.specs.Written.{spaces, word_ends, stays_plain, is_mark, with_char, with_chars, spell_blanks}
use Rattle.yaml_profile.proofs.ReadSteps.{past, is_that, with_returns, line_walk, ReadsOn, OnFrom, all_ended, step_by, word_ahead, mark_ahead}
use Rattle.yaml_profile.proofs.ReadParts.{MayBegin}
use Rattle.yaml_profile.proofs.ReadGaps.{for_that, spaces_one_more}
use Rattle.yaml_profile.proofs.WrittenParagraphs.{blank_waits, chars_append, end_waits, is_inside}
use Rattle.yaml_profile.proofs.WrittenTexts.{spaced_after, swapped}

-- ---- tests

-- whether a word ends before characters, by what stands after them
pub word_within : (xs ys : List ℕ) (e : Bool) → word_ends e (xs ++ ys) ≡ word_ends (word_ends e ys) xs
word_within [] ys e = refl
word_within (x ∷ xs) ys e = refl

pub mark_within : (c : ℕ) (xs ys : List ℕ) → is_mark true c (xs ++ ys) ≡ false → is_mark (word_ends true ys) c xs ≡ false
mark_within c [] ys h = refl
mark_within c (d ∷ []) ys h = refl
mark_within c (d ∷ e ∷ more) ys h = rw (← word_within more ys true) h

-- this character ends a plain text, or its part on a line
abbrev pub is_stop : (flow spaced : Bool) → (c : ℕ) → List ℕ → Bool
is_stop flow spaced c cs = ((c == 58) && word_ends true cs) || (((c == 35) && spaced) || ((c == 10) || (is_flow_sign c && flow)))

pub none_of : (a b c d : Bool) → (a || (b || (c || d))) ≡ false → (a ≡ false) × (b ≡ false) × (c ≡ false) × (d ≡ false)
none_of true b c d h = absurd (let q : true ≡ false = h in cc)
none_of false true c d h = absurd (let q : true ≡ false = h in cc)
none_of false false true d h = absurd (let q : true ≡ false = h in cc)
none_of false false false d h = (refl, refl, refl, h)

-- one character more that stays in a plain text
pub stays_more : (flow spaced : Bool) (c : ℕ) (text rest cs : List ℕ) → cs ≡ text ++ rest → is_stop flow spaced c cs ≡ false → stays_plain flow (c == 32) (word_ends true rest) text ≡ true
    → stays_plain flow spaced (word_ends true rest) (c ∷ text) ≡ true
stays_more flow spaced c text rest cs e s h =
    let n = none_of ((c == 58) && word_ends true cs) ((c == 35) && spaced) (c == 10) (is_flow_sign c && flow) s in
    let w : word_ends true cs ≡ word_ends (word_ends true rest) text = ap (λ (zs : List ℕ). word_ends true zs) e ∙ word_within text rest true in
    let a : ((c == 58) && word_ends (word_ends true rest) text) ≡ false = ap (λ (b : Bool). (c == 58) && b) (sym w) ∙ n.0 in
    rw (n.2, a, n.1, swapped (is_flow_sign c) flow n.3, h) refl

-- ---- a line

-- the characters of a line up to the one that ends the text there
pub record Stopped (fs : List Frame) (role : Role) (begun : ℕ) (spaced : Bool) (t : Folding) (at : ℕ) (xs : List ℕ) (v : Value) : Type 0 where
  pub text : List ℕ
  pub sign : ℕ
  pub more : List ℕ
  pub parts : xs ≡ text ++ sign ∷ more
  pub stays : stays_plain (is_flow fs) spaced (word_ends true (sign ∷ more)) text ≡ true
  pub stop : is_stop (is_flow fs) (spaced_after spaced text) sign more ≡ true
  pub on : OnFrom (in_plain fs (with_chars t text) role begun (spaced_after spaced text) (past at text) sign (with_returns more)) (past at text + len_utf8 sign) more v
  pub ended : all_ended (not (sign == 10)) more ≡ true

pub plain_goes : (fs : List Frame) (t : Folding) (role : Role) (begun : ℕ) (spaced : Bool) (at c : ℕ) (cs : List ℕ) → is_stop (is_flow fs) spaced c cs ≡ false
    → in_plain fs t role begun spaced at c (with_returns cs) ≡ Ok (front fs (InPlain (with_char t c) role begun (c == 32)))
unfolding in_plain
plain_goes fs t role begun spaced at c cs s =
    let n = none_of ((c == 58) && word_ends true cs) ((c == 35) && spaced) (c == 10) (is_flow_sign c && is_flow fs) s in
    rw (word_ahead cs, n.0, n.1, n.2, n.3) (elim (cases_Bool (is_blank c)) [ inl h ↦ rw h refl | inr h ↦ rw h refl ])

plain_step : (fs : List Frame) (t : Folding) (role : Role) (begun : ℕ) (spaced : Bool) (at c : ℕ) (cs : List ℕ) (v : Value) → ReadsOn (front fs (InPlain t role begun spaced)) at (c ∷ cs) v
    → OnFrom (in_plain fs t role begun spaced at c (with_returns cs)) (at + len_utf8 c) cs v
unfolding taken
plain_step fs t role begun spaced at c cs v h = step_by fs (InPlain t role begun spaced) (in_plain fs t role begun spaced at c (with_returns cs)) at c cs v refl h

line_more : (fs : List Frame) (t : Folding) (role : Role) (begun : ℕ) (spaced : Bool) (at c : ℕ) (cs : List ℕ) (v : Value) → is_stop (is_flow fs) spaced c cs ≡ false → Stopped fs role begun (c == 32) (with_char t c) (at + len_utf8 c) cs v
    → Stopped fs role begun spaced t at (c ∷ cs) v
line_more fs t role begun spaced at c cs v s r = record {
  text = c ∷ r.text;
  sign = r.sign;
  more = r.more;
  parts = ap (λ (zs : List ℕ). c ∷ zs) r.parts;
  stays = stays_more (is_flow fs) spaced c r.text (r.sign ∷ r.more) cs r.parts s r.stays;
  stop = r.stop;
  on = r.on;
  ended = r.ended;
}

pub line_read : (xs : List ℕ) (fs : List Frame) (t : Folding) (role : Role) (begun : ℕ) (spaced : Bool) (at : ℕ) (v : Value) → all_ended true xs ≡ true → ReadsOn (front fs (InPlain t role begun spaced)) at xs v
    → Stopped fs role begun spaced t at xs v
line_read [] fs t role begun spaced at v e h = absurd (let q : false ≡ true = e in cc)
line_read (c ∷ cs) fs t role begun spaced at v e h =
    let g : OnFrom (in_plain fs t role begun spaced at c (with_returns cs)) (at + len_utf8 c) cs v = plain_step fs t role begun spaced at c cs v h in
    elim (cases_Bool (is_stop (is_flow fs) spaced c cs)) [
      | inl s ↦ record { text = []; sign = c; more = cs; parts = refl; stays = refl; stop = s; on = g; ended = e }
      | inr s ↦
          let n = none_of ((c == 58) && word_ends true cs) ((c == 35) && spaced) (c == 10) (is_flow_sign c && is_flow fs) s in
          let k : ReadsOn (front fs (InPlain (with_char t c) role begun (c == 32))) (at + len_utf8 c) cs v
          = subst (λ (q : Result Front Broken). OnFrom q (at + len_utf8 c) cs v) (plain_goes fs t role begun spaced at c cs s) g in
          let l : all_ended true cs ≡ true = subst (λ (b : Bool). all_ended (not b) cs ≡ true) n.2 e in
          let r : Stopped fs role begun (c == 32) (with_char t c) (at + len_utf8 c) cs v = line_read cs fs (with_char t c) role begun (c == 32) (at + len_utf8 c) v l k in
          line_more fs t role begun spaced at c cs v s r
    ]

-- ---- the next line

line_text : (m : Seam) (t : Folding) → (after_line m t).text ≡ t.text
line_text Inside t = refl
line_text Folds t = refl
line_text Joins t = refl

-- a line end alone is no part of the text so far
pub end_text : (t : Folding) → (end_line t).text ≡ t.text
end_text t = line_text t.seam t

-- a text goes on with a further line, where j spaces of a line are read
pub record Goes (fs : List Frame) (t : Folding) (j at : ℕ) (xs : List ℕ) (v : Value) : Type 0 where
  pub before : List ℕ
  pub blanks : List ℕ
  pub indent : ℕ
  pub first : ℕ
  pub more : List ℕ
  pub parts : xs ≡ before ++ first ∷ more
  pub shape : spaces j ++ before ≡ spell_blanks blanks ++ spaces indent
  pub deep : is_deeper indent fs ≡ true
  pub begins : MayBegin (Some indent) (is_flow fs) first more
  pub space : (first == 32) ≡ false
  pub hash : (first == 35) ≡ false
  pub stop : is_stop (is_flow fs) false first more ≡ false
  pub begun : ℕ
  pub on : ReadsOn (front fs (InPlain (with_char (with_chars t before) first) ValueOnly begun false)) (past at before + len_utf8 first) more v
  pub ended : all_ended true more ≡ true

-- or ends before it, so that the line is read as after any whole value
abbrev pub Found : List Frame → Folding → (s j at : ℕ) → List ℕ → Value → Type 0
Found fs t s j at xs v = Goes fs t j at xs v ⊎ ReadsOn (front fs (AtLine s (Whole (scalar_of t.text)))) at xs v

back : (fs : List Frame) (i : Innermost) (r : Result Front Broken) (at c : ℕ) (cs : List ℕ) (v : Value) → taken fs i at c (with_returns cs) ≡ r → OnFrom r (at + len_utf8 c) cs v → ReadsOn (front fs i) at (c ∷ cs) v
unfolding line_walk
back fs i (Ok g) at c cs v e h = rw e h
back fs i (Err b) at c cs v e h = absurd h

line_step : (fs : List Frame) (w : Waiting) (s at c : ℕ) (cs : List ℕ) (v : Value) → ReadsOn (front fs (AtLine s w)) at (c ∷ cs) v → OnFrom (in_line fs w s at c (with_returns cs)) (at + len_utf8 c) cs v
unfolding taken
line_step fs w s at c cs v h = step_by fs (AtLine s w) (in_line fs w s at c (with_returns cs)) at c cs v refl h

line_back : (fs : List Frame) (w : Waiting) (s at c : ℕ) (cs : List ℕ) (v : Value) → OnFrom (in_line fs w s at c (with_returns cs)) (at + len_utf8 c) cs v → ReadsOn (front fs (AtLine s w)) at (c ∷ cs) v
unfolding taken
line_back fs w s at c cs v h = back fs (AtLine s w) (in_line fs w s at c (with_returns cs)) at c cs v refl h

-- where the file ends
no_line : (fs : List Frame) (t : Folding) (s at : ℕ) (v : Value) → ReadsOn (front fs (AtLine s (Going t))) at [] v → ReadsOn (front fs (AtLine s (Whole (scalar_of t.text)))) at [] v
unfolding line_walk ends
no_line fs t s at v h = h

-- ---- spaces

space_step : (fs : List Frame) (w : Waiting) (s at : ℕ) (cs : List ℕ) (v : Value) → ReadsOn (front fs (AtLine s w)) at (32 ∷ cs) v → ReadsOn (front fs (AtLine s w)) (at + 1) cs v
unfolding in_line
space_step fs w s at cs v h = line_step fs w s at 32 cs v h

space_back : (fs : List Frame) (w : Waiting) (s at : ℕ) (cs : List ℕ) (v : Value) → ReadsOn (front fs (AtLine s w)) (at + 1) cs v → ReadsOn (front fs (AtLine s w)) at (32 ∷ cs) v
unfolding in_line
space_back fs w s at cs v h = line_back fs w s at 32 cs v h

space_more : (fs : List Frame) (t : Folding) (s j at : ℕ) (cs : List ℕ) (v : Value) → is_inside t.seam ≡ false → Found fs t s (suc j) (at + 1) cs v → Found fs t s j at (32 ∷ cs) v
space_more fs t s j at cs v w (inl g) = inl (record {
  before = 32 ∷ g.before;
  blanks = g.blanks;
  indent = g.indent;
  first = g.first;
  more = g.more;
  parts = ap (λ (zs : List ℕ). 32 ∷ zs) g.parts;
  shape = spaces_one_more j g.before ∙ g.shape;
  deep = g.deep;
  begins = g.begins;
  space = g.space;
  hash = g.hash;
  stop = g.stop;
  begun = g.begun;
  on = subst (λ (u : Folding). ReadsOn (front fs (InPlain (with_char (with_chars u g.before) g.first) ValueOnly g.begun false)) (past (at + 1) g.before + len_utf8 g.first) g.more v) (sym (blank_waits t.seam t 32 w)) g.on;
  ended = g.ended;
})
space_more fs t s j at cs v w (inr h) = inr (space_back fs (Whole (scalar_of t.text)) s at cs v h)

-- ---- blank lines

feed_step : (fs : List Frame) (t : Folding) (s at : ℕ) (cs : List ℕ) (v : Value) → ReadsOn (front fs (AtLine s (Going t))) at (10 ∷ cs) v → ReadsOn (front fs (AtLine (at + 1) (Going (end_line t)))) (at + 1) cs v
unfolding in_line
feed_step fs t s at cs v h = line_step fs (Going t) s at 10 cs v h

feed_back : (fs : List Frame) (u : Value) (s at : ℕ) (cs : List ℕ) (v : Value) → ReadsOn (front fs (AtLine (at + 1) (Whole u))) (at + 1) cs v → ReadsOn (front fs (AtLine s (Whole u))) at (10 ∷ cs) v
unfolding in_line
feed_back fs u s at cs v h = line_back fs (Whole u) s at 10 cs v h

feed_more : (fs : List Frame) (t : Folding) (s j at : ℕ) (cs : List ℕ) (v : Value) → Found fs (end_line t) (at + 1) 0 (at + 1) cs v → Found fs t s j at (10 ∷ cs) v
feed_more fs t s j at cs v (inl g) = inl (record {
  before = 10 ∷ g.before;
  blanks = j ∷ g.blanks;
  indent = g.indent;
  first = g.first;
  more = g.more;
  parts = ap (λ (zs : List ℕ). 10 ∷ zs) g.parts;
  shape = ap (λ (zs : List ℕ). spaces j ++ 10 ∷ zs) g.shape ∙ (sym (append_assoc (spaces j) (10 ∷ []) (spell_blanks g.blanks ++ spaces g.indent))
      ∙ sym (append_assoc (spaces j ++ 10 ∷ []) (spell_blanks g.blanks) (spaces g.indent)));
  deep = g.deep;
  begins = g.begins;
  space = g.space;
  hash = g.hash;
  stop = g.stop;
  begun = g.begun;
  on = g.on;
  ended = g.ended;
})
feed_more fs t s j at cs v (inr h) =
    inr (feed_back fs (scalar_of t.text) s at cs v (subst (λ (x : List ℕ). ReadsOn (front fs (AtLine (at + 1) (Whole (scalar_of x)))) (at + 1) cs v) (end_text t) h))

-- ---- what ends a text

-- the first of four tests that holds
pub one_of : (a b c d : Bool) → (a || (b || (c || d))) ≡ true
    → (a ≡ true) ⊎ (((a ≡ false) × (b ≡ true)) ⊎ (((a ≡ false) × (b ≡ false) × (c ≡ true)) ⊎ ((a ≡ false) × (b ≡ false) × (c ≡ false) × (d ≡ true))))
one_of true b c d h = inl refl
one_of false true c d h = inr (inl (refl, refl))
one_of false false true d h = inr (inr (inl (refl, refl, refl)))
one_of false false false d h = inr (inr (inr (refl, refl, refl, h)))

-- a text that is no key has no colon before a space
pub no_key : {A : Type 0} (fs : List Frame) (key : List ℕ) (begun fails at : ℕ) (xs : List ℕ) (v : Value) → OnFrom (plain_key fs ValueOnly key begun fails) at xs v → A
unfolding plain_key key_of
no_key fs key begun fails at xs v h = elim (cases_Bool (bytes_eq key (codes "<<"))) [ inl e ↦ absurd (rw e at h) | inr e ↦ absurd (rw e at h) ]

sign_ends : (fs : List Frame) (t : Folding) (begun at c : ℕ) (cs : List ℕ) (v : Value) → is_stop (is_flow fs) false c cs ≡ true → (c == 10) ≡ false
    → OnFrom (in_plain fs t ValueOnly begun false at c (with_returns cs)) (at + len_utf8 c) cs v → (is_flow fs ≡ true) × OnFrom (after_item fs (scalar_of t.text) at c) (at + len_utf8 c) cs v
unfolding in_plain
sign_ends fs t begun at c cs v s f h = elim (one_of ((c == 58) && word_ends true cs) ((c == 35) && false) (c == 10) (is_flow_sign c && is_flow fs) s) [
  | inl a ↦ no_key fs t.text begun (behind at (with_returns cs)) (at + len_utf8 c) cs v (rw (word_ahead cs, a) at h)
  | inr (inl n) ↦ let p : ((c == 35) ≡ true) × (false ≡ true) = and_parts _ _ n.1 in absurd (let q : false ≡ true = p.1 in cc)
  | inr (inr (inl n)) ↦ absurd (let q : false ≡ true = sym f ∙ n.2 in cc)
  | inr (inr (inr n)) ↦ let p : (is_flow_sign c ≡ true) × (is_flow fs ≡ true) = and_parts _ _ n.3 in (p.1, rw (word_ahead cs, n.0, n.1, n.2, n.3) at h)
]

-- ---- the first character of a line with content

goes_from : (fs : List Frame) (t : Folding) (s j at c : ℕ) (cs : List ℕ) (v : Value) → at ≡ s + j → is_deeper (at - s) fs ≡ true → MayBegin (Some (at - s)) (is_flow fs) c cs → (c == 32) ≡ false → (c == 35) ≡ false → is_stop (is_flow fs) false c cs ≡ false
    → all_ended true cs ≡ true → OnFrom (in_plain fs t ValueOnly at false at c (with_returns cs)) (at + len_utf8 c) cs v → Goes fs t j at (c ∷ cs) v
goes_from fs t s j at c cs v e d m a b stop l h =
    let k : at - s ≡ j = omega arith in
    record {
      before = [];
      blanks = [];
      indent = j;
      first = c;
      more = cs;
      parts = refl;
      shape = append-nil (spaces j);
      deep = subst (λ (n : ℕ). is_deeper n fs ≡ true) k d;
      begins = subst (λ (n : ℕ). MayBegin (Some n) (is_flow fs) c cs) k m;
      space = a;
      hash = b;
      stop = stop;
      begun = at;
      on = subst (λ (q : Bool). ReadsOn (front fs (InPlain (with_char t c) ValueOnly at q)) (at + len_utf8 c) cs v) a
          (subst (λ (q : Result Front Broken). OnFrom q (at + len_utf8 c) cs v) (plain_goes fs t ValueOnly at false at c cs stop) h);
      ended = l;
    }

-- no space, line feed, tab or `#`
record Solid (c : ℕ) : Type 0 where
  space : (c == 32) ≡ false
  feed : (c == 10) ≡ false
  tab : (c == 9) ≡ false
  hash : (c == 35) ≡ false

content_step : (fs : List Frame) (w : Waiting) (s at c : ℕ) (cs : List ℕ) (v : Value) → Solid c → ReadsOn (front fs (AtLine s w)) at (c ∷ cs) v → OnFrom (line_content fs w s at c (with_returns cs)) (at + len_utf8 c) cs v
unfolding in_line
content_step fs w s at c cs v a h = let k = line_step fs w s at c cs v h in rw (a.space, a.feed, a.tab, a.hash) at k

content_back : (fs : List Frame) (w : Waiting) (s at c : ℕ) (cs : List ℕ) (v : Value) → Solid c → OnFrom (line_content fs w s at c (with_returns cs)) (at + len_utf8 c) cs v → ReadsOn (front fs (AtLine s w)) at (c ∷ cs) v
unfolding in_line
content_back fs w s at c cs v a h = line_back fs w s at c cs v (rw (a.space, a.feed, a.tab, a.hash) h)

flow_back : (fs : List Frame) (u : Value) (s at c : ℕ) (cs : List ℕ) (v : Value) → Solid c → is_flow fs ≡ true → OnFrom (after_item fs u at c) (at + len_utf8 c) cs v → ReadsOn (front fs (AtLine s (Whole u))) at (c ∷ cs) v
unfolding line_content flow_line
flow_back fs u s at c cs v a f h = content_back fs (Whole u) s at c cs v a (rw f h)

in_flow : (fs : List Frame) (t : Folding) (s j at c : ℕ) (cs : List ℕ) (v : Value) → at ≡ s + j → Solid c → all_ended true cs ≡ true → is_flow fs ≡ true
    → OnFrom (flow_line fs (Going t) s at c (with_returns cs)) (at + len_utf8 c) cs v → Found fs t s j at (c ∷ cs) v
unfolding flow_line
in_flow fs t s j at c cs v e a l f h = elim (cases_Bool (is_deeper (at - s) fs)) [
  | inr d ↦ inr (flow_back fs (scalar_of t.text) s at c cs v a f (rw d at h))
  | inl d ↦
      let k : OnFrom (in_plain fs t ValueOnly at false at c (with_returns cs)) (at + len_utf8 c) cs v = rw d at h in
      elim (cases_Bool (is_stop (is_flow fs) false c cs)) [
        | inl stop ↦ inr (flow_back fs (scalar_of t.text) s at c cs v a f (sign_ends fs t at at c cs v stop a.feed k).1)
        | inr stop ↦ inl (goes_from fs t s j at c cs v e d (a.tab, rw f refl) a.space a.hash stop l k)
      ]
]

outside_back : (fs : List Frame) (u : Value) (s at c : ℕ) (cs : List ℕ) (v : Value) → Solid c → is_flow fs ≡ false → (((at - s) == 0) && begins_mark c (with_returns cs)) ≡ false → OnFrom (settle fs u s at c (with_returns cs)) (at + len_utf8 c) cs v
    → ReadsOn (front fs (AtLine s (Whole u))) at (c ∷ cs) v
unfolding line_content block_line
outside_back fs u s at c cs v a f m h = content_back fs (Whole u) s at c cs v a (rw (f, m) h)

no_mark : (at s c : ℕ) (flow : Bool) (cs : List ℕ) → flow ≡ false → (((at - s) == 0) && begins_mark c (with_returns cs)) ≡ false → (not flow && ((at - s) == 0) && is_mark true c cs) ≡ false
no_mark at s c flow cs f m = rw (f, ← mark_ahead cs c) m

outside_flow : (fs : List Frame) (t : Folding) (s j at c : ℕ) (cs : List ℕ) (v : Value) → at ≡ s + j → Solid c → all_ended true cs ≡ true → is_flow fs ≡ false → (((at - s) == 0) && begins_mark c (with_returns cs)) ≡ false
    → OnFrom (block_line fs (Going t) s at c (with_returns cs)) (at + len_utf8 c) cs v → Found fs t s j at (c ∷ cs) v
unfolding block_line
outside_flow fs t s j at c cs v e a l f m h = elim (cases_Bool (is_deeper (at - s) fs)) [
  | inr d ↦ inr (outside_back fs (scalar_of t.text) s at c cs v a f m (rw d at h))
  | inl d ↦
      let k : OnFrom (in_plain fs t ValueOnly at false at c (with_returns cs)) (at + len_utf8 c) cs v = rw d at h in
      elim (cases_Bool (is_stop (is_flow fs) false c cs)) [
        | inl stop ↦ absurd (let q : true ≡ false = sym (sign_ends fs t at at c cs v stop a.feed k).0 ∙ f in cc)
        | inr stop ↦ inl (goes_from fs t s j at c cs v e d (a.tab, no_mark at s c (is_flow fs) cs f m) a.space a.hash stop l k)
      ]
]

content_found : (fs : List Frame) (t : Folding) (s j at c : ℕ) (cs : List ℕ) (v : Value) → at ≡ s + j → Solid c → all_ended true cs ≡ true → OnFrom (line_content fs (Going t) s at c (with_returns cs)) (at + len_utf8 c) cs v
    → Found fs t s j at (c ∷ cs) v
unfolding line_content
content_found fs t s j at c cs v e a l h = elim (cases_Bool (is_flow fs)) [
  | inl f ↦ in_flow fs t s j at c cs v e a l f (rw f at h)
  | inr f ↦ elim (cases_Bool (((at - s) == 0) && begins_mark c (with_returns cs))) [
    | inl m ↦ absurd (rw (f, m) at h)
    | inr m ↦ outside_flow fs t s j at c cs v e a l f m (rw (f, m) at h)
  ]
]

-- a tab begins no line
no_tab : {A : Type 0} (fs : List Frame) (w : Waiting) (s at : ℕ) (cs : List ℕ) (v : Value) → ReadsOn (front fs (AtLine s w)) at (9 ∷ cs) v → A
unfolding in_line
no_tab fs w s at cs v h = absurd (line_step fs w s at 9 cs v h)

-- a comment ends the text
comment_found : (fs : List Frame) (t : Folding) (s at : ℕ) (cs : List ℕ) (v : Value) → ReadsOn (front fs (AtLine s (Going t))) at (35 ∷ cs) v → ReadsOn (front fs (AtLine s (Whole (scalar_of t.text)))) at (35 ∷ cs) v
unfolding in_line
comment_found fs t s at cs v h = line_back fs (Whole (scalar_of t.text)) s at 35 cs v (line_step fs (Going t) s at 35 cs v h)

-- a line begins after a plain text, with j spaces read
abbrev FoundAt : List Frame → Folding → (s j at : ℕ) → Value → List ℕ → Type 0
FoundAt fs t s j at v xs = ReadsOn (front fs (AtLine s (Going t))) at xs v → Found fs t s j at xs v

other_found : (fs : List Frame) (t : Folding) (s j at c : ℕ) (cs : List ℕ) (v : Value) → at ≡ s + j → (c == 32) ≡ false → (c == 10) ≡ false → all_ended true cs ≡ true → FoundAt fs t s j at v (c ∷ cs)
other_found fs t s j at c cs v e a f l h = elim (cases_Bool (c == 9)) [
  | inl b ↦ for_that (λ (d : ℕ). FoundAt fs t s j at v (d ∷ cs)) c 9 b (λ k. no_tab fs (Going t) s at cs v k) h
  | inr b ↦ elim (cases_Bool (c == 35)) [
    | inl g ↦ for_that (λ (d : ℕ). FoundAt fs t s j at v (d ∷ cs)) c 35 g (λ k. inr (comment_found fs t s at cs v k)) h
    | inr g ↦ let solid : Solid c = record { space = a; feed = f; tab = b; hash = g } in content_found fs t s j at c cs v e solid l (content_step fs (Going t) s at c cs v solid h)
  ]
]

-- a further line, or the end of the text
pub next_line : (xs : List ℕ) (fs : List Frame) (t : Folding) (s j at : ℕ) (within : Bool) (v : Value) → at ≡ s + j → is_inside t.seam ≡ false → all_ended within xs ≡ true → ReadsOn (front fs (AtLine s (Going t))) at xs v
    → Found fs t s j at xs v
next_line [] fs t s j at within v e w l h = inr (no_line fs t s at v h)
next_line (c ∷ cs) fs t s j at within v e w l h = elim (cases_Bool (c == 32)) [
  | inl a ↦
      let m : all_ended true cs ≡ true = subst (λ (d : ℕ). all_ended (not (d == 10)) cs ≡ true) (sym (is_that c 32 a)) l in
      for_that (λ (d : ℕ). FoundAt fs t s j at v (d ∷ cs)) c 32 a
      (λ k. space_more fs t s j at cs v w (next_line cs fs t s (suc j) (at + 1) true v (omega arith) w m (space_step fs (Going t) s at cs v k))) h
  | inr a ↦ elim (cases_Bool (c == 10)) [
    | inl f ↦
        let m : all_ended false cs ≡ true = subst (λ (b : Bool). all_ended (not b) cs ≡ true) f l in
        for_that (λ (d : ℕ). FoundAt fs t s j at v (d ∷ cs)) c 10 f
        (λ k. feed_more fs t s j at cs v (next_line cs fs (end_line t) (at + 1) 0 (at + 1) false v (omega arith) (end_waits t) m (feed_step fs t s at cs v k))) h
    | inr f ↦ other_found fs t s j at c cs v e a f (subst (λ (b : Bool). all_ended (not b) cs ≡ true) f l) h
  ]
]

-- ---- characters after one another

-- a space is the last of these
pub record LastSpace (xs : List ℕ) : Type 0 where
  pub before : List ℕ
  pub parts : xs ≡ before ++ 32 ∷ []

last_space : (c : ℕ) (cs : List ℕ) → spaced_after (c == 32) cs ≡ true → LastSpace (c ∷ cs)
last_space c [] h = record { before = []; parts = ap (λ (d : ℕ). d ∷ []) (sym (is_that c 32 h)) }
last_space c (d ∷ ds) h = let r : LastSpace (d ∷ ds) = last_space d ds h in record { before = c ∷ r.before; parts = ap (λ (zs : List ℕ). c ∷ zs) r.parts }

pub some_space : (xs : List ℕ) → spaced_after false xs ≡ true → LastSpace xs
some_space [] h = absurd (let q : false ≡ true = h in cc)
some_space (c ∷ cs) h = last_space c cs h

-- the first of these characters stay in a plain text too
pub stays_before : (flow spaced e : Bool) (xs ys : List ℕ) → stays_plain flow spaced e (xs ++ ys) ≡ true → stays_plain flow spaced (word_ends e ys) xs ≡ true
stays_before flow spaced e [] ys h = refl
stays_before flow spaced e (c ∷ cs) ys h =
    let a = and_parts _ _ h in
    let b : (not (c == 10) && not ((c == 58) && word_ends (word_ends e ys) cs) && not ((c == 35) && spaced) && not (flow && is_flow_sign c)) ≡ true = rw (← word_within cs ys e) a.0 in
    rw (b, stays_before flow (c == 32) e cs ys a.1) refl

blank_text : (m : Seam) (t : Folding) (c : ℕ) → (after_blank m t c).text ≡ t.text
blank_text Inside t c = refl
blank_text Folds t c = refl
blank_text Joins t c = refl

-- a space is no part of the text so far
pub space_text : (xs : List ℕ) (t : Folding) → (with_chars t (xs ++ 32 ∷ [])).text ≡ (with_chars t xs).text
space_text xs t = ap (λ (u : Folding). u.text) (chars_append xs (32 ∷ []) t) ∙ blank_text (with_chars t xs).seam (with_chars t xs) 32
