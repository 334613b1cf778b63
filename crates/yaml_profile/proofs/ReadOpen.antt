-- Where blocks go on and end: the lines after a whole value, and what stands after a colon or dash.
use Rattle.std.proofs.Common.{◌≡◌, ℕ, suc, ◌+◌, ◌-◌, ◌<◌, Bool, true, false, not, ◌&&◌, ◌==◌, nat_lt, nat_le, List, [], ◌∷◌, ◌++◌, length, Result, Ok, ◌⊎◌, inl, inr, if◌then◌else◌, refl, sym, ap, subst, ◌∙◌, arith, append_assoc}
use Rattle.std.specs.Char.{len_utf8}
use Rattle.std.proofs.lemmas.Bool.{and_parts, cases_Bool}
use Rattle.std.proofs.lemmas.Bool.Decides.{nat_tests}
use Rattle.edt_base.specs.YamlData.{Value, a_map, a_list, null, items_from}
use Rattle.yaml_profile.specs.declared.stop.Broken.{Broken}
use Rattle.yaml_profile.specs.declared.front.Role.{Role}
use Rattle.yaml_profile.specs.declared.front.Role.TheVariants.{Value as ValueOnly, Either, Key as KeyOnly}
use Rattle.yaml_profile.specs.Answers.{no_text}
use Rattle.yaml_profile.specs.Signs.{ends_word, begins_mark}
use Rattle.yaml_profile.specs.Fronts.{Frame, InMap, InList, Waiting, Nothing as NothingYet, AtLine, AtValue, InComment, Front, front, pairs_of, all_closed, value_so_far, is_flow, is_full, is_deeper, is_map_at}
use Rattle.yaml_profile.specs.Pieces.{begin_value, open_list, in_at_value}
use Rattle.yaml_profile.specs.Layout.{settle, next_entry, next_item, is_dash, ends_block, begin_on_line, value_on_line, block_line, line_content}
use Rattle.yaml_profile.specs.Reading.{taken, ends}
use Rattle.yaml_profile.specs.Written.{spaces, Ending, Bare, Noted, spell_ending, IsEnding, IsApart, word_ends, is_mark}
use Rattle.yaml_profile.proofs.ReadSteps.{past, is_that, with_returns, ReadsOn, OnFrom, all_ended, step_by, Taken, was_taken, word_ahead, mark_ahead, is_content, Begins, close_line, AtContent, Closed}
use Rattle.yaml_profile.proofs.ReadParts.{LineEnded}
use Rattle.yaml_profile.proofs.ReadGaps.{comment_read, Commented}
use Rattle.yaml_profile.proofs.WrittenKeys.{and_false}

-- ---- lines

pub column_is : (s n : ℕ) → (s + n) - s ≡ n
column_is s n = omega arith

-- how reading goes on after the first character of a line
pub begins_on : (r : ℕ → ℕ → List ℕ → Result Front Broken) (s : ℕ) (rest : List ℕ) (v : Value) (b : Begins r s rest v) → OnFrom (r (s + b.indent) b.first (with_returns b.more)) (s + b.indent + len_utf8 b.first) b.more v
begins_on r s rest v b = subst (λ (q : Result Front Broken). OnFrom q (s + b.indent + len_utf8 b.first) b.more v) (sym b.taken) b.on

-- a line where something begins, as r says
pub begins_by : (r : ℕ → ℕ → List ℕ → Result Front Broken) (s : ℕ) (rest : List ℕ) (v : Value) (n c : ℕ) (more : List ℕ) → rest ≡ spaces n ++ c ∷ more → is_content c ≡ true → all_ended true more ≡ true
    → OnFrom (r (s + n) c (with_returns more)) (s + n + len_utf8 c) more v → Begins r s rest v
begins_by r s rest v n c more p k h on =
    let t : Taken (r (s + n) c (with_returns more)) (s + n + len_utf8 c) more v = was_taken (r (s + n) c (with_returns more)) (s + n + len_utf8 c) more v on in
    record { indent = n; first = c; more = more; parts = p; content = k; ended = h; front = t.front; taken = t.is; on = t.on }

-- a further key of a map at its column
pub record KeyLine (fs : List Frame) (own : ℕ) (keys : List (List ℕ)) (values : List Value) (s : ℕ) (rest : List ℕ) (v : Value) : Type 0 where
  pub first : ℕ
  pub more : List ℕ
  pub parts : rest ≡ spaces own ++ first ∷ more
  pub content : is_content first ≡ true
  pub unmarked : ((own == 0) && is_mark true first more) ≡ false
  pub ended : all_ended true more ≡ true
  pub on : OnFrom (begin_value (InMap own keys values ∷ fs) KeyOnly (s + own) first (with_returns more)) (s + own + len_utf8 first) more v

-- a further dash of a list at its column
pub record DashLine (fs : List Frame) (own : ℕ) (items : List Value) (s : ℕ) (rest : List ℕ) (v : Value) : Type 0 where
  pub more : List ℕ
  pub parts : rest ≡ spaces own ++ 45 ∷ more
  pub word : word_ends true more ≡ true
  pub ended : all_ended true more ≡ true
  pub on : ReadsOn (front (InList own items ∷ fs) (AtValue s true false)) (s + own + 1) more v

abbrev pub MapOn : (fs : List Frame) → (own : ℕ) → List (List ℕ) → List Value → (s : ℕ) → List ℕ → Value → Type 0
MapOn fs own keys values s rest v = Closed fs (a_map (pairs_of keys values)) s rest v ⊎ KeyLine fs own keys values s rest v

abbrev pub ListOn : (fs : List Frame) → (own : ℕ) → List Value → (s : ℕ) → List ℕ → Value → Type 0
ListOn fs own items s rest v = Closed fs (a_list (items_from items)) s rest v ⊎ DashLine fs own items s rest v

-- at its column
key_line : (fs : List Frame) (own : ℕ) (keys : List (List ℕ)) (values : List Value) (s : ℕ) (rest : List ℕ) (v : Value) (n c : ℕ) (more : List ℕ) → own ≡ n → rest ≡ spaces n ++ c ∷ more → is_content c ≡ true → ((n == 0) && is_mark true c more) ≡ false
    → all_ended true more ≡ true → OnFrom (begin_value (InMap own keys values ∷ fs) KeyOnly (s + n) c (with_returns more)) (s + n + len_utf8 c) more v → KeyLine fs own keys values s rest v
key_line fs own keys values s rest v n c more e p k m h on =
    let q : n ≡ own = sym e in
    record { first = c; more = more; parts = rw q at p; content = k; unmarked = rw q at m; ended = h; on = rw q at on }

map_line : (fs : List Frame) (own : ℕ) (keys : List (List ℕ)) (values : List Value) (u : Value) (s : ℕ) (rest : List ℕ) (v : Value) (n c : ℕ) (more : List ℕ) → rest ≡ spaces n ++ c ∷ more → is_content c ≡ true → all_ended true more ≡ true
    → OnFrom (close_line (InMap own keys values ∷ fs) u s (s + n) c (with_returns more)) (s + n + len_utf8 c) more v → MapOn fs own keys (values ++ u ∷ []) s rest v
unfolding settle next_entry
map_line fs own keys values u s rest v n c more p k h on =
    let a = rw (column_is s n) at on in
    elim (cases_Bool ((n == 0) && begins_mark c (with_returns more))) [
      | inl m ↦ absurd (rw m at a)
      | inr m ↦ let b = rw m at a in elim (cases_Bool (nat_lt n own)) [
        | inl d ↦ inl (inr (begins_by (λ at d ds. close_line fs (a_map (pairs_of keys (values ++ u ∷ []))) s at d ds) s rest v n c more p k h (rw (column_is s n, m) (rw d at b))))
        | inr d ↦ let g = rw d at b in elim (cases_Bool (own == n)) [
          | inl e ↦ inr (key_line fs own keys (values ++ u ∷ []) s rest v n c more (sym (is_that own n e)) p k (ap (λ (x : Bool). (n == 0) && x) (sym (mark_ahead more c)) ∙ m) h (rw e at g))
          | inr e ↦ absurd (rw e at g)
        ]
      ]
    ]

pub map_on : (fs : List Frame) (own : ℕ) (keys : List (List ℕ)) (values : List Value) (u : Value) (s : ℕ) (rest : List ℕ) (v : Value) → Closed (InMap own keys values ∷ fs) u s rest v → MapOn fs own keys (values ++ u ∷ []) s rest v
map_on fs own keys values u s rest v (inl e) = inl (inl e)
map_on fs own keys values u s rest v (inr b) = map_line fs own keys values u s rest v b.indent b.first b.more b.parts b.content b.ended (begins_on (λ at c more. close_line (InMap own keys values ∷ fs) u s at c more) s rest v b)

no_item : (b : Bool) (x y : ℕ) (at : ℕ) (more : List ℕ) (v : Value) → OnFrom (if b then no_text x else no_text y) at more v → ⊥
no_item true x y at more v h = h
no_item false x y at more v h = h

-- at its column
dash_line : (fs : List Frame) (own : ℕ) (items : List Value) (s : ℕ) (rest : List ℕ) (v : Value) (n c : ℕ) (more : List ℕ) → own ≡ n → rest ≡ spaces n ++ c ∷ more → is_dash c (with_returns more) ≡ true
    → all_ended true more ≡ true → ReadsOn (front (InList own items ∷ fs) (AtValue s true false)) (s + n + len_utf8 c) more v → DashLine fs own items s rest v
dash_line fs own items s rest v n c more e p k h on =
    let q : n ≡ own = sym e in
    let parts : (c == 45 ≡ true) × (ends_word (with_returns more) ≡ true) = and_parts _ _ k in
    let d : c ≡ 45 = sym (is_that c 45 parts.0) in
    record { more = more; parts = rw (q, d) at p; word = rw (word_ahead more) at parts.1; ended = h; on = rw (q, d) at on }

list_line : (fs : List Frame) (own : ℕ) (items : List Value) (u : Value) (s : ℕ) (rest : List ℕ) (v : Value) (n c : ℕ) (more : List ℕ) → rest ≡ spaces n ++ c ∷ more → is_content c ≡ true → all_ended true more ≡ true
    → OnFrom (close_line (InList own items ∷ fs) u s (s + n) c (with_returns more)) (s + n + len_utf8 c) more v → ListOn fs own (items ++ u ∷ []) s rest v
unfolding settle next_entry next_item
list_line fs own items u s rest v n c more p k h on =
    let a = rw (column_is s n) at on in
    elim (cases_Bool ((n == 0) && begins_mark c (with_returns more))) [
      | inl m ↦ absurd (rw m at a)
      | inr m ↦ let b = rw m at a in elim (cases_Bool (ends_block (InList own items) fs n (is_dash c (with_returns more)))) [
        | inl d ↦ inl (inr (begins_by (λ at d ds. close_line fs (a_list (items_from (items ++ u ∷ []))) s at d ds) s rest v n c more p k h (rw (column_is s n, m) (rw d at b))))
        | inr d ↦ let g = rw d at b in elim (cases_Bool (own == n)) [
          | inl e ↦ let i = rw e at g in elim (cases_Bool (is_dash c (with_returns more))) [
            | inl x ↦ inr (dash_line fs own (items ++ u ∷ []) s rest v n c more (sym (is_that own n e)) p x h (rw x at i))
            | inr x ↦ absurd (no_item (c == 45) _ _ _ _ _ (rw x at i))
          ]
          | inr e ↦ absurd (rw e at g)
        ]
      ]
    ]

pub list_on : (fs : List Frame) (own : ℕ) (items : List Value) (u : Value) (s : ℕ) (rest : List ℕ) (v : Value) → Closed (InList own items ∷ fs) u s rest v → ListOn fs own (items ++ u ∷ []) s rest v
list_on fs own items u s rest v (inl e) = inl (inl e)
list_on fs own items u s rest v (inr b) = list_line fs own items u s rest v b.indent b.first b.more b.parts b.content b.ended (begins_on (λ at c more. close_line (InList own items ∷ fs) u s at c more) s rest v b)

-- ---- after a colon or dash

abbrev pub role_at : (mapped : Bool) → (start at : ℕ) → Role
role_at mapped start at = if mapped then Either (at - start) else ValueOnly

-- a value begins on the line
pub record ValueAhead (fs : List Frame) (start : ℕ) (mapped : Bool) (at : ℕ) (xs : List ℕ) (v : Value) : Type 0 where
  pub spaced : ℕ
  pub first : ℕ
  pub more : List ℕ
  pub parts : xs ≡ spaces spaced ++ first ∷ more
  pub space : (first == 32) ≡ false
  pub feed : (first == 10) ≡ false
  pub ended : all_ended true more ≡ true
  pub on : OnFrom (begin_value fs (role_at mapped start (past at (spaces spaced))) (past at (spaces spaced)) first (with_returns more)) (past at (spaces spaced) + len_utf8 first) more v

-- the line ends, with a comment only after a space
abbrev pub EndAhead : List Frame → (spaced : Bool) → (at : ℕ) → List ℕ → Value → Type 0
EndAhead fs sp at xs v = (e : LineEnded fs NothingYet at xs v) × (sp ≡ false → IsApart e.ending)

abbrev pub Ahead : List Frame → (start : ℕ) → (mapped spaced : Bool) → (at : ℕ) → List ℕ → Value → Type 0
Ahead fs start mapped sp at xs v = EndAhead fs sp at xs v ⊎ ValueAhead fs start mapped at xs v

-- with one space more
space_end : (fs : List Frame) (sp : Bool) (at : ℕ) (cs : List ℕ) (v : Value) (e : Ending) (rest : List ℕ) → cs ≡ spell_ending e ++ rest → IsEnding e → all_ended false rest ≡ true
    → ReadsOn (front fs (AtLine (past (at + 1) (spell_ending e)) NothingYet)) (past (at + 1) (spell_ending e)) rest v → EndAhead fs sp at (32 ∷ cs) v
space_end fs sp at cs v (Bare n) rest p k h on = (record { ending = Bare (suc n); rest = rest; parts = ap (λ zs. 32 ∷ zs) p; is = k; on = on; ended = h }, λ q. tt)
space_end fs sp at cs v (Noted n text) rest p k h on = (record { ending = Noted (suc n) text; rest = rest; parts = ap (λ zs. 32 ∷ zs) p; is = k; on = on; ended = h }, λ q. omega arith)

space_more : (fs : List Frame) (start : ℕ) (mapped sp : Bool) (at : ℕ) (cs : List ℕ) (v : Value) → Ahead fs start mapped true (at + 1) cs v → Ahead fs start mapped sp at (32 ∷ cs) v
space_more fs start mapped sp at cs v (inl e) = inl (space_end fs sp at cs v e.0.ending e.0.rest e.0.parts e.0.is e.0.ended e.0.on)
space_more fs start mapped sp at cs v (inr b) = inr (record { spaced = suc b.spaced; first = b.first; more = b.more; parts = ap (λ zs. 32 ∷ zs) b.parts; space = b.space; feed = b.feed; ended = b.ended; on = b.on })

at_space : (fs : List Frame) (start : ℕ) (mapped sp : Bool) (at c : ℕ) (rest : List ℕ) → (c == 32) ≡ true → taken fs (AtValue start mapped sp) at c rest ≡ Ok (front fs (AtValue start mapped true))
unfolding taken in_at_value
at_space fs start mapped sp at c rest e = rw e refl

at_feed : (fs : List Frame) (start : ℕ) (mapped sp : Bool) (at c : ℕ) (rest : List ℕ) → (c == 32) ≡ false → (c == 10) ≡ true → taken fs (AtValue start mapped sp) at c rest ≡ Ok (front fs (AtLine (at + 1) NothingYet))
unfolding taken in_at_value
at_feed fs start mapped sp at c rest e g = rw (e, g) refl

at_comment : (fs : List Frame) (start : ℕ) (mapped sp : Bool) (at c : ℕ) (rest : List ℕ) → (c == 32) ≡ false → (c == 10) ≡ false → ((c == 35) && sp) ≡ true → taken fs (AtValue start mapped sp) at c rest ≡ Ok (front fs (InComment NothingYet))
unfolding taken in_at_value
at_comment fs start mapped sp at c rest e g i = rw (e, g, i) refl

at_value : (fs : List Frame) (start : ℕ) (mapped sp : Bool) (at c : ℕ) (rest : List ℕ) → is_flow fs ≡ false → (c == 32) ≡ false → (c == 10) ≡ false → ((c == 35) && sp) ≡ false
    → taken fs (AtValue start mapped sp) at c rest ≡ begin_value fs (role_at mapped start at) at c rest
unfolding taken in_at_value
at_value fs start mapped sp at c rest f e g i = let q : ((c == 93) && is_flow fs) ≡ false = rw f (and_false (c == 93)) in rw (e, g, i, q) refl

feed_ahead : (fs : List Frame) (at : ℕ) (sp : Bool) (c : ℕ) (cs : List ℕ) (v : Value) → (c == 10) ≡ true → all_ended (not (c == 10)) cs ≡ true → ReadsOn (front fs (AtLine (at + 1) NothingYet)) (at + len_utf8 c) cs v → EndAhead fs sp at (c ∷ cs) v
feed_ahead fs at sp c cs v e h on =
    let d : c ≡ 10 = sym (is_that c 10 e) in
    (record { ending = Bare 0; rest = cs; parts = ap (λ k. k ∷ cs) d; is = tt; on = rw d at on; ended = rw e at h }, λ q. tt)

comment_end : (fs : List Frame) (at : ℕ) (sp : Bool) (cs : List ℕ) (v : Value) → sp ≡ true → Commented fs NothingYet (at + 1) cs v → EndAhead fs sp at (35 ∷ cs) v
comment_end fs at sp cs v e m = (
  record {
    ending = Noted 0 m.text;
    rest = m.rest;
    parts = ap (λ zs. 35 ∷ zs) (m.parts ∙ sym (append_assoc m.text (10 ∷ []) m.rest));
    is = m.inner;
    on = m.on;
    ended = m.ended;
  },
  λ q. absurd (let r : true ≡ false = sym e ∙ q in cc),
)

comment_ahead : (fs : List Frame) (at : ℕ) (sp : Bool) (c : ℕ) (cs : List ℕ) (v : Value) → ((c == 35) && sp) ≡ true → all_ended true cs ≡ true → ReadsOn (front fs (InComment NothingYet)) (at + len_utf8 c) cs v → EndAhead fs sp at (c ∷ cs) v
comment_ahead fs at sp c cs v e h on =
    let both : ((c == 35) ≡ true) × (sp ≡ true) = and_parts _ _ e in
    let d : c ≡ 35 = sym (is_that c 35 both.0) in
    rw d (comment_end fs at sp cs v both.1 (comment_read fs NothingYet (at + 1) cs v (rw d at on) h))

pub ahead : (fs : List Frame) (start : ℕ) (mapped sp : Bool) (at : ℕ) (xs : List ℕ) (v : Value) → is_flow fs ≡ false → all_ended true xs ≡ true → ReadsOn (front fs (AtValue start mapped sp)) at xs v → Ahead fs start mapped sp at xs v
ahead fs start mapped sp at [] v f h on = absurd (let q : false ≡ true = h in cc)
ahead fs start mapped sp at (c ∷ cs) v f h on = elim (cases_Bool (c == 32)) [
  | inl e ↦
      let d : c ≡ 32 = sym (is_that c 32 e) in
      let g : ReadsOn (front fs (AtValue start mapped true)) (at + 1) cs v = rw d at (step_by fs (AtValue start mapped sp) (Ok (front fs (AtValue start mapped true))) at c cs v (at_space fs start mapped sp at c (with_returns cs) e) on) in
      let k : all_ended true cs ≡ true = rw d at h in
      subst (λ x. Ahead fs start mapped sp at (x ∷ cs) v) (sym d) (space_more fs start mapped sp at cs v (ahead fs start mapped true (at + 1) cs v f k g))
  | inr e ↦ elim (cases_Bool (c == 10)) [
    | inl g ↦ inl (feed_ahead fs at sp c cs v g h (step_by fs (AtValue start mapped sp) (Ok (front fs (AtLine (at + 1) NothingYet))) at c cs v (at_feed fs start mapped sp at c (with_returns cs) e g) on))
    | inr g ↦ let k : all_ended true cs ≡ true = rw g at h in elim (cases_Bool ((c == 35) && sp)) [
      | inl i ↦ inl (comment_ahead fs at sp c cs v i k (step_by fs (AtValue start mapped sp) (Ok (front fs (InComment NothingYet))) at c cs v (at_comment fs start mapped sp at c (with_returns cs) e g i) on))
      | inr i ↦ inr (record {
        spaced = 0;
        first = c;
        more = cs;
        parts = refl;
        space = e;
        feed = g;
        ended = k;
        on = step_by fs (AtValue start mapped sp) (begin_value fs (role_at mapped start at) at c (with_returns cs)) at c cs v (at_value fs start mapped sp at c (with_returns cs) f e g i) on;
      })
    ]
  ]
]

-- ---- a line where a value may begin

-- a list begins
pub record ListAhead (fs : List Frame) (s : ℕ) (rest : List ℕ) (v : Value) : Type 0 where
  pub column : ℕ
  pub more : List ℕ
  pub parts : rest ≡ spaces column ++ 45 ∷ more
  pub word : word_ends true more ≡ true
  pub ended : all_ended true more ≡ true
  pub stands : (is_deeper column fs ≡ true) ⊎ (is_map_at column fs ≡ true)
  pub level : length fs < 32
  pub on : ReadsOn (front (InList column [] ∷ fs) (AtValue s true false)) (s + column + 1) more v

-- a map, or a value that is no block
pub record TextAhead (fs : List Frame) (s : ℕ) (rest : List ℕ) (v : Value) : Type 0 where
  pub column : ℕ
  pub first : ℕ
  pub more : List ℕ
  pub parts : rest ≡ spaces column ++ first ∷ more
  pub content : is_content first ≡ true
  pub unmarked : ((column == 0) && is_mark true first more) ≡ false
  pub ended : all_ended true more ≡ true
  pub deep : is_deeper column fs ≡ true
  pub on : OnFrom (begin_value fs (Either column) (s + column) first (with_returns more)) (s + column + len_utf8 first) more v

abbrev pub BlockAhead : List Frame → (s : ℕ) → (rest : List ℕ) → Value → Type 0
BlockAhead fs s rest v = ListAhead fs s rest v ⊎ TextAhead fs s rest v

-- nothing that belongs to the value, or a block
abbrev pub Awaited : List Frame → (s : ℕ) → (rest : List ℕ) → Value → Type 0
Awaited fs s rest v = Closed fs null s rest v ⊎ BlockAhead fs s rest v

pub not_full : (n : ℕ) → nat_le 32 n ≡ false → n < 32
not_full n h = grind (arith, nat_tests)

list_ahead : (fs : List Frame) (s : ℕ) (rest : List ℕ) (v : Value) (n c : ℕ) (more : List ℕ) → rest ≡ spaces n ++ c ∷ more → is_dash c (with_returns more) ≡ true → all_ended true more ≡ true
    → (is_deeper n fs ≡ true) ⊎ (is_map_at n fs ≡ true) → OnFrom (open_list fs s n (s + n)) (s + n + len_utf8 c) more v → ListAhead fs s rest v
unfolding open_list
list_ahead fs s rest v n c more p k h w on =
    let parts : ((c == 45) ≡ true) × (ends_word (with_returns more) ≡ true) = and_parts _ _ k in
    let d : c ≡ 45 = sym (is_that c 45 parts.0) in
    elim (cases_Bool (is_full fs)) [
      | inl e ↦ absurd (rw e at on)
      | inr e ↦ record { column = n; more = more; parts = rw d at p; word = rw (word_ahead more) at parts.1; ended = h; stands = w; level = not_full (length fs) e; on = rw d at (rw e at on) }
    ]

text_ahead : (fs : List Frame) (s : ℕ) (rest : List ℕ) (v : Value) (n c : ℕ) (more : List ℕ) → rest ≡ spaces n ++ c ∷ more → is_content c ≡ true → all_ended true more ≡ true → ((n == 0) && begins_mark c (with_returns more)) ≡ false
    → is_deeper n fs ≡ true → OnFrom (begin_on_line fs s (s + n) c (with_returns more)) (s + n + len_utf8 c) more v → BlockAhead fs s rest v
unfolding begin_on_line
text_ahead fs s rest v n c more p k h m d on =
    let a = rw (column_is s n) at on in
    elim (cases_Bool (is_dash c (with_returns more))) [
      | inl e ↦ inl (list_ahead fs s rest v n c more p e h (inl d) (rw e at a))
      | inr e ↦ inr (record { column = n; first = c; more = more; parts = p; content = k; unmarked = ap (λ (x : Bool). (n == 0) && x) (sym (mark_ahead more c)) ∙ m; ended = h; deep = d; on = rw e at a })
    ]

pub awaited : (fs : List Frame) (s : ℕ) (rest : List ℕ) (v : Value) (n c : ℕ) (more : List ℕ) → rest ≡ spaces n ++ c ∷ more → is_content c ≡ true → all_ended true more ≡ true → ((n == 0) && begins_mark c (with_returns more)) ≡ false
    → OnFrom (value_on_line fs s (s + n) c (with_returns more)) (s + n + len_utf8 c) more v → Awaited fs s rest v
unfolding value_on_line
awaited fs s rest v n c more p k h m on =
    let a = rw (column_is s n) at on in
    elim (cases_Bool (is_deeper n fs)) [
      | inl d ↦ inr (text_ahead fs s rest v n c more p k h m d (rw d at a))
      | inr d ↦ let b = rw d at a in elim (cases_Bool (is_map_at n fs && is_dash c (with_returns more))) [
        | inl e ↦ let both : (is_map_at n fs ≡ true) × (is_dash c (with_returns more) ≡ true) = and_parts _ _ e in inr (inl (list_ahead fs s rest v n c more p both.1 h (inr both.0) (rw e at b)))
        | inr e ↦ inl (inr (begins_by (λ at d ds. close_line fs null s at d ds) s rest v n c more p k h (rw (column_is s n, m) (rw e at b))))
      ]
    ]

nothing_line : (fs : List Frame) (s : ℕ) (rest : List ℕ) (v : Value) (n c : ℕ) (more : List ℕ) → rest ≡ spaces n ++ c ∷ more → is_content c ≡ true → all_ended true more ≡ true → is_flow fs ≡ false
    → OnFrom (line_content fs NothingYet s (s + n) c (with_returns more)) (s + n + len_utf8 c) more v → Awaited fs s rest v
unfolding line_content block_line
nothing_line fs s rest v n c more p k h f on =
    let a = rw (f, column_is s n) at on in
    elim (cases_Bool ((n == 0) && begins_mark c (with_returns more))) [
      | inl m ↦ absurd (rw m at a)
      | inr m ↦ awaited fs s rest v n c more p k h m (rw m at a)
    ]

pub nothing_ends : (fs : List Frame) (w : Waiting) (s : ℕ) (v : Value) → is_flow fs ≡ false → ends fs (AtLine s w) s ≡ Ok v → all_closed fs (value_so_far w) ≡ v
unfolding ends
nothing_ends fs w s v f h = let g : ◌≡◌ {A = Result Value Broken} (Ok (all_closed fs (value_so_far w))) (Ok v) = rw f at h in cc

-- after a line end where nothing stood yet
pub nothing_yet : (fs : List Frame) (s : ℕ) (rest : List ℕ) (v : Value) → is_flow fs ≡ false → AtContent fs NothingYet s rest v → Awaited fs s rest v
nothing_yet fs s rest v f (inl e) = inl (inl (e.0, nothing_ends fs NothingYet s v f e.1))
nothing_yet fs s rest v f (inr b) = nothing_line fs s rest v b.indent b.first b.more b.parts b.content b.ended f (begins_on (λ at c more. line_content fs NothingYet s at c more) s rest v b)
