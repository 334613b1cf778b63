-- Quoted texts: what is found of them where they begin.
use Rattle.std.proofs.Common.{◌≡◌, ℕ, zero, suc, ◌+◌, ◌≤◌, Bool, true, false, ◌==◌, List, [], ◌∷◌, ◌++◌, length, Option, Result, Ok, ◌⊎◌, inl, inr, refl, sym, ap, subst, ◌∙◌, arith, append_assoc}
use Rattle.std.specs.List.{list_any}
use Rattle.std.specs.Char.{len_utf8}
use Rattle.std.proofs.lemmas.Bool.{cases_Bool}
use Rattle.edt_base.specs.YamlData.{Value, a_text}
use Rattle.yaml_profile.specs.declared.stop.Broken.{Broken}
use Rattle.yaml_profile.specs.declared.front.Role.{Role}
use Rattle.yaml_profile.specs.declared.front.Role.TheVariants.{Value as ValueOnly, Either, Key as KeyOnly}
use Rattle.yaml_profile.specs.Answers.{no_text}
use Rattle.yaml_profile.specs.Signs.{is_blank, begins_with, ends_word}
use Rattle.yaml_profile.specs.Folding.{Folding, nothing_yet, put, end_line, caught_up}
use Rattle.yaml_profile.specs.Fronts.{Frame, Whole, InSingle, AtSecondQuote, InDouble, AfterQuoted, Front, front, is_flow}
use Rattle.yaml_profile.specs.Pieces.{key_of, is_key_only, quoted_key, in_after_quoted, in_after_value, in_single, at_second_quote, single_line}
use Rattle.yaml_profile.specs.Reading.{taken, ends}
use Rattle.yaml_profile.specs.Written.{spaces, word_ends, spell_inners, with_char, with_chars, double_text, is_line_end, spell_singles, single_text, is_feed, Scalar, Double, Single, spell_scalar, IsScalarText, scalar_value, ends_before, Text, Key, DoubleKey, SingleKey, spell_key, key_text, IsKey}
use Rattle.yaml_profile.proofs.ReadSteps.{past, past_append, with_returns, ReadsOn, OnFrom, all_ended, step_by, was_taken, word_ahead, first_ahead}
use Rattle.yaml_profile.proofs.ReadParts.{ItemEnded, FlowText, Keyed, LeafRead, ValueRead}
use Rattle.yaml_profile.proofs.ReadInners.{RoleBehind, behind_both, DoubleRead, inners_read}
use Rattle.yaml_profile.proofs.ReadGaps.{for_that, still_within, reads_end, AfterRead, space_before, after_char, ended_after, leaf_of, item_of}

-- ---- after a quoted text

-- the colon of a key
record ColonRead (fs : List Frame) (text : List ℕ) (role : Role) (begun at : ℕ) (xs : List ℕ) (v : Value) : Type 0 where
  indent : ℕ
  rest : List ℕ
  parts : xs ≡ spaces indent ++ 58 ∷ rest
  word : word_ends true rest ≡ true
  fails : ℕ
  front : Front
  named : key_of fs role text begun fails ≡ Ok front
  on : ReadsOn front (past at (spaces indent ++ 58 ∷ [])) rest v
  ended : all_ended true rest ≡ true

-- a key's colon, or what stands after a value
abbrev QuotedAfter : List Frame → (text : List ℕ) → Role → (begun : ℕ) → (spaced : Bool) → (at : ℕ) → List ℕ → Value → Type 0
QuotedAfter fs text role begun spaced at xs v = ColonRead fs text role begun at xs v ⊎ ((is_key_only role ≡ false) × AfterRead fs (Whole (a_text text)) spaced at xs v)

no_key : {A : Type 0} (fs : List Frame) (key : List ℕ) (begun fails : ℕ) (f : Front) → key_of fs ValueOnly key begun fails ≡ Ok f → A
unfolding key_of
no_key fs key begun fails f h = absurd (let q : ◌≡◌ {A = Result Front Broken} (no_text fails) (Ok f) = h in cc)

no_word : (fs : List Frame) (text : List ℕ) (role : Role) (begun at p : ℕ) (cs : List ℕ) (v : Value) → ends_word (with_returns cs) ≡ false → OnFrom (quoted_key fs text role begun at (with_returns cs)) p cs v → ⊥
unfolding key_of
no_word fs text ValueOnly begun at p cs v e h = rw e at h
no_word fs text (Either column) begun at p cs v e h = rw e at h
no_word fs text KeyOnly begun at p cs v e h = rw e at h

colon_read : (fs : List Frame) (text : List ℕ) (role : Role) (begun at : ℕ) (cs : List ℕ) (v : Value) → all_ended true cs ≡ true → OnFrom (quoted_key fs text role begun at (with_returns cs)) (at + 1) cs v → ColonRead fs text role begun at (58 ∷ cs) v
colon_read fs text role begun at cs v lined h = elim (cases_Bool (ends_word (with_returns cs))) [
  | inl e ↦
      let r = was_taken (key_of fs role text begun at) (at + 1) cs v (rw e at h) in
      record { indent = 0; rest = cs; parts = refl; word = sym (word_ahead cs) ∙ e; fails = at; front = r.front; named = r.is; on = r.on; ended = lined }
  | inr e ↦ absurd (no_word fs text role begun at (at + 1) cs v e h)
]

colon_spaced : (fs : List Frame) (text : List ℕ) (role : Role) (begun at : ℕ) (cs : List ℕ) (v : Value) → ColonRead fs text role begun (at + 1) cs v → ColonRead fs text role begun at (32 ∷ cs) v
colon_spaced fs text role begun at cs v r = record {
  indent = suc r.indent;
  rest = r.rest;
  parts = ap (λ zs. 32 ∷ zs) r.parts;
  word = r.word;
  fails = r.fails;
  front = r.front;
  named = r.named;
  on = r.on;
  ended = r.ended;
}

quoted_spaced : (fs : List Frame) (text : List ℕ) (role : Role) (begun : ℕ) (spaced : Bool) (at : ℕ) (cs : List ℕ) (v : Value) → QuotedAfter fs text role begun true (at + 1) cs v → QuotedAfter fs text role begun spaced at (32 ∷ cs) v
quoted_spaced fs text role begun spaced at cs v (inl r) = inl (colon_spaced fs text role begun at cs v r)
quoted_spaced fs text role begun spaced at cs v (inr r) = inr (r.0, space_before fs (Whole (a_text text)) spaced true at cs v r.1)

quoted_space : (fs : List Frame) (text : List ℕ) (role : Role) (begun : ℕ) (spaced : Bool) (at : ℕ) (rest : List ℕ) → taken fs (AfterQuoted text role begun spaced) at 32 rest ≡ Ok (front fs (AfterQuoted text role begun true))
unfolding taken in_after_quoted
quoted_space fs text role begun spaced at rest = refl

quoted_colon : (fs : List Frame) (text : List ℕ) (role : Role) (begun : ℕ) (spaced : Bool) (at : ℕ) (rest : List ℕ) → taken fs (AfterQuoted text role begun spaced) at 58 rest ≡ quoted_key fs text role begun at rest
unfolding taken in_after_quoted
quoted_colon fs text role begun spaced at rest = refl

quoted_none : (fs : List Frame) (text : List ℕ) (role : Role) (begun : ℕ) (spaced : Bool) (at c : ℕ) (rest : List ℕ) → (c == 32) ≡ false → (c == 58) ≡ false → is_key_only role ≡ true
    → taken fs (AfterQuoted text role begun spaced) at c rest ≡ no_text at
unfolding taken in_after_quoted
quoted_none fs text role begun spaced at c rest a b k = rw (a, b, k) refl

quoted_char : (fs : List Frame) (text : List ℕ) (role : Role) (begun : ℕ) (spaced : Bool) (at c : ℕ) (rest : List ℕ) → (c == 32) ≡ false → (c == 58) ≡ false → is_key_only role ≡ false
    → taken fs (AfterQuoted text role begun spaced) at c rest ≡ in_after_value fs (Whole (a_text text)) spaced at c
unfolding taken in_after_quoted
quoted_char fs text role begun spaced at c rest a b k = rw (a, b, k) refl

quoted_other : (fs : List Frame) (text : List ℕ) (role : Role) (begun : ℕ) (spaced : Bool) (at c : ℕ) (cs : List ℕ) (v : Value) → (c == 32) ≡ false → (c == 58) ≡ false → all_ended true (c ∷ cs) ≡ true
    → ReadsOn (front fs (AfterQuoted text role begun spaced)) at (c ∷ cs) v → QuotedAfter fs text role begun spaced at (c ∷ cs) v
quoted_other fs text role begun spaced at c cs v a b lined h = elim (cases_Bool (is_key_only role)) [
  | inl k ↦ absurd (step_by fs (AfterQuoted text role begun spaced) (no_text at) at c cs v (quoted_none fs text role begun spaced at c (with_returns cs) a b k) h)
  | inr k ↦ inr (
    k,
    after_char fs (Whole (a_text text)) spaced at c cs v a lined
        (step_by fs (AfterQuoted text role begun spaced) (in_after_value fs (Whole (a_text text)) spaced at c) at c cs v (quoted_char fs text role begun spaced at c (with_returns cs) a b k) h),
  )
]

quoted_after : (fs : List Frame) (text : List ℕ) (role : Role) (begun : ℕ) (spaced : Bool) (at : ℕ) (xs : List ℕ) (v : Value) → all_ended true xs ≡ true
    → ReadsOn (front fs (AfterQuoted text role begun spaced)) at xs v → QuotedAfter fs text role begun spaced at xs v
quoted_after fs text role begun spaced at [] v lined h = absurd (let q : false ≡ true = lined in cc)
quoted_after fs text role begun spaced at (c ∷ cs) v lined h =
    let Q : ℕ → Type 0 = λ d. all_ended true (d ∷ cs) ≡ true → ReadsOn (front fs (AfterQuoted text role begun spaced)) at (d ∷ cs) v → QuotedAfter fs text role begun spaced at (d ∷ cs) v in
    elim (cases_Bool (c == 32)) [
      | inl e ↦ for_that Q c 32 e (λ l g. quoted_spaced fs text role begun spaced at cs v (quoted_after fs text role begun true (at + 1) cs v l
          (step_by fs (AfterQuoted text role begun spaced) (Ok (front fs (AfterQuoted text role begun true))) at 32 cs v (quoted_space fs text role begun spaced at (with_returns cs)) g))) lined h
      | inr a ↦ elim (cases_Bool (c == 58)) [
        | inl e ↦ for_that Q c 58 e (λ l g. inl (colon_read fs text role begun at cs v l
            (step_by fs (AfterQuoted text role begun spaced) (quoted_key fs text role begun at (with_returns cs)) at 58 cs v (quoted_colon fs text role begun spaced at (with_returns cs)) g))) lined h
        | inr b ↦ quoted_other fs text role begun spaced at c cs v a b lined h
      ]
    ]

-- ---- a quoted text, from its first quote on

no_key_only : (lined : Bool) (role later : Role) → RoleBehind lined role later → is_key_only later ≡ false → is_key_only role ≡ false
no_key_only true role later g k = g.0
no_key_only false role later g k = subst (λ (r : Role). is_key_only r ≡ false) g k

-- a key of this text, spelled as the scalar and spaces
record KeyOf (scalar : Scalar) (text : List ℕ) (n : ℕ) : Type 0 where
  key : Key
  spells : spell_key key ≡ spell_scalar scalar ++ spaces n
  says : key_text key ≡ text
  is : (place : Option ℕ) → IsKey place key

record QuotedText (fs : List Frame) (role : Role) (at : ℕ) (xs : List ℕ) (v : Value) : Type 0 where
  scalar : Scalar
  text : List ℕ
  value : scalar_value scalar ≡ a_text text
  rest : List ℕ
  parts : xs ≡ spell_scalar scalar ++ rest
  is : (place : Option ℕ) (flow after : Bool) (least : ℕ) → IsScalarText place flow after least scalar
  lined : Bool
  later : Role
  turned : RoleBehind lined role later
  key : lined ≡ false → (n : ℕ) → KeyOf scalar text n
  on : ReadsOn (front fs (AfterQuoted text later at false)) (past at (spell_scalar scalar)) rest v
  ended : all_ended true rest ≡ true

key_of_text : (fs : List Frame) (role : Role) (place : Option ℕ) (at : ℕ) (xs : List ℕ) (v : Value) → (q : QuotedText fs role at xs v) → (c : ColonRead fs q.text role at (past at (spell_scalar q.scalar)) q.rest v)
    → KeyOf q.scalar q.text c.indent → Keyed fs role place at xs v
key_of_text fs role place at xs v q c k =
    let p : past at (spell_key k.key ++ 58 ∷ []) ≡ past (past at (spell_scalar q.scalar)) (spaces c.indent ++ 58 ∷ []) =
    ap (λ zs. past at (zs ++ 58 ∷ [])) k.spells ∙ (ap (past at) (append_assoc (spell_scalar q.scalar) (spaces c.indent) (58 ∷ [])) ∙ past_append (spell_scalar q.scalar) (spaces c.indent ++ 58 ∷ []) at) in
    record {
      key = k.key;
      rest = c.rest;
      parts = q.parts ∙ (ap (λ zs. spell_scalar q.scalar ++ zs) c.parts ∙ (sym (append_assoc (spell_scalar q.scalar) (spaces c.indent) (58 ∷ c.rest)) ∙ ap (λ zs. zs ++ 58 ∷ c.rest) (sym k.spells)));
      is = k.is place;
      word = c.word;
      begun = at;
      fails = c.fails;
      front = c.front;
      named = subst (λ (t : List ℕ). key_of fs role t at c.fails ≡ Ok c.front) (sym k.says) c.named;
      on = subst (λ (m : ℕ). ReadsOn c.front m c.rest v) (sym p) c.on;
      ended = c.ended;
    }

colon_keyed : (fs : List Frame) (role : Role) (place : Option ℕ) (at : ℕ) (xs : List ℕ) (v : Value) → (q : QuotedText fs role at xs v) → (lined : Bool) → q.lined ≡ lined → RoleBehind lined role q.later
    → ColonRead fs q.text q.later at (past at (spell_scalar q.scalar)) q.rest v → Keyed fs role place at xs v
colon_keyed fs role place at xs v q true e turned c = no_key fs q.text at c.fails c.front (subst (λ (r : Role). key_of fs r q.text at c.fails ≡ Ok c.front) turned.1 c.named)
colon_keyed fs role place at xs v q false e turned c =
    let d : ColonRead fs q.text role at (past at (spell_scalar q.scalar)) q.rest v = subst (λ (r : Role). ColonRead fs q.text r at (past at (spell_scalar q.scalar)) q.rest v) turned c in
    key_of_text fs role place at xs v q d (q.key e d.indent)

quoted_leaf : (fs : List Frame) (role : Role) (place : Option ℕ) (least level at : ℕ) (xs : List ℕ) (v : Value) → is_flow fs ≡ false → (q : QuotedText fs role at xs v)
    → AfterRead fs (Whole (a_text q.text)) false (past at (spell_scalar q.scalar)) q.rest v → LeafRead fs place least level at xs v
quoted_leaf fs role place least level at xs v flow q h =
    let a : AfterRead fs (Whole (scalar_value q.scalar)) false (past at (spell_scalar q.scalar)) q.rest v =
    subst (λ (u : Value). AfterRead fs (Whole u) false (past at (spell_scalar q.scalar)) q.rest v) (sym q.value) h in
    let e = ended_after fs (Whole (scalar_value q.scalar)) false (past at (spell_scalar q.scalar)) q.rest v flow a in
    leaf_of fs place least level at (Text q.scalar) xs q.rest v q.parts (q.is place false true least) flow e.0 (e.1 refl)

value_of : (fs : List Frame) (role : Role) (place : Option ℕ) (least level at : ℕ) (xs : List ℕ) (v : Value) → is_flow fs ≡ false → (q : QuotedText fs role at xs v)
    → QuotedAfter fs q.text q.later at false (past at (spell_scalar q.scalar)) q.rest v → ValueRead fs role place least level at xs v
value_of fs role place least level at xs v flow q (inl c) = inl (colon_keyed fs role place at xs v q q.lined refl q.turned c)
value_of fs role place least level at xs v flow q (inr h) = inr (no_key_only q.lined role q.later q.turned h.0, quoted_leaf fs role place least level at xs v flow q h.1)

-- outside flow lists
quoted_value : (fs : List Frame) (role : Role) (place : Option ℕ) (least level at : ℕ) (xs : List ℕ) (v : Value) → is_flow fs ≡ false → QuotedText fs role at xs v → ValueRead fs role place least level at xs v
quoted_value fs role place least level at xs v flow q = value_of fs role place least level at xs v flow q (quoted_after fs q.text q.later at false (past at (spell_scalar q.scalar)) q.rest v q.ended q.on)

value_only : (lined : Bool) (later : Role) → RoleBehind lined ValueOnly later → later ≡ ValueOnly
value_only true later h = h.1
value_only false later h = h

item_part : (fs : List Frame) (at : ℕ) (xs : List ℕ) (v : Value) → is_flow fs ≡ true → (q : QuotedText fs ValueOnly at xs v)
    → QuotedAfter fs q.text q.later at false (past at (spell_scalar q.scalar)) q.rest v → ItemEnded fs (scalar_value q.scalar) (past at (spell_scalar q.scalar)) q.rest v
item_part fs at xs v flow q (inl c) = no_key fs q.text at c.fails c.front (subst (λ (r : Role). key_of fs r q.text at c.fails ≡ Ok c.front) (value_only q.lined q.later q.turned) c.named)
item_part fs at xs v flow q (inr h) = subst (λ (u : Value). ItemEnded fs u (past at (spell_scalar q.scalar)) q.rest v) (sym q.value) (item_of fs (a_text q.text) (past at (spell_scalar q.scalar)) q.rest v flow h.1)

-- in flow lists
quoted_item : (fs : List Frame) (place : Option ℕ) (least at : ℕ) (xs : List ℕ) (v : Value) → is_flow fs ≡ true → QuotedText fs ValueOnly at xs v → FlowText fs place least at xs v
quoted_item fs place least at xs v flow q =
    let i : ItemEnded fs (scalar_value q.scalar) (past at (spell_scalar q.scalar)) q.rest v =
    item_part fs at xs v flow q (quoted_after fs q.text q.later at false (past at (spell_scalar q.scalar)) q.rest v q.ended q.on) in
    record { text = q.scalar; rest = q.rest; parts = q.parts; item = i; is = q.is place true (ends_before i.pad) least }

-- ---- between single quotes

record SingleRead (fs : List Frame) (t : Folding) (role : Role) (begun at : ℕ) (xs : List ℕ) (v : Value) : Type 0 where
  chars : List ℕ
  rest : List ℕ
  parts : xs ≡ spell_singles chars ++ 39 ∷ rest
  later : Role
  turned : RoleBehind (list_any is_feed chars) role later
  on : ReadsOn (front fs (AfterQuoted (caught_up (with_chars t chars)) later begun false)) (past at (spell_singles chars ++ 39 ∷ [])) rest v
  ended : all_ended true rest ≡ true

-- a character that is no quote
char_before : (fs : List Frame) (t : Folding) (role next : Role) (begun at c : ℕ) (cs : List ℕ) (v : Value) → (c == 39) ≡ false → RoleBehind (is_feed c) role next
    → SingleRead fs (with_char t c) next begun (at + len_utf8 c) cs v → SingleRead fs t role begun at (c ∷ cs) v
char_before fs t role next begun at c cs v e turned r =
    let p : spell_singles (c ∷ r.chars) ≡ c ∷ spell_singles r.chars = rw e refl in
    record {
      chars = c ∷ r.chars;
      rest = r.rest;
      parts = ap (λ zs. c ∷ zs) r.parts ∙ sym (ap (λ zs. zs ++ 39 ∷ r.rest) p);
      later = r.later;
      turned = behind_both (is_feed c) (list_any is_feed r.chars) role next r.later turned r.turned;
      on = subst (λ (zs : List ℕ). ReadsOn (front fs (AfterQuoted (caught_up (with_chars t (c ∷ r.chars))) r.later begun false)) (past at (zs ++ 39 ∷ [])) r.rest v) (sym p) r.on;
      ended = r.ended;
    }

-- two quotes stand for one
quotes_before : (fs : List Frame) (t : Folding) (role : Role) (begun at : ℕ) (cs : List ℕ) (v : Value) → SingleRead fs (put t 39) role begun ((at + 1) + 1) cs v → SingleRead fs t role begun at (39 ∷ 39 ∷ cs) v
quotes_before fs t role begun at cs v r = record {
  chars = 39 ∷ r.chars;
  rest = r.rest;
  parts = ap (λ zs. 39 ∷ 39 ∷ zs) r.parts;
  later = r.later;
  turned = r.turned;
  on = r.on;
  ended = r.ended;
}

single_taken : (fs : List Frame) (t : Folding) (role : Role) (begun at c : ℕ) (rest : List ℕ) → (c == 39) ≡ false → (c == 10) ≡ false
    → taken fs (InSingle t role begun) at c rest ≡ Ok (front fs (InSingle (with_char t c) role begun))
unfolding taken in_single
single_taken fs t role begun at c rest a b = rw (a, b) (elim (cases_Bool (is_blank c)) [ inl h ↦ rw h refl | inr h ↦ rw h refl ])

single_feed : (fs : List Frame) (t : Folding) (role : Role) (begun at : ℕ) (rest : List ℕ) → taken fs (InSingle t role begun) at 10 rest ≡ single_line fs role (end_line t) begun at
unfolding taken in_single
single_feed fs t role begun at rest = refl

two_quotes : (fs : List Frame) (t : Folding) (role : Role) (begun at : ℕ) (rest : List ℕ) → begins_with 39 rest ≡ true → taken fs (InSingle t role begun) at 39 rest ≡ Ok (front fs (AtSecondQuote t role begun))
unfolding taken in_single
two_quotes fs t role begun at rest e = rw e refl

one_quote : (fs : List Frame) (t : Folding) (role : Role) (begun at : ℕ) (rest : List ℕ) → begins_with 39 rest ≡ false → taken fs (InSingle t role begun) at 39 rest ≡ Ok (front fs (AfterQuoted (caught_up t) role begun false))
unfolding taken in_single
one_quote fs t role begun at rest e = rw e refl

second_quote : (fs : List Frame) (t : Folding) (role : Role) (begun at : ℕ) (rest : List ℕ) → taken fs (AtSecondQuote t role begun) at 39 rest ≡ Ok (front fs (InSingle (put t 39) role begun))
unfolding taken at_second_quote
second_quote fs t role begun at rest = refl

single_end : {A : Type 0} (fs : List Frame) (t : Folding) (role : Role) (begun at : ℕ) (v : Value) → ReadsOn (front fs (InSingle t role begun)) at [] v → A
unfolding ends
single_end fs t role begun at v h = absurd (let q : ◌≡◌ {A = Result Value Broken} (no_text at) (Ok v) = reads_end (front fs (InSingle t role begun)) at v h in cc)

-- what is so of texts of at most so many characters
abbrev Shorter : ℕ → Type 0
Shorter m = (fs : List Frame) (t : Folding) (role : Role) (begun at : ℕ) (xs : List ℕ) (v : Value) → length xs ≤ m → (within : Bool) → all_ended within xs ≡ true
    → ReadsOn (front fs (InSingle t role begun)) at xs v → SingleRead fs t role begun at xs v

quote_end : (fs : List Frame) (t : Folding) (role : Role) (begun at : ℕ) (cs : List ℕ) (v : Value) → begins_with 39 cs ≡ false → all_ended true cs ≡ true
    → ReadsOn (front fs (InSingle t role begun)) at (39 ∷ cs) v → SingleRead fs t role begun at (39 ∷ cs) v
quote_end fs t role begun at cs v e lined h = record {
  chars = [];
  rest = cs;
  parts = refl;
  later = role;
  turned = refl;
  on = step_by fs (InSingle t role begun) (Ok (front fs (AfterQuoted (caught_up t) role begun false))) at 39 cs v
      (one_quote fs t role begun at (with_returns cs) (first_ahead cs 39 refl refl ∙ e)) h;
  ended = lined;
}

quote_twice : (m : ℕ) → Shorter m → (fs : List Frame) (t : Folding) (role : Role) (begun at : ℕ) (cs : List ℕ) (v : Value) → length cs ≤ m → all_ended true cs ≡ true
    → ReadsOn (front fs (InSingle t role begun)) at (39 ∷ 39 ∷ cs) v → SingleRead fs t role begun at (39 ∷ 39 ∷ cs) v
quote_twice m shorter fs t role begun at cs v l lined h =
    let k : ReadsOn (front fs (AtSecondQuote t role begun)) (at + 1) (39 ∷ cs) v =
    step_by fs (InSingle t role begun) (Ok (front fs (AtSecondQuote t role begun))) at 39 (39 ∷ cs) v (two_quotes fs t role begun at (with_returns (39 ∷ cs)) refl) h in
    quotes_before fs t role begun at cs v (shorter fs (put t 39) role begun ((at + 1) + 1) cs v l true lined
    (step_by fs (AtSecondQuote t role begun) (Ok (front fs (InSingle (put t 39) role begun))) (at + 1) 39 cs v (second_quote fs t role begun (at + 1) (with_returns cs)) k))

quote_read : (m : ℕ) → Shorter m → (fs : List Frame) (t : Folding) (role : Role) (begun at : ℕ) (cs : List ℕ) (v : Value) → length cs ≤ m → all_ended true cs ≡ true
    → ReadsOn (front fs (InSingle t role begun)) at (39 ∷ cs) v → SingleRead fs t role begun at (39 ∷ cs) v
quote_read m shorter fs t role begun at [] v l lined h = quote_end fs t role begun at [] v refl lined h
quote_read m shorter fs t role begun at (d ∷ ds) v l lined h = elim (cases_Bool (d == 39)) [
  | inl e ↦ for_that (λ x. all_ended true (x ∷ ds) ≡ true → ReadsOn (front fs (InSingle t role begun)) at (39 ∷ x ∷ ds) v → SingleRead fs t role begun at (39 ∷ x ∷ ds) v) d 39 e
      (quote_twice m shorter fs t role begun at ds v (let k : length ds ≤ m = omega arith in k)) lined h
  | inr e ↦ quote_end fs t role begun at (d ∷ ds) v e lined h
]

single_line_read : (m : ℕ) → Shorter m → (fs : List Frame) (t : Folding) (role : Role) (begun at : ℕ) (cs : List ℕ) (v : Value) → length cs ≤ m → all_ended false cs ≡ true
    → OnFrom (single_line fs role (end_line t) begun at) (at + 1) cs v → SingleRead fs t role begun at (10 ∷ cs) v
single_line_read m shorter fs t role begun at cs v l lined h = elim (cases_Bool (is_key_only role)) [
  | inl k ↦ absurd (let q : ⊥ = rw k at h in q)
  | inr k ↦ char_before fs t role ValueOnly begun at 10 cs v refl (k, refl) (shorter fs (end_line t) ValueOnly begun (at + 1) cs v l false lined (rw k at h))
]

single_char : (m : ℕ) → Shorter m → (fs : List Frame) (t : Folding) (role : Role) (begun at c : ℕ) (cs : List ℕ) (v : Value) → length cs ≤ m → (c == 39) ≡ false → (c == 10) ≡ false → all_ended true cs ≡ true
    → ReadsOn (front fs (InSingle t role begun)) at (c ∷ cs) v → SingleRead fs t role begun at (c ∷ cs) v
single_char m shorter fs t role begun at c cs v l a b lined h =
    char_before fs t role role begun at c cs v a (rw b refl) (shorter fs (with_char t c) role begun (at + len_utf8 c) cs v l true lined
    (step_by fs (InSingle t role begun) (Ok (front fs (InSingle (with_char t c) role begun))) at c cs v (single_taken fs t role begun at c (with_returns cs) a b) h))

single_in : (m : ℕ) → Shorter m
single_in m fs t role begun at [] v l within lined h = single_end fs t role begun at v h
single_in zero fs t role begun at (c ∷ cs) v l within lined h = absurd (omega arith)
single_in (suc m) fs t role begun at (c ∷ cs) v l within lined h =
    let k : length cs ≤ m = omega arith in
    let Q : ℕ → Type 0 = λ d. all_ended within (d ∷ cs) ≡ true → ReadsOn (front fs (InSingle t role begun)) at (d ∷ cs) v → SingleRead fs t role begun at (d ∷ cs) v in
    elim (cases_Bool (c == 39)) [
      | inl e ↦ for_that Q c 39 e (quote_read m (single_in m) fs t role begun at cs v k) lined h
      | inr a ↦ elim (cases_Bool (c == 10)) [
        | inl e ↦ for_that Q c 10 e (λ g r. single_line_read m (single_in m) fs t role begun at cs v k g
            (step_by fs (InSingle t role begun) (single_line fs role (end_line t) begun at) at 10 cs v (single_feed fs t role begun at (with_returns cs)) r)) lined h
        | inr b ↦ single_char m (single_in m) fs t role begun at c cs v k a b (still_within within c cs b lined) h
      ]
    ]

-- ---- from the first quote on

double_quoted : (fs : List Frame) (role : Role) (at : ℕ) (cs : List ℕ) (v : Value) → DoubleRead fs nothing_yet role at (at + 1) cs v → QuotedText fs role at (34 ∷ cs) v
double_quoted fs role at cs v d = record {
  scalar = Double d.inners;
  text = double_text d.inners;
  value = refl;
  rest = d.rest;
  parts = ap (λ zs. 34 ∷ zs) (d.parts ∙ sym (append_assoc (spell_inners d.inners) (34 ∷ []) d.rest));
  is = λ place flow after least. d.are;
  lined = list_any is_line_end d.inners;
  later = d.later;
  turned = d.turned;
  key = λ e n. record { key = DoubleKey d.inners n; spells = refl; says = refl; is = λ place. (d.are, e) };
  on = d.on;
  ended = d.ended;
}

single_quoted : (fs : List Frame) (role : Role) (at : ℕ) (cs : List ℕ) (v : Value) → SingleRead fs nothing_yet role at (at + 1) cs v → QuotedText fs role at (39 ∷ cs) v
single_quoted fs role at cs v d = record {
  scalar = Single d.chars;
  text = single_text d.chars;
  value = refl;
  rest = d.rest;
  parts = ap (λ zs. 39 ∷ zs) (d.parts ∙ sym (append_assoc (spell_singles d.chars) (39 ∷ []) d.rest));
  is = λ place flow after least. tt;
  lined = list_any is_feed d.chars;
  later = d.later;
  turned = d.turned;
  key = λ e n. record { key = SingleKey d.chars n; spells = refl; says = refl; is = λ place. e };
  on = d.on;
  ended = d.ended;
}

double_text_read : (fs : List Frame) (role : Role) (at : ℕ) (cs : List ℕ) (v : Value) → all_ended true cs ≡ true → ReadsOn (front fs (InDouble nothing_yet role at)) (at + 1) cs v → QuotedText fs role at (34 ∷ cs) v
double_text_read fs role at cs v lined h = double_quoted fs role at cs v (inners_read fs nothing_yet role at (at + 1) cs v lined h)

single_text_read : (fs : List Frame) (role : Role) (at : ℕ) (cs : List ℕ) (v : Value) → all_ended true cs ≡ true → ReadsOn (front fs (InSingle nothing_yet role at)) (at + 1) cs v → QuotedText fs role at (39 ∷ cs) v
single_text_read fs role at cs v lined h =
    single_quoted fs role at cs v (single_in (length cs) fs nothing_yet role at (at + 1) cs v (let l : length cs ≤ length cs = omega arith in l) true lined h)

-- outside flow lists
pub double_read : (fs : List Frame) (role : Role) (place : Option ℕ) (least at : ℕ) (cs : List ℕ) (v : Value) → is_flow fs ≡ false → all_ended true cs ≡ true
    → ReadsOn (front fs (InDouble nothing_yet role at)) (at + 1) cs v → ValueRead fs role place least (length fs) at (34 ∷ cs) v
double_read fs role place least at cs v flow lined h = quoted_value fs role place least (length fs) at (34 ∷ cs) v flow (double_text_read fs role at cs v lined h)

pub single_read : (fs : List Frame) (role : Role) (place : Option ℕ) (least at : ℕ) (cs : List ℕ) (v : Value) → is_flow fs ≡ false → all_ended true cs ≡ true
    → ReadsOn (front fs (InSingle nothing_yet role at)) (at + 1) cs v → ValueRead fs role place least (length fs) at (39 ∷ cs) v
single_read fs role place least at cs v flow lined h = quoted_value fs role place least (length fs) at (39 ∷ cs) v flow (single_text_read fs role at cs v lined h)

-- and in them
pub double_item : (fs : List Frame) (place : Option ℕ) (least at : ℕ) (cs : List ℕ) (v : Value) → is_flow fs ≡ true → all_ended true cs ≡ true
    → ReadsOn (front fs (InDouble nothing_yet ValueOnly at)) (at + 1) cs v → FlowText fs place least at (34 ∷ cs) v
double_item fs place least at cs v flow lined h = quoted_item fs place least at (34 ∷ cs) v flow (double_text_read fs ValueOnly at cs v lined h)

pub single_item : (fs : List Frame) (place : Option ℕ) (least at : ℕ) (cs : List ℕ) (v : Value) → is_flow fs ≡ true → all_ended true cs ≡ true
    → ReadsOn (front fs (InSingle nothing_yet ValueOnly at)) (at + 1) cs v → FlowText fs place least at (39 ∷ cs) v
single_item fs place least at cs v flow lined h = quoted_item fs place least at (39 ∷ cs) v flow (single_text_read fs ValueOnly at cs v lined h)
