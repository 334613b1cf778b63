-- What stands between double quotes: what is found of it.
use Rattle.std.proofs.Common.{◌≡◌, ℕ, zero, suc, ◌+◌, ◌-◌, ◌*◌, ◌<◌, ◌≤◌, Bool, true, false, ◌||◌, ◌==◌, nat_lt, nat_le, List, [], ◌∷◌, ◌++◌, length, Result, Ok, ◌⊎◌, inl, inr, refl, sym, ap, subst, ◌∙◌, arith, append_assoc, length-append, lit<}
use Rattle.std.specs.List.{list_all, list_any}
use Rattle.std.specs.Char.{len_utf8}
use Rattle.std.proofs.lemmas.Bool.{cases_Bool}
use Rattle.std.proofs.lemmas.Bool.Decides.{nat_tests}
use Rattle.edt_base.specs.YamlData.{Value}
use Rattle.yaml_profile.specs.declared.stop.Broken.{Broken}
use Rattle.yaml_profile.specs.declared.front.Role.{Role}
use Rattle.yaml_profile.specs.declared.front.Role.TheVariants.{Value as ValueOnly}
use Rattle.yaml_profile.specs.Answers.{no_text}
use Rattle.yaml_profile.specs.Signs.{is_blank}
use Rattle.yaml_profile.specs.Scalars.{digit}
use Rattle.yaml_profile.specs.Folding.{Folding, put, end_line, join_line, caught_up}
use Rattle.yaml_profile.specs.Fronts.{Frame, InDouble, InEscape, InDigits, AfterQuoted, front}
use Rattle.yaml_profile.specs.Pieces.{is_key_only, in_double, double_line, in_escape, escaped, put_escaped, in_digits, end_digits, is_surrogate}
use Rattle.yaml_profile.specs.Reading.{taken, ends}
use Rattle.yaml_profile.specs.Written.{Inner, Itself, Escaped, ByTwo, ByFour, LineEnd, Joined, spell_inner, with_digit, is_hex, spell_inners, with_solid, with_inner, with_inners, is_inner_quoted, is_line_end}
use Rattle.yaml_profile.proofs.ReadSteps.{past, past_append, never, with_returns, ReadsOn, OnFrom, all_ended, step_by}
use Rattle.yaml_profile.proofs.ReadGaps.{for_that, still_within, reads_end}
use Rattle.yaml_profile.proofs.WrittenQuotes.{first_digit, whole_number}

-- the role after what is between the quotes: a text with a line end in it is no key
abbrev pub RoleBehind : Bool → Role → Role → Type 0
RoleBehind true role later = (is_key_only role ≡ false) × (later ≡ ValueOnly)
RoleBehind false role later = later ≡ role

pub behind_both : (a b : Bool) (role next later : Role) → RoleBehind a role next → RoleBehind b next later → RoleBehind (a || b) role later
behind_both true true role next later g h = (g.0, h.1)
behind_both true false role next later g h = (g.0, h ∙ g.1)
behind_both false true role next later g h = (subst (λ (r : Role). is_key_only r ≡ false) g h.0, h.1)
behind_both false false role next later g h = h ∙ g

-- one part of what is between the quotes
record InnerRead (fs : List Frame) (t : Folding) (role : Role) (begun at : ℕ) (xs : List ℕ) (v : Value) : Type 0 where
  inner : Inner
  rest : List ℕ
  parts : xs ≡ spell_inner inner ++ rest
  is : is_inner_quoted inner ≡ true
  later : Role
  turned : RoleBehind (is_line_end inner) role later
  on : ReadsOn (front fs (InDouble (with_inner t inner) later begun)) (past at (spell_inner inner)) rest v
  within : Bool
  ended : all_ended within rest ≡ true

-- all of it, and the quote
pub record DoubleRead (fs : List Frame) (t : Folding) (role : Role) (begun at : ℕ) (xs : List ℕ) (v : Value) : Type 0 where
  pub inners : List Inner
  pub rest : List ℕ
  pub parts : xs ≡ spell_inners inners ++ 34 ∷ rest
  pub are : list_all is_inner_quoted inners ≡ true
  pub later : Role
  pub turned : RoleBehind (list_any is_line_end inners) role later
  pub on : ReadsOn (front fs (AfterQuoted (caught_up (with_inners t inners)) later begun false)) (past at (spell_inners inners ++ 34 ∷ [])) rest v
  pub ended : all_ended true rest ≡ true

inner_before : (fs : List Frame) (t : Folding) (role : Role) (begun at : ℕ) (xs : List ℕ) (v : Value) → (r : InnerRead fs t role begun at xs v)
    → DoubleRead fs (with_inner t r.inner) r.later begun (past at (spell_inner r.inner)) r.rest v → DoubleRead fs t role begun at xs v
inner_before fs t role begun at xs v r d =
    let p : past at ((spell_inner r.inner ++ spell_inners d.inners) ++ 34 ∷ []) ≡ past (past at (spell_inner r.inner)) (spell_inners d.inners ++ 34 ∷ []) =
    ap (past at) (append_assoc (spell_inner r.inner) (spell_inners d.inners) (34 ∷ [])) ∙ past_append (spell_inner r.inner) (spell_inners d.inners ++ 34 ∷ []) at in
    record {
      inners = r.inner ∷ d.inners;
      rest = d.rest;
      parts = r.parts ∙ (ap (λ zs. spell_inner r.inner ++ zs) d.parts ∙ sym (append_assoc (spell_inner r.inner) (spell_inners d.inners) (34 ∷ d.rest)));
      are = rw r.is d.are;
      later = d.later;
      turned = behind_both (is_line_end r.inner) (list_any is_line_end d.inners) role r.later d.later r.turned d.turned;
      on = subst (λ (m : ℕ). ReadsOn (front fs (AfterQuoted (caught_up (with_inners t (r.inner ∷ d.inners))) d.later begun false)) m d.rest v) (sym p) d.on;
      ended = d.ended;
    }

-- ---- its characters

line_end_read : (fs : List Frame) (t : Folding) (role : Role) (begun at : ℕ) (cs : List ℕ) (v : Value) → all_ended false cs ≡ true
    → OnFrom (double_line fs role (end_line t) begun at) (at + 1) cs v → InnerRead fs t role begun at (10 ∷ cs) v
line_end_read fs t role begun at cs v lined h = elim (cases_Bool (is_key_only role)) [
  | inl k ↦ absurd (let q : ⊥ = rw k at h in q)
  | inr k ↦ record { inner = LineEnd; rest = cs; parts = refl; is = refl; later = ValueOnly; turned = (k, refl); on = rw k at h; within = false; ended = lined }
]

joined_read : (fs : List Frame) (t : Folding) (role : Role) (begun at : ℕ) (cs : List ℕ) (v : Value) → all_ended false cs ≡ true
    → OnFrom (double_line fs role (join_line t) begun (at + 1)) ((at + 1) + 1) cs v → InnerRead fs t role begun at (92 ∷ 10 ∷ cs) v
joined_read fs t role begun at cs v lined h = elim (cases_Bool (is_key_only role)) [
  | inl k ↦ absurd (let q : ⊥ = rw k at h in q)
  | inr k ↦ record { inner = Joined; rest = cs; parts = refl; is = refl; later = ValueOnly; turned = (k, refl); on = rw k at h; within = false; ended = lined }
]

escaped_read : (fs : List Frame) (t : Folding) (role : Role) (begun at c : ℕ) (cs : List ℕ) (v : Value) → all_ended true cs ≡ true
    → OnFrom (put_escaped fs t role begun (at + 1) c) ((at + 1) + len_utf8 c) cs v → InnerRead fs t role begun at (92 ∷ c ∷ cs) v
escaped_read fs t role begun at c cs v lined h = elim (cases_Bool (escaped c == 256)) [
  | inl k ↦ absurd (let q : ⊥ = rw k at h in q)
  | inr k ↦ record { inner = Escaped c; rest = cs; parts = refl; is = rw k refl; later = role; turned = refl; on = rw k at h; within = true; ended = lined }
]

itself_taken : (fs : List Frame) (t : Folding) (role : Role) (begun at c : ℕ) (rest : List ℕ) → (c == 34) ≡ false → (c == 92) ≡ false → (c == 10) ≡ false
    → taken fs (InDouble t role begun) at c rest ≡ Ok (front fs (InDouble (with_solid t c) role begun))
unfolding taken in_double
itself_taken fs t role begun at c rest a b d = rw (a, b, d) (elim (cases_Bool (is_blank c)) [ inl h ↦ rw h refl | inr h ↦ rw h refl ])

itself_read : (fs : List Frame) (t : Folding) (role : Role) (begun at c : ℕ) (cs : List ℕ) (v : Value) → all_ended true cs ≡ true → (c == 34) ≡ false → (c == 92) ≡ false → (c == 10) ≡ false
    → ReadsOn (front fs (InDouble t role begun)) at (c ∷ cs) v → InnerRead fs t role begun at (c ∷ cs) v
itself_read fs t role begun at c cs v lined a b d h = record {
  inner = Itself c;
  rest = cs;
  parts = refl;
  is = rw (a, b, d) refl;
  later = role;
  turned = refl;
  on = step_by fs (InDouble t role begun) (Ok (front fs (InDouble (with_solid t c) role begun))) at c cs v (itself_taken fs t role begun at c (with_returns cs) a b d) h;
  within = true;
  ended = lined;
}

-- ---- digits

digit_below : (c : ℕ) → (digit c == 16) ≡ false → digit c < 16
digit_below c h = grind (arith, nat_tests)

hex_below : (d : ℕ) → d < 16 → nat_lt d 16 ≡ true
hex_below d h = grind (arith, nat_tests)

-- one digit, before others
record DigitRead (fs : List Frame) (t : Folding) (role : Role) (begun left n at : ℕ) (xs : List ℕ) (v : Value) : Type 0 where
  char : ℕ
  rest : List ℕ
  parts : xs ≡ char ∷ rest
  below : digit char < 16
  hex : is_hex char ≡ true
  on : ReadsOn (front fs (InDigits t role begun left (with_digit n char))) (at + len_utf8 char) rest v
  ended : all_ended true rest ≡ true

-- and the last one
record LastRead (fs : List Frame) (t : Folding) (role : Role) (begun n at : ℕ) (xs : List ℕ) (v : Value) : Type 0 where
  char : ℕ
  rest : List ℕ
  parts : xs ≡ char ∷ rest
  hex : is_hex char ≡ true
  sound : is_surrogate (with_digit n char) ≡ false
  on : ReadsOn (front fs (InDouble (put t (with_digit n char)) role begun)) (at + len_utf8 char) rest v
  ended : all_ended true rest ≡ true

digit_refused : (fs : List Frame) (t : Folding) (role : Role) (begun left n at c : ℕ) (rest : List ℕ) → (digit c == 16) ≡ true → taken fs (InDigits t role begun left n) at c rest ≡ no_text at
unfolding taken in_digits
digit_refused fs t role begun left n at c rest e = rw e refl

digit_taken : (fs : List Frame) (t : Folding) (role : Role) (begun left n at c : ℕ) (rest : List ℕ) → nat_le left 1 ≡ false → n < 4096 → (digit c == 16) ≡ false
    → taken fs (InDigits t role begun left n) at c rest ≡ Ok (front fs (InDigits t role begun (left - 1) (with_digit n c)))
unfolding taken in_digits
digit_taken fs t role begun left n at c rest l a e = rw (e, l, whole_number n (digit c) a (digit_below c e)) refl

last_taken : (fs : List Frame) (t : Folding) (role : Role) (begun n at c : ℕ) (rest : List ℕ) → n < 4096 → (digit c == 16) ≡ false
    → taken fs (InDigits t role begun 1 n) at c rest ≡ end_digits fs t role begun at (with_digit n c)
unfolding taken in_digits
last_taken fs t role begun n at c rest a e = rw (e, whole_number n (digit c) a (digit_below c e)) refl

digits_end : {A : Type 0} (fs : List Frame) (t : Folding) (role : Role) (begun left n at : ℕ) (v : Value) → ReadsOn (front fs (InDigits t role begun left n)) at [] v → A
unfolding ends
digits_end fs t role begun left n at v h = absurd (let q : ◌≡◌ {A = Result Value Broken} (no_text at) (Ok v) = reads_end (front fs (InDigits t role begun left n)) at v h in cc)

digit_within : (c : ℕ) (cs : List ℕ) (within : Bool) → (digit c == 16) ≡ false → all_ended within (c ∷ cs) ≡ true → all_ended true cs ≡ true
digit_within c cs within e lined = still_within within c cs (never (λ d. digit d == 16) c 10 e refl) lined

digit_read : (fs : List Frame) (t : Folding) (role : Role) (begun left n at : ℕ) (xs : List ℕ) (v : Value) → nat_le left 1 ≡ false → n < 4096 → all_ended true xs ≡ true
    → ReadsOn (front fs (InDigits t role begun left n)) at xs v → DigitRead fs t role begun (left - 1) n at xs v
digit_read fs t role begun left n at [] v l a lined h = digits_end fs t role begun left n at v h
digit_read fs t role begun left n at (c ∷ cs) v l a lined h = elim (cases_Bool (digit c == 16)) [
  | inl e ↦ absurd (step_by fs (InDigits t role begun left n) (no_text at) at c cs v (digit_refused fs t role begun left n at c (with_returns cs) e) h)
  | inr e ↦ record {
    char = c;
    rest = cs;
    parts = refl;
    below = digit_below c e;
    hex = hex_below (digit c) (digit_below c e);
    on = step_by fs (InDigits t role begun left n) (Ok (front fs (InDigits t role begun (left - 1) (with_digit n c)))) at c cs v (digit_taken fs t role begun left n at c (with_returns cs) l a e) h;
    ended = digit_within c cs true e lined;
  }
]

last_sound : (fs : List Frame) (t : Folding) (role : Role) (begun n at c : ℕ) (cs : List ℕ) (v : Value) → (digit c == 16) ≡ false → all_ended true (c ∷ cs) ≡ true
    → OnFrom (end_digits fs t role begun at (with_digit n c)) (at + len_utf8 c) cs v → LastRead fs t role begun n at (c ∷ cs) v
last_sound fs t role begun n at c cs v e lined h = elim (cases_Bool (is_surrogate (with_digit n c))) [
  | inl k ↦ absurd (let q : ⊥ = rw k at h in q)
  | inr k ↦ record { char = c; rest = cs; parts = refl; hex = hex_below (digit c) (digit_below c e); sound = k; on = rw k at h; ended = digit_within c cs true e lined }
]

last_read : (fs : List Frame) (t : Folding) (role : Role) (begun n at : ℕ) (xs : List ℕ) (v : Value) → n < 4096 → all_ended true xs ≡ true
    → ReadsOn (front fs (InDigits t role begun 1 n)) at xs v → LastRead fs t role begun n at xs v
last_read fs t role begun n at [] v a lined h = digits_end fs t role begun 1 n at v h
last_read fs t role begun n at (c ∷ cs) v a lined h = elim (cases_Bool (digit c == 16)) [
  | inl e ↦ absurd (step_by fs (InDigits t role begun 1 n) (no_text at) at c cs v (digit_refused fs t role begun 1 n at c (with_returns cs) e) h)
  | inr e ↦ last_sound fs t role begun n at c cs v e lined
      (step_by fs (InDigits t role begun 1 n) (end_digits fs t role begun at (with_digit n c)) at c cs v (last_taken fs t role begun n at c (with_returns cs) a e) h)
]

four_bits : (d : ℕ) → d < 16 → d < 4096
four_bits d h = omega arith

eight_bits : (d e : ℕ) → d < 16 → e < 16 → d * 16 + e < 256
eight_bits d e h g = omega arith

twelve_bits : (d e : ℕ) → d < 256 → e < 16 → d * 16 + e < 4096
twelve_bits d e h g = omega arith

still_less : (d : ℕ) → d < 256 → d < 4096
still_less d h = omega arith

-- the first digit, where none stand before it
first_read : (fs : List Frame) (t : Folding) (role : Role) (begun left at : ℕ) (xs : List ℕ) (v : Value) → nat_le left 1 ≡ false → all_ended true xs ≡ true
    → ReadsOn (front fs (InDigits t role begun left 0)) at xs v → (r : DigitRead fs t role begun (left - 1) 0 at xs v) × ReadsOn (front fs (InDigits t role begun (left - 1) (digit r.char))) (at + len_utf8 r.char) r.rest v
first_read fs t role begun left at xs v l lined h =
    let r : DigitRead fs t role begun (left - 1) 0 at xs v = digit_read fs t role begun left 0 at xs v l (lit< tt) lined h in
    (r, subst (λ (n : ℕ). ReadsOn (front fs (InDigits t role begun (left - 1) n)) (at + len_utf8 r.char) r.rest v) (first_digit r.char) r.on)

two_read : (fs : List Frame) (t : Folding) (role : Role) (begun at : ℕ) (xs : List ℕ) (v : Value) → all_ended true xs ≡ true
    → ReadsOn (front fs (InDigits t role begun 2 0)) ((at + 1) + 1) xs v → InnerRead fs t role begun at (92 ∷ 120 ∷ xs) v
two_read fs t role begun at xs v lined h =
    let f = first_read fs t role begun 2 ((at + 1) + 1) xs v refl lined h in
    let a = f.0 in
    let b : LastRead fs t role begun (digit a.char) (((at + 1) + 1) + len_utf8 a.char) a.rest v = last_read fs t role begun (digit a.char) (((at + 1) + 1) + len_utf8 a.char) a.rest v (four_bits (digit a.char) a.below) a.ended f.1 in
    record {
      inner = ByTwo a.char b.char;
      rest = b.rest;
      parts = ap (λ zs. 92 ∷ 120 ∷ zs) (a.parts ∙ ap (λ zs. a.char ∷ zs) b.parts);
      is = rw (a.hex, b.hex) refl;
      later = role;
      turned = refl;
      on = b.on;
      within = true;
      ended = b.ended;
    }

four_parts : (xs ps qs rs ss : List ℕ) (a b c d : ℕ) → xs ≡ a ∷ ps → ps ≡ b ∷ qs → qs ≡ c ∷ rs → rs ≡ d ∷ ss → 92 ∷ 117 ∷ xs ≡ 92 ∷ 117 ∷ a ∷ b ∷ c ∷ d ∷ ss
four_parts xs ps qs rs ss a b c d e f g h = ap (λ zs. 92 ∷ 117 ∷ zs) (e ∙ ap (λ zs. a ∷ zs) (f ∙ ap (λ zs. b ∷ zs) (g ∙ ap (λ zs. c ∷ zs) h)))

four_read : (fs : List Frame) (t : Folding) (role : Role) (begun at : ℕ) (xs : List ℕ) (v : Value) → all_ended true xs ≡ true
    → ReadsOn (front fs (InDigits t role begun 4 0)) ((at + 1) + 1) xs v → InnerRead fs t role begun at (92 ∷ 117 ∷ xs) v
four_read fs t role begun at xs v lined h =
    let f = first_read fs t role begun 4 ((at + 1) + 1) xs v refl lined h in
    let a = f.0 in
    let p : ℕ = ((at + 1) + 1) + len_utf8 a.char in
    let m : ℕ = digit a.char in
    let b : DigitRead fs t role begun 2 m p a.rest v = digit_read fs t role begun 3 m p a.rest v refl (four_bits m a.below) a.ended f.1 in
    let n : ℕ = with_digit m b.char in
    let l : n < 256 = eight_bits m (digit b.char) a.below b.below in
    let d : DigitRead fs t role begun 1 n (p + len_utf8 b.char) b.rest v = digit_read fs t role begun 2 n (p + len_utf8 b.char) b.rest v refl (still_less n l) b.ended b.on in
    let k : ℕ = with_digit n d.char in
    let e : LastRead fs t role begun k ((p + len_utf8 b.char) + len_utf8 d.char) d.rest v = last_read fs t role begun k ((p + len_utf8 b.char) + len_utf8 d.char) d.rest v (twelve_bits n (digit d.char) l d.below) d.ended d.on in
    record {
      inner = ByFour a.char b.char d.char e.char;
      rest = e.rest;
      parts = four_parts xs a.rest b.rest d.rest e.rest a.char b.char d.char e.char a.parts b.parts d.parts e.parts;
      is = rw (a.hex, b.hex, d.hex, e.hex, e.sound) refl;
      later = role;
      turned = refl;
      on = e.on;
      within = true;
      ended = e.ended;
    }

-- ---- escapes

escape_taken : (fs : List Frame) (t : Folding) (role : Role) (begun at : ℕ) (rest : List ℕ) → taken fs (InDouble t role begun) at 92 rest ≡ Ok (front fs (InEscape t role begun))
unfolding taken in_double
escape_taken fs t role begun at rest = refl

escape_is : (fs : List Frame) (t : Folding) (role : Role) (begun at c : ℕ) (rest : List ℕ) → taken fs (InEscape t role begun) at c rest ≡ in_escape fs t role begun at c
unfolding taken
escape_is fs t role begun at c rest = refl

abbrev EscapeFrom : List Frame → Folding → Role → (begun at : ℕ) → List ℕ → Value → ℕ → Type 0
EscapeFrom fs t role begun at cs v c = all_ended true (c ∷ cs) ≡ true → OnFrom (in_escape fs t role begun (at + 1) c) ((at + 1) + len_utf8 c) cs v → InnerRead fs t role begun at (92 ∷ c ∷ cs) v

escape_two : (fs : List Frame) (t : Folding) (role : Role) (begun at : ℕ) (cs : List ℕ) (v : Value) → EscapeFrom fs t role begun at cs v 120
unfolding in_escape
escape_two fs t role begun at cs v lined h = two_read fs t role begun at cs v lined h

escape_four : (fs : List Frame) (t : Folding) (role : Role) (begun at : ℕ) (cs : List ℕ) (v : Value) → EscapeFrom fs t role begun at cs v 117
unfolding in_escape
escape_four fs t role begun at cs v lined h = four_read fs t role begun at cs v lined h

escape_line : (fs : List Frame) (t : Folding) (role : Role) (begun at : ℕ) (cs : List ℕ) (v : Value) → EscapeFrom fs t role begun at cs v 10
unfolding in_escape
escape_line fs t role begun at cs v lined h = joined_read fs t role begun at cs v lined h

escape_char : (fs : List Frame) (t : Folding) (role : Role) (begun at c : ℕ) (cs : List ℕ) (v : Value) → (c == 120) ≡ false → (c == 117) ≡ false → (c == 10) ≡ false → EscapeFrom fs t role begun at cs v c
unfolding in_escape
escape_char fs t role begun at c cs v a b d lined h = escaped_read fs t role begun at c cs v (still_within true c cs d lined) (rw (a, b, d) at h)

escape_from : (fs : List Frame) (t : Folding) (role : Role) (begun at c : ℕ) (cs : List ℕ) (v : Value) → EscapeFrom fs t role begun at cs v c
escape_from fs t role begun at c cs v = elim (cases_Bool (c == 120)) [
  | inl e ↦ for_that (EscapeFrom fs t role begun at cs v) c 120 e (escape_two fs t role begun at cs v)
  | inr a ↦ elim (cases_Bool (c == 117)) [
    | inl e ↦ for_that (EscapeFrom fs t role begun at cs v) c 117 e (escape_four fs t role begun at cs v)
    | inr b ↦ elim (cases_Bool (c == 10)) [
      | inl e ↦ for_that (EscapeFrom fs t role begun at cs v) c 10 e (escape_line fs t role begun at cs v)
      | inr d ↦ escape_char fs t role begun at c cs v a b d
    ]
  ]
]

escape_end : {A : Type 0} (fs : List Frame) (t : Folding) (role : Role) (begun at : ℕ) (v : Value) → ReadsOn (front fs (InEscape t role begun)) at [] v → A
unfolding ends
escape_end fs t role begun at v h = absurd (let q : ◌≡◌ {A = Result Value Broken} (no_text at) (Ok v) = reads_end (front fs (InEscape t role begun)) at v h in cc)

-- from after a backslash on
escape_read : (fs : List Frame) (t : Folding) (role : Role) (begun at : ℕ) (xs : List ℕ) (v : Value) → all_ended true xs ≡ true → ReadsOn (front fs (InEscape t role begun)) (at + 1) xs v → InnerRead fs t role begun at (92 ∷ xs) v
escape_read fs t role begun at [] v lined h = escape_end fs t role begun (at + 1) v h
escape_read fs t role begun at (c ∷ cs) v lined h = escape_from fs t role begun at c cs v lined
    (step_by fs (InEscape t role begun) (in_escape fs t role begun (at + 1) c) (at + 1) c cs v (escape_is fs t role begun (at + 1) c (with_returns cs)) h)

-- ---- up to the closing quote

quote_taken : (fs : List Frame) (t : Folding) (role : Role) (begun at : ℕ) (rest : List ℕ) → taken fs (InDouble t role begun) at 34 rest ≡ Ok (front fs (AfterQuoted (caught_up t) role begun false))
unfolding taken in_double
quote_taken fs t role begun at rest = refl

feed_taken : (fs : List Frame) (t : Folding) (role : Role) (begun at : ℕ) (rest : List ℕ) → taken fs (InDouble t role begun) at 10 rest ≡ double_line fs role (end_line t) begun at
unfolding taken in_double
feed_taken fs t role begun at rest = refl

double_end : {A : Type 0} (fs : List Frame) (t : Folding) (role : Role) (begun at : ℕ) (v : Value) → ReadsOn (front fs (InDouble t role begun)) at [] v → A
unfolding ends
double_end fs t role begun at v h = absurd (let q : ◌≡◌ {A = Result Value Broken} (no_text at) (Ok v) = reads_end (front fs (InDouble t role begun)) at v h in cc)

closing_read : (fs : List Frame) (t : Folding) (role : Role) (begun at : ℕ) (cs : List ℕ) (v : Value) → all_ended true cs ≡ true → ReadsOn (front fs (InDouble t role begun)) at (34 ∷ cs) v → DoubleRead fs t role begun at (34 ∷ cs) v
closing_read fs t role begun at cs v lined h = record {
  inners = [];
  rest = cs;
  parts = refl;
  are = refl;
  later = role;
  turned = refl;
  on = step_by fs (InDouble t role begun) (Ok (front fs (AfterQuoted (caught_up t) role begun false))) at 34 cs v (quote_taken fs t role begun at (with_returns cs)) h;
  ended = lined;
}

-- the quote, or a part and then more
abbrev PartRead : List Frame → Folding → Role → (begun at : ℕ) → List ℕ → Value → ℕ → Type 0
PartRead fs t role begun at cs v c = ReadsOn (front fs (InDouble t role begun)) at (c ∷ cs) v → (within : Bool) → all_ended within (c ∷ cs) ≡ true
    → DoubleRead fs t role begun at (c ∷ cs) v ⊎ InnerRead fs t role begun at (c ∷ cs) v

part_read : (fs : List Frame) (t : Folding) (role : Role) (begun at c : ℕ) (cs : List ℕ) (v : Value) → PartRead fs t role begun at cs v c
part_read fs t role begun at c cs v = elim (cases_Bool (c == 34)) [
  | inl e ↦ for_that (PartRead fs t role begun at cs v) c 34 e (λ h within lined. inl (closing_read fs t role begun at cs v lined h))
  | inr a ↦ elim (cases_Bool (c == 92)) [
    | inl e ↦ for_that (PartRead fs t role begun at cs v) c 92 e (λ h within lined. inr (escape_read fs t role begun at cs v lined
        (step_by fs (InDouble t role begun) (Ok (front fs (InEscape t role begun))) at 92 cs v (escape_taken fs t role begun at (with_returns cs)) h)))
    | inr b ↦ elim (cases_Bool (c == 10)) [
      | inl e ↦ for_that (PartRead fs t role begun at cs v) c 10 e (λ h within lined. inr (line_end_read fs t role begun at cs v lined
          (step_by fs (InDouble t role begun) (double_line fs role (end_line t) begun at) at 10 cs v (feed_taken fs t role begun at (with_returns cs)) h)))
      | inr d ↦ λ h within lined. inr (itself_read fs t role begun at c cs v (still_within within c cs d lined) a b d h)
    ]
  ]
]

inner_length : (x : Inner) → 0 < length (spell_inner x)
inner_length (Itself c) = omega arith
inner_length (Escaped c) = omega arith
inner_length (ByTwo a b) = omega arith
inner_length (ByFour a b c d) = omega arith
inner_length LineEnd = omega arith
inner_length Joined = omega arith

shorter : (x : Inner) (xs rest : List ℕ) (m : ℕ) → xs ≡ spell_inner x ++ rest → length xs ≤ suc m → length rest ≤ m
shorter x xs rest m parts l =
    let a : length xs ≡ length (spell_inner x) + length rest = ap length parts ∙ length-append (spell_inner x) rest in
    let b : 0 < length (spell_inner x) = inner_length x in
    omega arith

double_in : (m : ℕ) (fs : List Frame) (t : Folding) (role : Role) (begun at : ℕ) (xs : List ℕ) (v : Value) → length xs ≤ m → (within : Bool) → all_ended within xs ≡ true
    → ReadsOn (front fs (InDouble t role begun)) at xs v → DoubleRead fs t role begun at xs v
double_in m fs t role begun at [] v l within lined h = double_end fs t role begun at v h
double_in zero fs t role begun at (c ∷ cs) v l within lined h = absurd (omega arith)
double_in (suc m) fs t role begun at (c ∷ cs) v l within lined h = elim (part_read fs t role begun at c cs v h within lined) [
  | inl d ↦ d
  | inr r ↦ inner_before fs t role begun at (c ∷ cs) v r
      (double_in m fs (with_inner t r.inner) r.later begun (past at (spell_inner r.inner)) r.rest v (shorter r.inner (c ∷ cs) r.rest m r.parts l) r.within r.ended r.on)
]

-- from after the opening quote on
pub inners_read : (fs : List Frame) (t : Folding) (role : Role) (begun at : ℕ) (xs : List ℕ) (v : Value) → all_ended true xs ≡ true
    → ReadsOn (front fs (InDouble t role begun)) at xs v → DoubleRead fs t role begun at xs v
inners_read fs t role begun at xs v lined h = double_in (length xs) fs t role begun at xs v (let l : length xs ≤ length xs = omega arith in l) true lined h
