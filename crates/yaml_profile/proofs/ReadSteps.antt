-- Reading where each line ends with one line feed and a carriage return is a character: one character at a time, and what is left.
use Rattle.std.proofs.Common.{◌≡◌, ℕ, zero, suc, ◌+◌, ◌-◌, Bool, true, false, not, ◌&&◌, ◌||◌, ◌==◌, List, [], ◌∷◌, ◌++◌, Result, Ok, Err, ◌⊎◌, inl, inr, if◌then◌else◌, refl, sym, subst, ◌∙◌, arith}
use Rattle.std.specs.Char.{len_utf8}
use Rattle.std.proofs.lemmas.Bool.{cases_Bool}
use Rattle.std.proofs.lemmas.Bool.Decides.{nat_tests}
use Rattle.edt_base.specs.YamlData.{Value}
use Rattle.yaml_profile.specs.declared.stop.Broken.{Broken}
use Rattle.yaml_profile.specs.Answers.{left_out, ◌>>=◌}
use Rattle.yaml_profile.specs.Signs.{begins_with, ends_word, begins_mark}
use Rattle.yaml_profile.specs.Fronts.{Frame, Waiting, Innermost, AtLine, Front, front, all_closed}
use Rattle.yaml_profile.specs.Layout.{settle, line_content}
use Rattle.yaml_profile.specs.Reading.{taken, ends}
use Rattle.yaml_profile.specs.Written.{spaces, word_ends, is_mark}

-- the place after these characters
abbrev pub past : ℕ → List ℕ → ℕ
past at [] = at
past at (c ∷ cs) = past (at + len_utf8 c) cs

pub past_append : (xs ys : List ℕ) (at : ℕ) → past at (xs ++ ys) ≡ past (past at xs) ys
past_append [] ys at = refl
past_append (x ∷ xs) ys at = past_append xs ys (at + len_utf8 x)

pub past_spaces : (n at : ℕ) → past at (spaces n) ≡ at + n
past_spaces zero at = omega arith
past_spaces (suc n) at = let e : past (at + 1) (spaces n) ≡ (at + 1) + n = past_spaces n (at + 1) in omega arith

-- ---- tests

pub not_true : (b : Bool) → not b ≡ true → b ≡ false
not_true true e = cc
not_true false e = refl

pub is_that : (c d : ℕ) → (c == d) ≡ true → d ≡ c
is_that c d h = grind (arith, nat_tests)

-- a character that a test refuses isn't one that it takes
pub never : (test : ℕ → Bool) (c d : ℕ) → test c ≡ false → test d ≡ true → (c == d) ≡ false
never test c d h g = elim (cases_Bool (c == d)) [
  | inl e ↦ let q : test d ≡ false = subst (λ (x : ℕ). test x ≡ false) (sym (is_that c d e)) h in absurd (let r : true ≡ false = sym g ∙ q in cc)
  | inr e ↦ e
]

-- ---- reading

-- the characters with a carriage return before each line feed, so that no other one is taken for a part of a line end
abbrev pub with_returns : List ℕ → List ℕ
with_returns [] = []
with_returns (c ∷ cs) = if c == 10 then 13 ∷ 10 ∷ with_returns cs else c ∷ with_returns cs

unfoldable pub line_walk : Front → ℕ → List ℕ → Result Front Broken
line_walk f at [] = Ok f
line_walk f at (c ∷ cs) = taken f.frames f.inner at c (with_returns cs) >>= λ g. line_walk g (at + len_utf8 c) cs

-- the rest of a file, from this front and place on, is read as this value
abbrev pub ReadsOn : Front → ℕ → List ℕ → Value → Type 0
ReadsOn f at xs v = (line_walk f at xs >>= λ g. ends g.frames g.inner (past at xs)) ≡ Ok v

-- and after a character that was taken, or wasn't
abbrev pub OnFrom : Result Front Broken → ℕ → List ℕ → Value → Type 0
OnFrom (Ok g) at xs v = ReadsOn g at xs v
OnFrom (Err e) at xs v = ⊥

-- the last line has its line feed
abbrev pub all_ended : (within : Bool) → List ℕ → Bool
all_ended within [] = not within
all_ended within (c ∷ cs) = all_ended (not (c == 10)) cs

-- ---- one character

on_from : (r : Result Front Broken) (at : ℕ) (xs : List ℕ) (v : Value) → ((r >>= λ g. line_walk g at xs) >>= λ g. ends g.frames g.inner (past at xs)) ≡ Ok v → OnFrom r at xs v
on_from (Ok g) at xs v h = h
on_from (Err e) at xs v h = let q : ◌≡◌ {A = Result Value Broken} (Err e) (Ok v) = h in cc

-- what is taken says how reading goes on
pub step_on : (fs : List Frame) (i : Innermost) (at c : ℕ) (cs : List ℕ) (v : Value) → ReadsOn (front fs i) at (c ∷ cs) v → OnFrom (taken fs i at c (with_returns cs)) (at + len_utf8 c) cs v
unfolding line_walk
step_on fs i at c cs v h = on_from (taken fs i at c (with_returns cs)) (at + len_utf8 c) cs v h

pub step_by : (fs : List Frame) (i : Innermost) (r : Result Front Broken) (at c : ℕ) (cs : List ℕ) (v : Value) → taken fs i at c (with_returns cs) ≡ r → ReadsOn (front fs i) at (c ∷ cs) v → OnFrom r (at + len_utf8 c) cs v
step_by fs i r at c cs v e h = subst (λ (q : Result Front Broken). OnFrom q (at + len_utf8 c) cs v) e (step_on fs i at c cs v h)

-- what was taken, with the front after it
pub record Taken (r : Result Front Broken) (at : ℕ) (xs : List ℕ) (v : Value) : Type 0 where
  pub front : Front
  pub is : r ≡ Ok front
  pub on : ReadsOn front at xs v

pub was_taken : (r : Result Front Broken) (at : ℕ) (xs : List ℕ) (v : Value) → OnFrom r at xs v → Taken r at xs v
was_taken (Ok g) at xs v h = record { front = g; is = refl; on = h }
was_taken (Err e) at xs v h = absurd h

-- within a line there is more
pub not_end : (xs : List ℕ) (P : List ℕ → Type 0) → all_ended true xs ≡ true → ((c : ℕ) (cs : List ℕ) → all_ended (not (c == 10)) cs ≡ true → P (c ∷ cs)) → P xs
not_end [] P h f = absurd (let q : false ≡ true = h in cc)
not_end (c ∷ cs) P h f = f c cs h

-- ---- what follows

pub no_feed_ahead : (cs : List ℕ) → begins_with 10 (with_returns cs) ≡ false
no_feed_ahead [] = refl
no_feed_ahead (c ∷ cs) = elim (cases_Bool (c == 10)) [ inl e ↦ rw e refl | inr e ↦ rw e e ]

pub word_ahead : (cs : List ℕ) → ends_word (with_returns cs) ≡ word_ends true cs
word_ahead [] = refl
word_ahead (c ∷ cs) = elim (cases_Bool (c == 10)) [
  | inl e ↦ let f : (c == 32) ≡ false = subst (λ (k : ℕ). (k == 32) ≡ false) (is_that c 10 e) refl in rw (e, f) refl
  | inr e ↦ rw (e, no_feed_ahead cs) (elim (cases_Bool (c == 13)) [ inl g ↦ rw g (rw e refl) | inr g ↦ rw g (rw e refl) ])
]

pub first_ahead : (cs : List ℕ) (d : ℕ) → (13 == d) ≡ false → (10 == d) ≡ false → begins_with d (with_returns cs) ≡ begins_with d cs
first_ahead [] d a b = refl
first_ahead (c ∷ cs) d a b = elim (cases_Bool (c == 10)) [
  | inl e ↦ rw e (a ∙ sym (subst (λ (k : ℕ). (k == d) ≡ false) (is_that c 10 e) b))
  | inr e ↦ rw e refl
]

pub no_second : (c d : ℕ) → (d == 45) ≡ false → (d == 46) ≡ false → (((c == 45) || (c == 46)) && (d == c)) ≡ false
no_second c d g h = elim (cases_Bool (c == 45)) [
  | inl e ↦ let k : (d == c) ≡ false = subst (λ (x : ℕ). (d == x) ≡ false) (is_that c 45 e) g in rw (e, k) refl
  | inr e ↦ elim (cases_Bool (c == 46)) [
    | inl f ↦ let k : (d == c) ≡ false = subst (λ (x : ℕ). (d == x) ≡ false) (is_that c 46 f) h in rw (e, f, k) refl
    | inr f ↦ rw (e, f) refl
  ]
]

pub no_third : (a b d : Bool) → (a && d) ≡ false → ((a && b) && d) ≡ false
no_third true true d h = h
no_third true false d h = refl
no_third false b d h = refl

pub feed_is_no_second : (c d : ℕ) → (d == 10) ≡ true → (((c == 45) || (c == 46)) && (d == c)) ≡ false
feed_is_no_second c d e = no_second c d (subst (λ (k : ℕ). (k == 45) ≡ false) (is_that d 10 e) refl) (subst (λ (k : ℕ). (k == 46) ≡ false) (is_that d 10 e) refl)

pub mark_ahead : (cs : List ℕ) (c : ℕ) → begins_mark c (with_returns cs) ≡ is_mark true c cs
mark_ahead [] c = refl
mark_ahead (d ∷ []) c = elim (cases_Bool (d == 10)) [
  | inl e ↦ let k : (((c == 45) || (c == 46)) && (13 == c)) ≡ false = no_second c 13 refl refl in rw (e, k) refl
  | inr e ↦ rw e refl
]
mark_ahead (d ∷ e ∷ more) c =
    let k : (((c == 45) || (c == 46)) && (13 == c)) ≡ false = no_second c 13 refl refl in
    elim (cases_Bool (d == 10)) [
      | inl f ↦ let l : (((c == 45) || (c == 46)) && (d == c)) ≡ false = feed_is_no_second c d f in rw (f, k, l) refl
      | inr f ↦ elim (cases_Bool (e == 10)) [
        | inl g ↦
            let l : ((((c == 45) || (c == 46)) && (d == c)) && (13 == c)) ≡ false = no_third _ (d == c) (13 == c) k in
            let m : ((((c == 45) || (c == 46)) && (d == c)) && (e == c)) ≡ false = no_third _ (d == c) (e == c) (feed_is_no_second c e g) in
            rw (f, g, l, m) refl
        | inr g ↦ rw (f, g, word_ahead more) refl
      ]
    ]

-- ---- the start of a line

-- no space, line feed, tab or `#`
abbrev pub is_content : ℕ → Bool
is_content c = not (c == 32) && not (c == 10) && not (c == 9) && not (c == 35)

-- the character at the end of this indentation, with how reading goes on
pub record Begins (r : ℕ → ℕ → List ℕ → Result Front Broken) (s : ℕ) (rest : List ℕ) (v : Value) : Type 0 where
  pub indent : ℕ
  pub first : ℕ
  pub more : List ℕ
  pub parts : rest ≡ spaces indent ++ first ∷ more
  pub content : is_content first ≡ true
  pub ended : all_ended true more ≡ true
  pub front : Front
  pub taken : r (s + indent) first (with_returns more) ≡ Ok front
  pub on : ReadsOn front (s + indent + len_utf8 first) more v

-- a line without gaps before it begins at s, where the innermost value is as waiting says
abbrev pub AtContent : List Frame → Waiting → (s : ℕ) → (rest : List ℕ) → Value → Type 0
AtContent fs w s rest v = ((rest ≡ []) × (ends fs (AtLine s w) s ≡ Ok v)) ⊎ Begins (λ at c more. line_content fs w s at c more) s rest v

-- after a whole value a line with content is no mark, and closes blocks
abbrev pub close_line : List Frame → Value → (start at c : ℕ) → (rest : List ℕ) → Result Front Broken
close_line fs u start at c rest = if ((at - start) == 0) && begins_mark c rest then left_out at else settle fs u start at c rest

-- the innermost value is whole, and what follows from the start s of a line on is no part of it
abbrev pub Closed : List Frame → Value → (s : ℕ) → (rest : List ℕ) → Value → Type 0
Closed fs u s rest v = ((rest ≡ []) × (all_closed fs u ≡ v)) ⊎ Begins (λ at c more. close_line fs u s at c more) s rest v
