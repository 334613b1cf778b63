-- How the texts of written files are read, a character at a time.
use Rattle.std.proofs.Common.{◌≡◌, ℕ, zero, suc, ◌+◌, Bool, true, false, ◌&&◌, ◌==◌, List, [], ◌∷◌, ◌++◌, Result, Ok, refl, sym, ap, subst, ◌∙◌, arith, inl, inr}
use Rattle.std.specs.List.{list_all}
use Rattle.std.specs.Char.{len_utf8}
use Rattle.std.proofs.lemmas.Bool.{and_parts, cases_Bool}
use Rattle.yaml_profile.specs.declared.stop.Broken.{Broken}
use Rattle.yaml_profile.specs.declared.front.Role.{Role}
use Rattle.yaml_profile.specs.declared.folding.Seam.{Seam}
use Rattle.yaml_profile.specs.declared.folding.Seam.TheVariants.{Inside, Folds, Joins}
use Rattle.yaml_profile.specs.Answers.{◌>>=◌}
use Rattle.yaml_profile.specs.Signs.{is_blank, begins_with, ends_word, is_flow_sign}
use Rattle.yaml_profile.specs.Folding.{Folding, put_blank, after_blank}
use Rattle.yaml_profile.specs.Fronts.{Frame, Waiting, Innermost, AtLine, AtValue, InPlain, AfterQuoted, InComment, Front, front, is_flow}
use Rattle.yaml_profile.specs.Pieces.{in_at_value, in_plain, in_after_quoted}
use Rattle.yaml_profile.specs.Layout.{in_line, in_comment}
use Rattle.yaml_profile.specs.Reading.{taken}
use Rattle.yaml_profile.specs.Written.{spaces, Ending, Bare, Noted, spell_ending, IsApart, is_inner, word_ends, stays_plain, with_solid, with_char, with_chars}
use Rattle.yaml_profile.proofs.ReadSteps.{past, not_true, is_that, with_returns, line_walk, no_feed_ahead}

-- one character
pub goes : (fs : List Frame) (i : Innermost) (g : Front) (at c : ℕ) (rest : List ℕ) → taken fs i at c (with_returns rest) ≡ Ok g
    → line_walk (front fs i) at (c ∷ rest) ≡ line_walk g (at + len_utf8 c) rest
unfolding line_walk
goes fs i g at c rest e = rw e refl

-- the same where another definition says what is taken
pub goes_by : (fs : List Frame) (i : Innermost) (r : Result Front Broken) (at c : ℕ) (rest : List ℕ) → taken fs i at c (with_returns rest) ≡ r
    → line_walk (front fs i) at (c ∷ rest) ≡ (r >>= λ g. line_walk g (at + len_utf8 c) rest)
unfolding line_walk
goes_by fs i r at c rest e = rw e refl

-- ---- spaces

space_line : (fs : List Frame) (s : ℕ) (w : Waiting) (at : ℕ) (rest : List ℕ) → taken fs (AtLine s w) at 32 rest ≡ Ok (front fs (AtLine s w))
unfolding taken in_line
space_line fs s w at rest = refl

pub spaces_line : (n : ℕ) (fs : List Frame) (s : ℕ) (w : Waiting) (at : ℕ) (rest : List ℕ)
    → line_walk (front fs (AtLine s w)) at (spaces n ++ rest) ≡ line_walk (front fs (AtLine s w)) (past at (spaces n)) rest
spaces_line zero fs s w at rest = refl
spaces_line (suc n) fs s w at rest = goes fs (AtLine s w) (front fs (AtLine s w)) at 32 (spaces n ++ rest) (space_line fs s w at (with_returns (spaces n ++ rest))) ∙ spaces_line n fs s w (at + 1) rest

space_value : (fs : List Frame) (s : ℕ) (m sp : Bool) (at : ℕ) (rest : List ℕ) → taken fs (AtValue s m sp) at 32 rest ≡ Ok (front fs (AtValue s m true))
unfolding taken in_at_value
space_value fs s m sp at rest = refl

-- after at least one space
pub spaces_value : (n : ℕ) (fs : List Frame) (s : ℕ) (m : Bool) (at : ℕ) (rest : List ℕ)
    → line_walk (front fs (AtValue s m true)) at (spaces n ++ rest) ≡ line_walk (front fs (AtValue s m true)) (past at (spaces n)) rest
spaces_value zero fs s m at rest = refl
spaces_value (suc n) fs s m at rest =
    goes fs (AtValue s m true) (front fs (AtValue s m true)) at 32 (spaces n ++ rest) (space_value fs s m true at (with_returns (spaces n ++ rest))) ∙ spaces_value n fs s m (at + 1) rest

-- from the colon or dash on
pub some_spaces : (n : ℕ) (fs : List Frame) (s : ℕ) (m sp : Bool) (at : ℕ) (rest : List ℕ)
    → line_walk (front fs (AtValue s m sp)) at (spaces (suc n) ++ rest) ≡ line_walk (front fs (AtValue s m true)) (past at (spaces (suc n))) rest
some_spaces n fs s m sp at rest =
    goes fs (AtValue s m sp) (front fs (AtValue s m true)) at 32 (spaces n ++ rest) (space_value fs s m sp at (with_returns (spaces n ++ rest))) ∙ spaces_value n fs s m (at + 1) rest

space_quoted : (fs : List Frame) (x : List ℕ) (r : Role) (b : ℕ) (sp : Bool) (at : ℕ) (rest : List ℕ) → taken fs (AfterQuoted x r b sp) at 32 rest ≡ Ok (front fs (AfterQuoted x r b true))
unfolding taken in_after_quoted
space_quoted fs x r b sp at rest = refl

-- whether a space stands before what follows so many spaces
abbrev pub spaced_by : Bool → ℕ → Bool
spaced_by sp zero = sp
spaced_by sp (suc n) = true

pub still : (n : ℕ) → spaced_by true n ≡ true
still zero = refl
still (suc n) = refl

pub spaces_quoted : (n : ℕ) (fs : List Frame) (x : List ℕ) (r : Role) (b : ℕ) (sp : Bool) (at : ℕ) (rest : List ℕ)
    → line_walk (front fs (AfterQuoted x r b sp)) at (spaces n ++ rest) ≡ line_walk (front fs (AfterQuoted x r b (spaced_by sp n))) (past at (spaces n)) rest
spaces_quoted zero fs x r b sp at rest = refl
spaces_quoted (suc n) fs x r b sp at rest =
    goes fs (AfterQuoted x r b sp) (front fs (AfterQuoted x r b true)) at 32 (spaces n ++ rest) (space_quoted fs x r b sp at (with_returns (spaces n ++ rest)))
    ∙ (spaces_quoted n fs x r b true (at + 1) rest ∙ ap (λ (v : Bool). line_walk (front fs (AfterQuoted x r b v)) (past (at + 1) (spaces n)) rest) (still n))

-- ---- comments

pub comment_char : (fs : List Frame) (w : Waiting) (at c : ℕ) (rest : List ℕ) → (c == 10) ≡ false → taken fs (InComment w) at c rest ≡ Ok (front fs (InComment w))
unfolding taken in_comment
comment_char fs w at c rest h = rw h refl

comment_end : (fs : List Frame) (w : Waiting) (at : ℕ) (rest : List ℕ) → taken fs (InComment w) at 10 rest ≡ Ok (front fs (AtLine (at + 1) w))
unfolding taken in_comment
comment_end fs w at rest = refl

pub comment_goes : (cs : List ℕ) (fs : List Frame) (w : Waiting) (at : ℕ) (rest : List ℕ) → list_all is_inner cs ≡ true
    → line_walk (front fs (InComment w)) at ((cs ++ 10 ∷ []) ++ rest) ≡ line_walk (front fs (AtLine (past at (cs ++ 10 ∷ [])) w)) (past at (cs ++ 10 ∷ [])) rest
comment_goes [] fs w at rest a = goes fs (InComment w) (front fs (AtLine (at + 1) w)) at 10 rest (comment_end fs w at (with_returns rest))
comment_goes (c ∷ cs) fs w at rest a =
    let h : (is_inner c ≡ true) × (list_all is_inner cs ≡ true) = and_parts _ _ a in
    goes fs (InComment w) (front fs (InComment w)) at c ((cs ++ 10 ∷ []) ++ rest) (comment_char fs w at c (with_returns ((cs ++ 10 ∷ []) ++ rest)) (not_true _ h.0))
    ∙ comment_goes cs fs w (at + len_utf8 c) rest h.1

-- ---- what follows

pub return_ahead : (c : ℕ) (rest : List ℕ) → ((c == 13) && begins_with 10 (with_returns rest)) ≡ false
return_ahead c rest = elim (cases_Bool (c == 13)) [ inl e ↦ rw e (no_feed_ahead rest) | inr e ↦ rw e refl ]

-- ---- what stands after a text

pub record After (ended : Bool) (rest : List ℕ) : Type 0 where
  pub word : ends_word (with_returns rest) ≡ ended
  pub quote : begins_with 39 (with_returns rest) ≡ false
  pub dash : begins_with 45 (with_returns rest) ≡ false
  pub dot : begins_with 46 (with_returns rest) ≡ false

pub after_char : (d : ℕ) (rest : List ℕ) (ended : Bool) → ends_word (with_returns (d ∷ rest)) ≡ ended → begins_with 39 (with_returns (d ∷ rest)) ≡ false → begins_with 45 (with_returns (d ∷ rest)) ≡ false
    → begins_with 46 (with_returns (d ∷ rest)) ≡ false → After ended (d ∷ rest)
after_char d rest ended w a b c = record { word = w; quote = a; dash = b; dot = c }

pub after_spaces : (n : ℕ) (rest : List ℕ) → After true (spaces (suc n) ++ rest)
after_spaces n rest = after_char 32 (spaces n ++ rest) true refl refl refl refl

pub after_ending : (e : Ending) (rest : List ℕ) → IsApart e → After true (spell_ending e ++ rest)
after_ending (Bare zero) rest a = after_char 10 rest true refl refl refl refl
after_ending (Bare (suc n)) rest a = after_char 32 ((spaces n ++ 10 ∷ []) ++ rest) true refl refl refl refl
after_ending (Noted zero text) rest a = absurd (omega arith)
after_ending (Noted (suc n) text) rest a = after_char 32 ((spaces n ++ 35 ∷ (text ++ 10 ∷ [])) ++ rest) true refl refl refl refl

-- ---- plain texts

pub record PlainFacts (flow spaced ended : Bool) (c : ℕ) (cs : List ℕ) : Type 0 where
  pub feed : (c == 10) ≡ false
  pub colon : ((c == 58) && word_ends ended cs) ≡ false
  pub hash : ((c == 35) && spaced) ≡ false
  pub sign : (flow && is_flow_sign c) ≡ false
  pub more : stays_plain flow (c == 32) ended cs ≡ true

pub plain_facts : (flow spaced ended : Bool) (c : ℕ) (cs : List ℕ) → stays_plain flow spaced ended (c ∷ cs) ≡ true → PlainFacts flow spaced ended c cs
plain_facts flow spaced ended c cs h =
    let a = and_parts _ _ h in
    let b = and_parts _ _ a.0 in
    let d = and_parts _ _ b.0 in
    let e = and_parts _ _ d.0 in
    record { feed = not_true _ e.0; colon = not_true _ e.1; hash = not_true _ d.1; sign = not_true _ b.1; more = a.1 }

pub next_word : (cs rest : List ℕ) (ended : Bool) → ends_word (with_returns rest) ≡ ended → ends_word (with_returns (cs ++ rest)) ≡ word_ends ended cs
next_word [] rest ended w = w
next_word (d ∷ ds) rest ended w = elim (cases_Bool (d == 10)) [
  | inl e ↦ let f : (d == 32) ≡ false = subst (λ (k : ℕ). (k == 32) ≡ false) (is_that d 10 e) refl in rw (e, f) refl
  | inr e ↦ rw (e, no_feed_ahead (ds ++ rest)) (elim (cases_Bool (d == 13)) [ inl g ↦ rw g (rw e refl) | inr g ↦ rw g (rw e refl) ])
]

pub swapped : (a b : Bool) → (a && b) ≡ false → (b && a) ≡ false
swapped true true h = cc
swapped true false h = refl
swapped false true h = refl
swapped false false h = refl

pub plain_taken : (fs : List Frame) (t : Folding) (r : Role) (b : ℕ) (flow sp ended : Bool) (at c : ℕ) (cs rest : List ℕ) → PlainFacts flow sp ended c cs → is_flow fs ≡ flow → ends_word (with_returns rest) ≡ ended
    → in_plain fs t r b sp at c (with_returns (cs ++ rest)) ≡ Ok (front fs (InPlain (with_solid t c) r b (c == 32)))
unfolding in_plain
plain_taken fs t r b flow sp ended at c cs rest f l w =
    let e : ends_word (with_returns (cs ++ rest)) ≡ word_ends ended cs = next_word cs rest ended w in
    let k : ((c == 58) && ends_word (with_returns (cs ++ rest))) ≡ false = ap (λ (b : Bool). (c == 58) && b) e ∙ f.colon in
    rw (k, f.hash, f.feed, l, swapped flow (is_flow_sign c) f.sign) (elim (cases_Bool (is_blank c)) [ inl h ↦ rw h refl | inr h ↦ rw h refl ])

plain_char : (fs : List Frame) (t : Folding) (r : Role) (b : ℕ) (flow sp ended : Bool) (at c : ℕ) (cs rest : List ℕ) → PlainFacts flow sp ended c cs → is_flow fs ≡ flow → ends_word (with_returns rest) ≡ ended
    → taken fs (InPlain t r b sp) at c (with_returns (cs ++ rest)) ≡ Ok (front fs (InPlain (with_solid t c) r b (c == 32)))
unfolding taken
plain_char fs t r b flow sp ended at c cs rest f l w = plain_taken fs t r b flow sp ended at c cs rest f l w

pub solid_is : (t : Folding) (c : ℕ) → (c == 10) ≡ false → with_char t c ≡ with_solid t c
solid_is t c h = rw h refl

-- whether a space stands before what follows these characters
abbrev pub spaced_after : Bool → List ℕ → Bool
spaced_after sp [] = sp
spaced_after sp (c ∷ cs) = spaced_after (c == 32) cs

pub chars_go : (cs : List ℕ) (fs : List Frame) (t : Folding) (r : Role) (b : ℕ) (flow sp ended : Bool) (at : ℕ) (rest : List ℕ) → stays_plain flow sp ended cs ≡ true → is_flow fs ≡ flow → ends_word (with_returns rest) ≡ ended
    → line_walk (front fs (InPlain t r b sp)) at (cs ++ rest) ≡ line_walk (front fs (InPlain (with_chars t cs) r b (spaced_after sp cs))) (past at cs) rest
chars_go [] fs t r b flow sp ended at rest h l w = refl
chars_go (c ∷ cs) fs t r b flow sp ended at rest h l w =
    let f : PlainFacts flow sp ended c cs = plain_facts flow sp ended c cs h in
    goes fs (InPlain t r b sp) (front fs (InPlain (with_solid t c) r b (c == 32))) at c (cs ++ rest) (plain_char fs t r b flow sp ended at c cs rest f l w)
    ∙ (ap (λ (u : Folding). line_walk (front fs (InPlain u r b (c == 32))) (at + len_utf8 c) (cs ++ rest)) (sym (solid_is t c f.feed))
    ∙ chars_go cs fs (with_char t c) r b flow (c == 32) ended (at + len_utf8 c) rest f.more l w)

space_plain : (fs : List Frame) (t : Folding) (r : Role) (begun : ℕ) (sp : Bool) (at : ℕ) (rest : List ℕ) → taken fs (InPlain t r begun sp) at 32 rest ≡ Ok (front fs (InPlain (put_blank t 32) r begun true))
unfolding taken in_plain
space_plain fs t r begun sp at rest = refl

pub spaces_plain : (n : ℕ) (fs : List Frame) (t : Folding) (r : Role) (begun : ℕ) (sp : Bool) (at : ℕ) (rest : List ℕ)
    → line_walk (front fs (InPlain t r begun sp)) at (spaces n ++ rest) ≡ line_walk (front fs (InPlain (with_chars t (spaces n)) r begun (spaced_by sp n))) (past at (spaces n)) rest
spaces_plain zero fs t r begun sp at rest = refl
spaces_plain (suc n) fs t r begun sp at rest =
    goes fs (InPlain t r begun sp) (front fs (InPlain (put_blank t 32) r begun true)) at 32 (spaces n ++ rest) (space_plain fs t r begun sp at (with_returns (spaces n ++ rest)))
    ∙ (spaces_plain n fs (put_blank t 32) r begun true (at + 1) rest
    ∙ ap (λ (v : Bool). line_walk (front fs (InPlain (with_chars (put_blank t 32) (spaces n)) r begun v)) (past (at + 1) (spaces n)) rest) (still n))

-- blanks are no part of the text so far
by_seam : (m : Seam) (t : Folding) (c : ℕ) → (after_blank m t c).text ≡ t.text
by_seam Inside t c = refl
by_seam Folds t c = refl
by_seam Joins t c = refl

pub spaces_text : (n : ℕ) (t : Folding) → (with_chars t (spaces n)).text ≡ t.text
spaces_text zero t = refl
spaces_text (suc n) t = spaces_text n (put_blank t 32) ∙ by_seam t.seam t 32
