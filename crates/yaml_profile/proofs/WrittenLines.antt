-- How lines end, and how scalars and keys stand on them.
use Rattle.std.proofs.Common.{◌≡◌, ℕ, zero, suc, ◌+◌, Bool, true, false, ◌&&◌, ◌==◌, List, [], ◌∷◌, ◌++◌, Result, Ok, if◌then◌else◌, refl, sym, ap, ◌∙◌, arith, append_assoc, inl, inr}
use Rattle.std.specs.Char.{len_utf8}
use Rattle.std.specs.List.{list_all}
use Rattle.std.proofs.lemmas.Bool.{and_parts, cases_Bool}
use Rattle.edt_base.specs.YamlData.{Value, a_text, null}
use Rattle.yaml_profile.specs.declared.stop.Broken.{Broken}
use Rattle.yaml_profile.specs.declared.front.Role.{Role}
use Rattle.yaml_profile.specs.declared.front.Role.TheVariants.{Value as ValueOnly, Either}
use Rattle.yaml_profile.specs.declared.folding.Seam.{Seam}
use Rattle.yaml_profile.specs.declared.folding.Seam.TheVariants.{Inside, Folds, Joins}
use Rattle.yaml_profile.specs.Answers.{◌>>=◌, no_text}
use Rattle.yaml_profile.specs.Signs.{begins_with, ends_word, begins_nothing, is_word_sign}
use Rattle.yaml_profile.specs.Scalars.{scalar_of}
use Rattle.yaml_profile.specs.Folding.{Folding, nothing_yet, end_line, after_line}
use Rattle.yaml_profile.specs.Fronts.{Frame, Waiting, Fresh, Nothing, Going, Whole, AtLine, AtValue, InPlain, InSingle, InDouble, AfterQuoted, InComment, Front, front, value_so_far, is_flow}
use Rattle.yaml_profile.specs.Pieces.{in_at_value, in_plain, begin_value, in_after_quoted, in_after_value, is_key_only, is_value_sign}
use Rattle.yaml_profile.specs.Layout.{in_line, one_line_more, ended}
use Rattle.yaml_profile.specs.Reading.{taken}
use Rattle.yaml_profile.specs.Written.{spaces, Ending, Bare, Noted, spell_ending, IsEnding, IsApart, spell_gaps, AreGaps, word_ends, stays_plain, begins_plain, with_char, with_chars, Inner, is_inner_quoted, Double, Single, spell_scalar, spell_inners, double_text, is_line_end, single_text, is_feed, spell_singles}
use Rattle.yaml_profile.proofs.WrittenTexts.{goes, spaces_line, some_spaces, spaces_quoted, spaced_by, comment_goes, next_word, chars_go, spaced_after, spaces_plain, spaces_text}
use Rattle.yaml_profile.proofs.ReadSteps.{line_walk, not_true, past, past_append, with_returns}
use Rattle.yaml_profile.proofs.WrittenQuotes.{MayEnd, role_then, quoted_goes, single_goes}

-- these characters lead to the start of a line, with these collections open and this value read last
pub record Reads (f : Front) (at : ℕ) (xs : List ℕ) (fs : List Frame) (v : Value) : Type 0 where
  pub wait : Waiting
  pub is : value_so_far wait ≡ v
  pub run : (rest : List ℕ) → line_walk f at (xs ++ rest) ≡ line_walk (front fs (AtLine (past at xs) wait)) (past at xs) rest

-- one step leads to another front
pub reads_behind : (f g : Front) (at : ℕ) (xs ys : List ℕ) (fs : List Frame) (v : Value)
    → ((rest : List ℕ) → line_walk f at (xs ++ rest) ≡ line_walk g (past at xs) rest) → Reads g (past at xs) ys fs v → Reads f at (xs ++ ys) fs v
reads_behind f g at xs ys fs v step r = record {
  wait = r.wait;
  is = r.is;
  run = λ rest. ap (λ zs. line_walk f at zs) (append_assoc xs ys rest) ∙ (step (ys ++ rest) ∙ (r.run rest
      ∙ ap (λ m. line_walk (front fs (AtLine m r.wait)) m rest) (sym (past_append xs ys at))));
}

-- what is read may go on
pub reads_on : (f : Front) (at : ℕ) (xs ys : List ℕ) (fs gs : List Frame) (v u : Value)
    → (r : Reads f at xs fs v) → Reads (front fs (AtLine (past at xs) r.wait)) (past at xs) ys gs u → Reads f at (xs ++ ys) gs u
reads_on f at xs ys fs gs v u r q = reads_behind f (front fs (AtLine (past at xs) r.wait)) at xs ys gs u r.run q

pub reads_same : (f : Front) (at : ℕ) (xs : List ℕ) (fs : List Frame) (v u : Value) → v ≡ u → Reads f at xs fs v → Reads f at xs fs u
reads_same f at xs fs v u e r = record { wait = r.wait; is = r.is ∙ e; run = r.run }

-- ---- lines without content

pub line_feed : (fs : List Frame) (s : ℕ) (w : Waiting) (at : ℕ) (rest : List ℕ) → taken fs (AtLine s w) at 10 rest ≡ Ok (front fs (AtLine (at + 1) (one_line_more w)))
unfolding taken in_line
line_feed fs s w at rest = refl

pub line_hash : (fs : List Frame) (s : ℕ) (w : Waiting) (at : ℕ) (rest : List ℕ) → taken fs (AtLine s w) at 35 rest ≡ Ok (front fs (InComment (ended w)))
unfolding taken in_line
line_hash fs s w at rest = refl

line_seam : (s : Seam) (t : Folding) → (after_line s t).text ≡ t.text
line_seam Inside t = refl
line_seam Folds t = refl
line_seam Joins t = refl

pub end_line_text : (t : Folding) → (end_line t).text ≡ t.text
end_line_text t = line_seam t.seam t

pub going_is : (t : Folding) → scalar_of (end_line t).text ≡ scalar_of t.text
going_is t = ap scalar_of (end_line_text t)

pub more_is : (w : Waiting) → value_so_far (one_line_more w) ≡ value_so_far w
more_is Fresh = refl
more_is Nothing = refl
more_is (Going t) = going_is t
more_is (Whole v) = refl

pub ended_is : (w : Waiting) → value_so_far (ended w) ≡ value_so_far w
ended_is Fresh = refl
ended_is Nothing = refl
ended_is (Going t) = refl
ended_is (Whole v) = refl

unfoldable pub gap_reads : (e : Ending) (fs : List Frame) (s : ℕ) (w : Waiting) (at : ℕ) → IsEnding e → Reads (front fs (AtLine s w)) at (spell_ending e) fs (value_so_far w)
gap_reads (Bare n) fs s w at h = record {
  wait = one_line_more w;
  is = more_is w;
  run = λ rest. ap (λ zs. line_walk (front fs (AtLine s w)) at zs) (append_assoc (spaces n) (10 ∷ []) rest)
      ∙ (spaces_line n fs s w at (10 ∷ rest)
      ∙ (goes fs (AtLine s w) (front fs (AtLine (past at (spaces n) + 1) (one_line_more w))) (past at (spaces n)) 10 rest (line_feed fs s w (past at (spaces n)) (with_returns rest))
      ∙ ap (λ m. line_walk (front fs (AtLine m (one_line_more w))) m rest) (sym (past_append (spaces n) (10 ∷ []) at))));
}
gap_reads (Noted n text) fs s w at h = record {
  wait = ended w;
  is = ended_is w;
  run = λ rest.
      let m : ℕ = past at (spaces n) in
      let k : List ℕ = text ++ 10 ∷ [] in
      ap (λ zs. line_walk (front fs (AtLine s w)) at zs) (append_assoc (spaces n) (35 ∷ k) rest)
      ∙ (spaces_line n fs s w at (35 ∷ (k ++ rest))
      ∙ (goes fs (AtLine s w) (front fs (InComment (ended w))) m 35 (k ++ rest) (line_hash fs s w m (with_returns (k ++ rest)))
      ∙ (comment_goes text fs (ended w) (m + len_utf8 35) rest h
      ∙ ap (λ p. line_walk (front fs (AtLine p (ended w))) p rest) (sym (past_append (spaces n) (35 ∷ k) at)))));
}

pub gaps_read : (es : List Ending) (fs : List Frame) (s : ℕ) (w : Waiting) (at : ℕ) → s ≡ at → AreGaps es → Reads (front fs (AtLine s w)) at (spell_gaps es) fs (value_so_far w)
gaps_read [] fs s w at same h = record { wait = w; is = refl; run = λ rest. ap (λ m. line_walk (front fs (AtLine m w)) at rest) same }
gaps_read (e ∷ es) fs s w at same h =
    let r : Reads (front fs (AtLine s w)) at (spell_ending e) fs (value_so_far w) = gap_reads e fs s w at h.0 in
    let m : ℕ = past at (spell_ending e) in
    let q : Reads (front fs (AtLine m r.wait)) m (spell_gaps es) fs (value_so_far r.wait) = gaps_read es fs m r.wait m refl h.1 in
    reads_on (front fs (AtLine s w)) at (spell_ending e) (spell_gaps es) fs fs (value_so_far w) (value_so_far w) r (reads_same (front fs (AtLine m r.wait)) m (spell_gaps es) fs (value_so_far r.wait) (value_so_far w) r.is q)

-- what is read, and lines without content after it
pub with_gaps : (es : List Ending) (f : Front) (at : ℕ) (xs : List ℕ) (fs : List Frame) (v : Value) → AreGaps es → Reads f at xs fs v → Reads f at (xs ++ spell_gaps es) fs v
with_gaps es f at xs fs v h r =
    let m : ℕ = past at xs in
    let q : Reads (front fs (AtLine m r.wait)) m (spell_gaps es) fs (value_so_far r.wait) = gaps_read es fs m r.wait m refl h in
    reads_on f at xs (spell_gaps es) fs fs v v r (reads_same (front fs (AtLine m r.wait)) m (spell_gaps es) fs (value_so_far r.wait) v r.is q)

-- ---- the end of a line with content

pub value_feed : (fs : List Frame) (s : ℕ) (m sp : Bool) (at : ℕ) (rest : List ℕ) → taken fs (AtValue s m sp) at 10 rest ≡ Ok (front fs (AtLine (at + 1) Nothing))
unfolding taken in_at_value
value_feed fs s m sp at rest = refl

pub value_hash : (fs : List Frame) (s : ℕ) (m : Bool) (at : ℕ) (rest : List ℕ) → taken fs (AtValue s m true) at 35 rest ≡ Ok (front fs (InComment Nothing))
unfolding taken in_at_value
value_hash fs s m at rest = refl

-- spaces before the end of a line
pub value_spaces : (n : ℕ) (fs : List Frame) (s : ℕ) (m sp : Bool) (at : ℕ) (rest : List ℕ)
    → line_walk (front fs (AtValue s m sp)) at (spaces n ++ rest) ≡ line_walk (front fs (AtValue s m (spaced_by sp n))) (past at (spaces n)) rest
value_spaces zero fs s m sp at rest = refl
value_spaces (suc n) fs s m sp at rest = some_spaces n fs s m sp at rest

-- after a key's colon or a dash: nothing
unfoldable pub nothing_reads : (e : Ending) (fs : List Frame) (s : ℕ) (m sp : Bool) (at : ℕ) → IsEnding e → IsApart e → Reads (front fs (AtValue s m sp)) at (spell_ending e) fs null
nothing_reads (Bare n) fs s m sp at h a = record {
  wait = Nothing;
  is = refl;
  run = λ rest. ap (λ zs. line_walk (front fs (AtValue s m sp)) at zs) (append_assoc (spaces n) (10 ∷ []) rest)
      ∙ (value_spaces n fs s m sp at (10 ∷ rest)
      ∙ (goes fs (AtValue s m (spaced_by sp n)) (front fs (AtLine (past at (spaces n) + 1) Nothing)) (past at (spaces n)) 10 rest (value_feed fs s m (spaced_by sp n) (past at (spaces n)) (with_returns rest))
      ∙ ap (λ p. line_walk (front fs (AtLine p Nothing)) p rest) (sym (past_append (spaces n) (10 ∷ []) at))));
}
nothing_reads (Noted zero text) fs s m sp at h a = absurd (omega arith)
nothing_reads (Noted (suc n) text) fs s m sp at h a = record {
  wait = Nothing;
  is = refl;
  run = λ rest.
      let p : ℕ = past at (spaces (suc n)) in
      let k : List ℕ = text ++ 10 ∷ [] in
      ap (λ zs. line_walk (front fs (AtValue s m sp)) at zs) (append_assoc (spaces (suc n)) (35 ∷ k) rest)
      ∙ (some_spaces n fs s m sp at (35 ∷ (k ++ rest))
      ∙ (goes fs (AtValue s m true) (front fs (InComment Nothing)) p 35 (k ++ rest) (value_hash fs s m p (with_returns (k ++ rest)))
      ∙ (comment_goes text fs Nothing (p + len_utf8 35) rest h
      ∙ ap (λ q. line_walk (front fs (AtLine q Nothing)) q rest) (sym (past_append (spaces (suc n)) (35 ∷ k) at)))));
}

-- ---- scalars

pub plain_feed : (fs : List Frame) (t : Folding) (r : Role) (begun : ℕ) (sp : Bool) (at : ℕ) (rest : List ℕ) → is_key_only r ≡ false
    → taken fs (InPlain t r begun sp) at 10 rest ≡ Ok (front fs (AtLine (at + 1) (Going (end_line t))))
unfolding taken in_plain
plain_feed fs t r begun sp at rest k = rw k refl

pub plain_hash : (fs : List Frame) (t : Folding) (r : Role) (begun at : ℕ) (rest : List ℕ) → is_key_only r ≡ false
    → taken fs (InPlain t r begun true) at 35 rest ≡ Ok (front fs (InComment (Whole (scalar_of t.text))))
unfolding taken in_plain
plain_hash fs t r begun at rest k = rw k refl

-- after a plain text
unfoldable pub plain_ends : (e : Ending) (fs : List Frame) (t : Folding) (r : Role) (begun : ℕ) (sp : Bool) (at : ℕ) → is_key_only r ≡ false → IsEnding e → IsApart e
    → Reads (front fs (InPlain t r begun sp)) at (spell_ending e) fs (scalar_of t.text)
plain_ends (Bare n) fs t r begun sp at k h a =
    let u : Folding = with_chars t (spaces n) in
    record {
      wait = Going (end_line u);
      is = ap scalar_of (end_line_text u ∙ spaces_text n t);
      run = λ rest. ap (λ zs. line_walk (front fs (InPlain t r begun sp)) at zs) (append_assoc (spaces n) (10 ∷ []) rest)
          ∙ (spaces_plain n fs t r begun sp at (10 ∷ rest)
          ∙ (goes fs (InPlain u r begun (spaced_by sp n)) (front fs (AtLine (past at (spaces n) + 1) (Going (end_line u)))) (past at (spaces n)) 10 rest
          (plain_feed fs u r begun (spaced_by sp n) (past at (spaces n)) (with_returns rest) k)
          ∙ ap (λ p. line_walk (front fs (AtLine p (Going (end_line u)))) p rest) (sym (past_append (spaces n) (10 ∷ []) at))));
    }
plain_ends (Noted zero text) fs t r begun sp at k h a = absurd (omega arith)
plain_ends (Noted (suc n) text) fs t r begun sp at k h a =
    let u : Folding = with_chars t (spaces (suc n)) in
    let w : Waiting = Whole (scalar_of u.text) in
    record {
      wait = w;
      is = ap scalar_of (spaces_text (suc n) t);
      run = λ rest.
          let p : ℕ = past at (spaces (suc n)) in
          let x : List ℕ = text ++ 10 ∷ [] in
          ap (λ zs. line_walk (front fs (InPlain t r begun sp)) at zs) (append_assoc (spaces (suc n)) (35 ∷ x) rest)
          ∙ (spaces_plain (suc n) fs t r begun sp at (35 ∷ (x ++ rest))
          ∙ (goes fs (InPlain u r begun true) (front fs (InComment w)) p 35 (x ++ rest) (plain_hash fs u r begun p (with_returns (x ++ rest)) k)
          ∙ (comment_goes text fs w (p + len_utf8 35) rest h
          ∙ ap (λ q. line_walk (front fs (AtLine q w)) q rest) (sym (past_append (spaces (suc n)) (35 ∷ x) at)))));
    }

pub quoted_feed : (fs : List Frame) (x : List ℕ) (r : Role) (begun : ℕ) (sp : Bool) (at : ℕ) (rest : List ℕ) → is_key_only r ≡ false
    → taken fs (AfterQuoted x r begun sp) at 10 rest ≡ Ok (front fs (AtLine (at + 1) (Whole (a_text x))))
unfolding taken in_after_quoted in_after_value
quoted_feed fs x r begun sp at rest k = rw k refl

pub quoted_hash : (fs : List Frame) (x : List ℕ) (r : Role) (begun at : ℕ) (rest : List ℕ) → is_key_only r ≡ false
    → taken fs (AfterQuoted x r begun true) at 35 rest ≡ Ok (front fs (InComment (Whole (a_text x))))
unfolding taken in_after_quoted in_after_value
quoted_hash fs x r begun at rest k = rw k refl

-- after a quoted text
unfoldable pub quoted_ends : (e : Ending) (fs : List Frame) (x : List ℕ) (r : Role) (begun at : ℕ) → is_key_only r ≡ false → IsEnding e → IsApart e
    → Reads (front fs (AfterQuoted x r begun false)) at (spell_ending e) fs (a_text x)
quoted_ends (Bare n) fs x r begun at k h a = record {
  wait = Whole (a_text x);
  is = refl;
  run = λ rest. ap (λ zs. line_walk (front fs (AfterQuoted x r begun false)) at zs) (append_assoc (spaces n) (10 ∷ []) rest)
      ∙ (spaces_quoted n fs x r begun false at (10 ∷ rest)
      ∙ (goes fs (AfterQuoted x r begun (spaced_by false n)) (front fs (AtLine (past at (spaces n) + 1) (Whole (a_text x)))) (past at (spaces n)) 10 rest
      (quoted_feed fs x r begun (spaced_by false n) (past at (spaces n)) (with_returns rest) k)
      ∙ ap (λ p. line_walk (front fs (AtLine p (Whole (a_text x)))) p rest) (sym (past_append (spaces n) (10 ∷ []) at))));
}
quoted_ends (Noted zero text) fs x r begun at k h a = absurd (omega arith)
quoted_ends (Noted (suc n) text) fs x r begun at k h a = record {
  wait = Whole (a_text x);
  is = refl;
  run = λ rest.
      let p : ℕ = past at (spaces (suc n)) in
      let t : List ℕ = text ++ 10 ∷ [] in
      ap (λ zs. line_walk (front fs (AfterQuoted x r begun false)) at zs) (append_assoc (spaces (suc n)) (35 ∷ t) rest)
      ∙ (spaces_quoted (suc n) fs x r begun false at (35 ∷ (t ++ rest))
      ∙ (goes fs (AfterQuoted x r begun true) (front fs (InComment (Whole (a_text x)))) p 35 (t ++ rest)
      (quoted_hash fs x r begun p (with_returns (t ++ rest)) k)
      ∙ (comment_goes text fs (Whole (a_text x)) (p + len_utf8 35) rest h
      ∙ ap (λ q. line_walk (front fs (AtLine q (Whole (a_text x)))) q rest) (sym (past_append (spaces (suc n)) (35 ∷ t) at)))));
}

-- ---- where texts begin

pub record BeginFacts (ended : Bool) (c : ℕ) (cs : List ℕ) : Type 0 where
  pub feed : (c == 10) ≡ false
  pub space : (c == 32) ≡ false
  pub double : (c == 34) ≡ false
  pub single : (c == 39) ≡ false
  pub value : is_value_sign c ≡ false
  pub nothing : begins_nothing c ≡ false
  pub word : (is_word_sign c && word_ends ended cs) ≡ false

pub begin_facts : (ended : Bool) (c : ℕ) (cs : List ℕ) → begins_plain ended c cs ≡ true → BeginFacts ended c cs
begin_facts ended c cs h =
    let a = and_parts _ _ h in
    let b = and_parts _ _ a.0 in
    let d = and_parts _ _ b.0 in
    let e = and_parts _ _ d.0 in
    let f = and_parts _ _ e.0 in
    let g = and_parts _ _ f.0 in
    record { feed = not_true _ g.0; space = not_true _ g.1; double = not_true _ f.1; single = not_true _ e.1; value = not_true _ d.1; nothing = not_true _ b.1; word = not_true _ a.1 }

pub plain_begins : (fs : List Frame) (r : Role) (at : ℕ) (ended : Bool) (c : ℕ) (cs rest : List ℕ) → BeginFacts ended c cs → ends_word (with_returns rest) ≡ ended
    → begin_value fs r at c (with_returns (cs ++ rest)) ≡ Ok (front fs (InPlain (with_char nothing_yet c) r at false))
unfolding begin_value
plain_begins fs r at ended c cs rest f w =
    let e : ends_word (with_returns (cs ++ rest)) ≡ word_ends ended cs = next_word cs rest ended w in
    let k : (is_word_sign c && ends_word (with_returns (cs ++ rest))) ≡ false = ap (λ (b : Bool). is_word_sign c && b) e ∙ f.word in
    rw (f.double, f.single, k, f.value, f.nothing, f.feed, f.space) (elim (cases_Bool (c == 9)) [ inl h ↦ rw h refl | inr h ↦ rw h refl ])

pub quote_begins : (fs : List Frame) (r : Role) (at : ℕ) (rest : List ℕ) → begin_value fs r at 34 rest ≡ Ok (front fs (InDouble nothing_yet r at))
unfolding begin_value
quote_begins fs r at rest = refl

pub single_begins : (fs : List Frame) (r : Role) (at : ℕ) (rest : List ℕ) → begin_value fs r at 39 rest ≡ Ok (front fs (InSingle nothing_yet r at))
unfolding begin_value
single_begins fs r at rest = refl

-- the first character where a value may begin, after a space
abbrev pub role_of : (m : Bool) (column : ℕ) → Role
role_of m column = if m then Either column else ValueOnly

pub no_key : (m : Bool) (column : ℕ) → is_key_only (role_of m column) ≡ false
no_key true column = refl
no_key false column = refl

-- a value begins with the first of these characters, and they are read
abbrev pub begin_run : List Frame → Role → ℕ → List ℕ → Result Front Broken
begin_run fs role at [] = no_text at
begin_run fs role at (c ∷ cs) = begin_value fs role at c (with_returns cs) >>= λ g. line_walk g (at + len_utf8 c) cs

pub begun : (fs : List Frame) (role : Role) (g : Front) (at c : ℕ) (cs : List ℕ) → begin_value fs role at c (with_returns cs) ≡ Ok g → begin_run fs role at (c ∷ cs) ≡ line_walk g (at + len_utf8 c) cs
begun fs role g at c cs e = ap (λ (r : Result Front Broken). r >>= λ h. line_walk h (at + len_utf8 c) cs) e

-- texts from their first character to after their last
pub line_goes : (c : ℕ) (cs : List ℕ) (fs : List Frame) (role : Role) (flow ended : Bool) (at : ℕ) (rest : List ℕ) → begins_plain ended c cs ≡ true → stays_plain flow false ended cs ≡ true → is_flow fs ≡ flow → ends_word (with_returns rest) ≡ ended
    → begin_run fs role at ((c ∷ cs) ++ rest) ≡ line_walk (front fs (InPlain (with_chars nothing_yet (c ∷ cs)) role at (spaced_after false cs))) (past at (c ∷ cs)) rest
line_goes c cs fs role flow ended at rest b l f w =
    begun fs role (front fs (InPlain (with_char nothing_yet c) role at false)) at c (cs ++ rest) (plain_begins fs role at ended c cs rest (begin_facts ended c cs b) w)
    ∙ chars_go cs fs (with_char nothing_yet c) role at flow false ended (at + len_utf8 c) rest l f w

pub double_goes : (xs : List Inner) (fs : List Frame) (role : Role) (at : ℕ) (rest : List ℕ) → list_all is_inner_quoted xs ≡ true → MayEnd is_line_end role xs
    → begin_run fs role at (spell_scalar (Double xs) ++ rest) ≡ line_walk (front fs (AfterQuoted (double_text xs) (role_then is_line_end role xs) at false)) (past at (spell_scalar (Double xs))) rest
double_goes xs fs role at rest l m =
    let ys : List ℕ = spell_inners xs ++ 34 ∷ [] in
    begun fs role (front fs (InDouble nothing_yet role at)) at 34 (ys ++ rest) (quote_begins fs role at (with_returns (ys ++ rest))) ∙ quoted_goes xs fs role at (at + len_utf8 34) rest l m

pub singled_goes : (cs : List ℕ) (fs : List Frame) (role : Role) (at : ℕ) (rest : List ℕ) → MayEnd is_feed role cs → begins_with 39 (with_returns rest) ≡ false
    → begin_run fs role at (spell_scalar (Single cs) ++ rest) ≡ line_walk (front fs (AfterQuoted (single_text cs) (role_then is_feed role cs) at false)) (past at (spell_scalar (Single cs))) rest
singled_goes cs fs role at rest m q =
    let ys : List ℕ = spell_singles cs ++ 39 ∷ [] in
    begun fs role (front fs (InSingle nothing_yet role at)) at 39 (ys ++ rest) (single_begins fs role at (with_returns (ys ++ rest))) ∙ single_goes cs fs role at (at + len_utf8 39) rest m q

-- a value that begins, up to the start of a line
pub record Begun (fs : List Frame) (role : Role) (at : ℕ) (xs : List ℕ) (v : Value) : Type 0 where
  pub wait : Waiting
  pub is : value_so_far wait ≡ v
  pub run : (rest : List ℕ) → begin_run fs role at (xs ++ rest) ≡ line_walk (front fs (AtLine (past at xs) wait)) (past at xs) rest

pub begun_behind : (fs : List Frame) (role : Role) (g : Front) (at : ℕ) (xs ys : List ℕ) (v : Value)
    → ((rest : List ℕ) → begin_run fs role at (xs ++ (ys ++ rest)) ≡ line_walk g (past at xs) (ys ++ rest)) → Reads g (past at xs) ys fs v → Begun fs role at (xs ++ ys) v
begun_behind fs role g at xs ys v step r = record {
  wait = r.wait;
  is = r.is;
  run = λ rest. ap (λ zs. begin_run fs role at zs) (append_assoc xs ys rest) ∙ (step rest ∙ (r.run rest ∙ ap (λ m. line_walk (front fs (AtLine m r.wait)) m rest) (sym (past_append xs ys at))));
}

-- and lines without content after it
pub begun_gaps : (es : List Ending) (fs : List Frame) (role : Role) (at : ℕ) (xs : List ℕ) (v : Value) → AreGaps es → Begun fs role at xs v → Begun fs role at (xs ++ spell_gaps es) v
begun_gaps es fs role at xs v h r =
    let m : ℕ = past at xs in
    let q : Reads (front fs (AtLine m r.wait)) m (spell_gaps es) fs (value_so_far r.wait) = gaps_read es fs m r.wait m refl h in
    begun_behind fs role (front fs (AtLine m r.wait)) at xs (spell_gaps es) v (λ rest. r.run (spell_gaps es ++ rest)) (reads_same (front fs (AtLine m r.wait)) m (spell_gaps es) fs (value_so_far r.wait) v r.is q)
