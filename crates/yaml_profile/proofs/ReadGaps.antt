-- Line ends, and lines without content: what is found of them where they begin.
use Rattle.std.proofs.Common.{◌≡◌, ℕ, zero, suc, ◌+◌, ◌<◌, ◌≤◌, Bool, true, false, ◌&&◌, ◌==◌, List, [], ◌∷◌, ◌++◌, length, Option, Result, Ok, ◌⊎◌, inl, inr, refl, sym, ap, subst, ◌∙◌, arith, append_assoc, length-append}
use Rattle.std.specs.List.{list_all}
use Rattle.std.specs.Char.{len_utf8}
use Rattle.std.proofs.lemmas.Bool.{and_parts, cases_Bool}
use Rattle.edt_base.specs.YamlData.{Value}
use Rattle.yaml_profile.specs.declared.stop.Broken.{Broken}
use Rattle.yaml_profile.specs.Answers.{no_text}
use Rattle.yaml_profile.specs.Signs.{place_of}
use Rattle.yaml_profile.specs.Fronts.{Frame, InMap, InList, InFlow, Waiting, Fresh, Nothing, Going, Whole, AtLine, AfterValue, InComment, Front, front, value_so_far, is_flow, all_closed}
use Rattle.yaml_profile.specs.Pieces.{in_after_value, after_item}
use Rattle.yaml_profile.specs.Layout.{in_line, in_comment, line_content, block_line, flow_line, one_line_more, ended}
use Rattle.yaml_profile.specs.Reading.{taken, ends}
use Rattle.yaml_profile.specs.Written.{spaces, Ending, Bare, Noted, spell_ending, is_inner, IsEnding, IsApart, spell_gaps, AreGaps, Inline, Over, Flow, spell_flow, IsFlow, flow_value, Flowing}
use Rattle.yaml_profile.proofs.ReadSteps.{past, past_append, past_spaces, is_that, with_returns, line_walk, ReadsOn, OnFrom, all_ended, step_by, was_taken, AtContent, close_line, Closed}
use Rattle.yaml_profile.proofs.ReadParts.{LineEnded, Gapped, ItemEnded, LeafRead}
use Rattle.yaml_profile.proofs.WrittenTexts.{comment_char}

-- no plain text may go on there
abbrev pub is_steady : Waiting → Bool
is_steady (Going t) = false
is_steady w = true

-- what is shown of a character is so of one that equals it
pub for_that : (P : ℕ → Type 0) (c d : ℕ) → (c == d) ≡ true → P d → P c
for_that P c d e p = subst P (is_that c d e) p

-- after a character that is no line end the line goes on
pub still_within : (within : Bool) (c : ℕ) (cs : List ℕ) → (c == 10) ≡ false → all_ended within (c ∷ cs) ≡ true → all_ended true cs ≡ true
still_within within c cs e h = rw e at h

-- where nothing follows, the file ends
pub reads_end : (f : Front) (at : ℕ) (v : Value) → ReadsOn f at [] v → ends f.frames f.inner at ≡ Ok v
unfolding line_walk
reads_end f at v h = h

-- ---- comments

pub record Commented (fs : List Frame) (w : Waiting) (at : ℕ) (xs : List ℕ) (v : Value) : Type 0 where
  pub text : List ℕ
  pub rest : List ℕ
  pub parts : xs ≡ text ++ 10 ∷ rest
  pub inner : list_all is_inner text ≡ true
  pub on : ReadsOn (front fs (AtLine (past at (text ++ 10 ∷ [])) w)) (past at (text ++ 10 ∷ [])) rest v
  pub ended : all_ended false rest ≡ true

comment_feed : (fs : List Frame) (w : Waiting) (at : ℕ) (rest : List ℕ) → taken fs (InComment w) at 10 rest ≡ Ok (front fs (AtLine (at + 1) w))
unfolding taken in_comment
comment_feed fs w at rest = refl

comment_end : (fs : List Frame) (w : Waiting) (at : ℕ) (cs : List ℕ) (v : Value) → ReadsOn (front fs (InComment w)) at (10 ∷ cs) v → all_ended true (10 ∷ cs) ≡ true → Commented fs w at (10 ∷ cs) v
comment_end fs w at cs v h lined = record {
  text = [];
  rest = cs;
  parts = refl;
  inner = refl;
  on = step_by fs (InComment w) (Ok (front fs (AtLine (at + 1) w))) at 10 cs v (comment_feed fs w at (with_returns cs)) h;
  ended = lined;
}

comment_more : (fs : List Frame) (w : Waiting) (at c : ℕ) (cs : List ℕ) (v : Value) → (c == 10) ≡ false → Commented fs w (at + len_utf8 c) cs v → Commented fs w at (c ∷ cs) v
comment_more fs w at c cs v e r = record {
  text = c ∷ r.text;
  rest = r.rest;
  parts = ap (λ zs. c ∷ zs) r.parts;
  inner = rw e r.inner;
  on = r.on;
  ended = r.ended;
}

-- a comment, from after its `#` on
pub comment_read : (fs : List Frame) (w : Waiting) (at : ℕ) (xs : List ℕ) (v : Value) → ReadsOn (front fs (InComment w)) at xs v → all_ended true xs ≡ true → Commented fs w at xs v
comment_read fs w at [] v h lined = absurd (let q : false ≡ true = lined in cc)
comment_read fs w at (c ∷ cs) v h lined = elim (cases_Bool (c == 10)) [
  | inl e ↦ for_that (λ d. ReadsOn (front fs (InComment w)) at (d ∷ cs) v → all_ended true (d ∷ cs) ≡ true → Commented fs w at (d ∷ cs) v) c 10 e (comment_end fs w at cs v) h lined
  | inr e ↦ comment_more fs w at c cs v e (comment_read fs w (at + len_utf8 c) cs v
      (step_by fs (InComment w) (Ok (front fs (InComment w))) at c cs v (comment_char fs w at c (with_returns cs) e) h) (still_within true c cs e lined))
]

-- ---- spaces

pub spaces_one_more : (n : ℕ) (cs : List ℕ) → spaces n ++ (32 ∷ cs) ≡ spaces (suc n) ++ cs
spaces_one_more zero cs = refl
spaces_one_more (suc n) cs = ap (λ zs. 32 ∷ zs) (spaces_one_more n cs)

-- a place after spaces and more
pub past_indent : (n at : ℕ) (xs : List ℕ) → past at (spaces n ++ xs) ≡ past (at + n) xs
past_indent n at xs = past_append (spaces n) xs at ∙ ap (λ p. past p xs) (past_spaces n at)

one_place_more : (s n : ℕ) → (s + n) + 1 ≡ s + suc n
one_place_more s n = omega arith

-- ---- the start of a line

steady_more : (w : Waiting) → is_steady w ≡ true → one_line_more w ≡ w
steady_more Fresh h = refl
steady_more Nothing h = refl
steady_more (Going t) h = absurd (let q : false ≡ true = h in cc)
steady_more (Whole v) h = refl

steady_ended : (w : Waiting) → is_steady w ≡ true → ended w ≡ w
steady_ended Fresh h = refl
steady_ended Nothing h = refl
steady_ended (Going t) h = absurd (let q : false ≡ true = h in cc)
steady_ended (Whole v) h = refl

line_space : (fs : List Frame) (w : Waiting) (s at : ℕ) (rest : List ℕ) → taken fs (AtLine s w) at 32 rest ≡ Ok (front fs (AtLine s w))
unfolding taken in_line
line_space fs w s at rest = refl

line_feed : (fs : List Frame) (w : Waiting) (s at : ℕ) (rest : List ℕ) → taken fs (AtLine s w) at 10 rest ≡ Ok (front fs (AtLine (at + 1) (one_line_more w)))
unfolding taken in_line
line_feed fs w s at rest = refl

line_hash : (fs : List Frame) (w : Waiting) (s at : ℕ) (rest : List ℕ) → taken fs (AtLine s w) at 35 rest ≡ Ok (front fs (InComment (ended w)))
unfolding taken in_line
line_hash fs w s at rest = refl

line_tab : (fs : List Frame) (w : Waiting) (s at : ℕ) (rest : List ℕ) → taken fs (AtLine s w) at 9 rest ≡ no_text at
unfolding taken in_line
line_tab fs w s at rest = refl

line_first : (fs : List Frame) (w : Waiting) (s at c : ℕ) (rest : List ℕ) → (c == 32) ≡ false → (c == 10) ≡ false → (c == 9) ≡ false → (c == 35) ≡ false
    → taken fs (AtLine s w) at c rest ≡ line_content fs w s at c rest
unfolding taken in_line
line_first fs w s at c rest a b d e = rw (a, b, d, e) refl

-- a line without content, or the start of one with content
abbrev pub LineRead : List Frame → Waiting → (s : ℕ) → List ℕ → Value → Type 0
LineRead fs w s xs v = LineEnded fs w s xs v ⊎ AtContent fs w s xs v

abbrev pub is_some : ℕ → Bool
is_some zero = false
is_some (suc n) = true

-- n spaces are read
abbrev LineFrom : List Frame → Waiting → (s n : ℕ) → Value → List ℕ → Type 0
LineFrom fs w s n v xs = ReadsOn (front fs (AtLine s w)) (s + n) xs v → all_ended (is_some n) xs ≡ true → LineRead fs w s (spaces n ++ xs) v

blank_read : (fs : List Frame) (w : Waiting) (s n : ℕ) (v : Value) (cs : List ℕ) → is_steady w ≡ true → LineFrom fs w s n v (10 ∷ cs)
blank_read fs w s n v cs steady h lined =
    let p : past s (spaces n ++ 10 ∷ []) ≡ (s + n) + 1 = past_indent n s (10 ∷ []) in
    let k : ReadsOn (front fs (AtLine ((s + n) + 1) (one_line_more w))) ((s + n) + 1) cs v =
    step_by fs (AtLine s w) (Ok (front fs (AtLine ((s + n) + 1) (one_line_more w)))) (s + n) 10 cs v (line_feed fs w s (s + n) (with_returns cs)) h in
    let l : ReadsOn (front fs (AtLine ((s + n) + 1) w)) ((s + n) + 1) cs v = subst (λ (u : Waiting). ReadsOn (front fs (AtLine ((s + n) + 1) u)) ((s + n) + 1) cs v) (steady_more w steady) k in
    inl (record {
      ending = Bare n;
      rest = cs;
      parts = sym (append_assoc (spaces n) (10 ∷ []) cs);
      is = tt;
      on = subst (λ (q : ℕ). ReadsOn (front fs (AtLine q w)) q cs v) (sym p) l;
      ended = lined;
    })

noted_read : (fs : List Frame) (w : Waiting) (s n : ℕ) (v : Value) (cs : List ℕ) → is_steady w ≡ true → LineFrom fs w s n v (35 ∷ cs)
noted_read fs w s n v cs steady h lined =
    let k : ReadsOn (front fs (InComment (ended w))) ((s + n) + 1) cs v =
    step_by fs (AtLine s w) (Ok (front fs (InComment (ended w)))) (s + n) 35 cs v (line_hash fs w s (s + n) (with_returns cs)) h in
    let l : ReadsOn (front fs (InComment w)) ((s + n) + 1) cs v = subst (λ (u : Waiting). ReadsOn (front fs (InComment u)) ((s + n) + 1) cs v) (steady_ended w steady) k in
    let r : Commented fs w ((s + n) + 1) cs v = comment_read fs w ((s + n) + 1) cs v l lined in
    let p : past s (spaces n ++ 35 ∷ (r.text ++ 10 ∷ [])) ≡ past ((s + n) + 1) (r.text ++ 10 ∷ []) = past_indent n s (35 ∷ (r.text ++ 10 ∷ [])) in
    inl (record {
      ending = Noted n r.text;
      rest = r.rest;
      parts = ap (λ zs. spaces n ++ 35 ∷ zs) (r.parts ∙ sym (append_assoc r.text (10 ∷ []) r.rest)) ∙ sym (append_assoc (spaces n) (35 ∷ (r.text ++ 10 ∷ [])) r.rest);
      is = r.inner;
      on = subst (λ (q : ℕ). ReadsOn (front fs (AtLine q w)) q r.rest v) (sym p) r.on;
      ended = r.ended;
    })

tab_read : (fs : List Frame) (w : Waiting) (s n : ℕ) (v : Value) (cs : List ℕ) → LineFrom fs w s n v (9 ∷ cs)
tab_read fs w s n v cs h lined = absurd (step_by fs (AtLine s w) (no_text (s + n)) (s + n) 9 cs v (line_tab fs w s (s + n) (with_returns cs)) h)

content_read : (fs : List Frame) (w : Waiting) (s n c : ℕ) (v : Value) (cs : List ℕ) → (c == 32) ≡ false → (c == 10) ≡ false → (c == 9) ≡ false → (c == 35) ≡ false → LineFrom fs w s n v (c ∷ cs)
content_read fs w s n c v cs a b d e h lined =
    let r = was_taken (line_content fs w s (s + n) c (with_returns cs)) ((s + n) + len_utf8 c) cs v
    (step_by fs (AtLine s w) (line_content fs w s (s + n) c (with_returns cs)) (s + n) c cs v (line_first fs w s (s + n) c (with_returns cs) a b d e) h) in
    inr (inr (record {
      indent = n;
      first = c;
      more = cs;
      parts = refl;
      content = rw (a, b, d, e) refl;
      ended = still_within (is_some n) c cs b lined;
      front = r.front;
      taken = r.is;
      on = r.on;
    }))

no_line : (fs : List Frame) (w : Waiting) (s n : ℕ) (v : Value) → LineFrom fs w s n v []
no_line fs w s zero v h lined = inr (inl (refl, subst (λ (q : ℕ). ends fs (AtLine s w) q ≡ Ok v) (let e : s + 0 ≡ s = omega arith in e) (reads_end (front fs (AtLine s w)) (s + 0) v h)))
no_line fs w s (suc n) v h lined = absurd (let q : false ≡ true = lined in cc)

space_read : (fs : List Frame) (w : Waiting) (s n : ℕ) (v : Value) (cs : List ℕ) → LineFrom fs w s (suc n) v cs → LineFrom fs w s n v (32 ∷ cs)
space_read fs w s n v cs next h lined =
    let k : ReadsOn (front fs (AtLine s w)) ((s + n) + 1) cs v = step_by fs (AtLine s w) (Ok (front fs (AtLine s w))) (s + n) 32 cs v (line_space fs w s (s + n) (with_returns cs)) h in
    subst (λ (zs : List ℕ). LineRead fs w s zs v) (sym (spaces_one_more n cs))
    (next (subst (λ (q : ℕ). ReadsOn (front fs (AtLine s w)) q cs v) (one_place_more s n) k) lined)

line_from : (xs : List ℕ) (fs : List Frame) (w : Waiting) (s n : ℕ) (v : Value) → is_steady w ≡ true → LineFrom fs w s n v xs
line_from [] fs w s n v steady = no_line fs w s n v
line_from (c ∷ cs) fs w s n v steady = elim (cases_Bool (c == 32)) [
  | inl e ↦ for_that (λ d. LineFrom fs w s n v (d ∷ cs)) c 32 e (space_read fs w s n v cs (line_from cs fs w s (suc n) v steady))
  | inr a ↦ elim (cases_Bool (c == 10)) [
    | inl e ↦ for_that (λ d. LineFrom fs w s n v (d ∷ cs)) c 10 e (blank_read fs w s n v cs steady)
    | inr b ↦ elim (cases_Bool (c == 9)) [
      | inl e ↦ for_that (λ d. LineFrom fs w s n v (d ∷ cs)) c 9 e (tab_read fs w s n v cs)
      | inr d ↦ elim (cases_Bool (c == 35)) [
        | inl e ↦ for_that (λ d. LineFrom fs w s n v (d ∷ cs)) c 35 e (noted_read fs w s n v cs steady)
        | inr e ↦ content_read fs w s n c v cs a b d e
      ]
    ]
  ]
]

pub line_read : (fs : List Frame) (w : Waiting) (s : ℕ) (xs : List ℕ) (v : Value) → is_steady w ≡ true → ReadsOn (front fs (AtLine s w)) s xs v → all_ended false xs ≡ true → LineRead fs w s xs v
line_read fs w s xs v steady h lined = line_from xs fs w s 0 v steady (subst (λ (q : ℕ). ReadsOn (front fs (AtLine s w)) q xs v) (let e : s ≡ s + 0 = omega arith in e) h) lined

-- ---- lines without content

ending_length : (e : Ending) → 0 < length (spell_ending e)
ending_length (Bare n) = let l : length (spaces n ++ 10 ∷ []) ≡ length (spaces n) + 1 = length-append (spaces n) (10 ∷ []) in omega arith
ending_length (Noted n text) = let l : length (spaces n ++ 35 ∷ (text ++ 10 ∷ [])) ≡ length (spaces n) + suc (length (text ++ 10 ∷ [])) = length-append (spaces n) (35 ∷ (text ++ 10 ∷ [])) in omega arith

-- what stands after a line end is shorter
pub shorter : (e : Ending) (xs rest : List ℕ) (m : ℕ) → xs ≡ spell_ending e ++ rest → length xs ≤ suc m → length rest ≤ m
shorter e xs rest m parts l =
    let a : length xs ≡ length (spell_ending e) + length rest = ap length parts ∙ length-append (spell_ending e) rest in
    let b : 0 < length (spell_ending e) = ending_length e in
    omega arith

gap_before : (fs : List Frame) (w : Waiting) (s : ℕ) (xs : List ℕ) (v : Value) → (e : LineEnded fs w s xs v) → Gapped fs w (past s (spell_ending e.ending)) e.rest v → Gapped fs w s xs v
gap_before fs w s xs v e g = record {
  gaps = e.ending ∷ g.gaps;
  rest = g.rest;
  parts = e.parts ∙ (ap (λ zs. spell_ending e.ending ++ zs) g.parts ∙ sym (append_assoc (spell_ending e.ending) (spell_gaps g.gaps) g.rest));
  are = (e.is, g.are);
  next = subst (λ (q : ℕ). AtContent fs w q g.rest v) (sym (past_append (spell_ending e.ending) (spell_gaps g.gaps) s)) g.next;
  ended = g.ended;
}

no_gaps : (fs : List Frame) (w : Waiting) (s : ℕ) (xs : List ℕ) (v : Value) → all_ended false xs ≡ true → AtContent fs w s xs v → Gapped fs w s xs v
no_gaps fs w s xs v lined h = record { gaps = []; rest = xs; parts = refl; are = tt; next = h; ended = lined }

nothing_left : (xs : List ℕ) → length xs ≤ 0 → xs ≡ []
nothing_left [] l = refl
nothing_left (x ∷ xs) l = absurd (omega arith)

gaps_in : (m : ℕ) (fs : List Frame) (w : Waiting) (s : ℕ) (xs : List ℕ) (v : Value) → length xs ≤ m → is_steady w ≡ true → all_ended false xs ≡ true → ReadsOn (front fs (AtLine s w)) s xs v → Gapped fs w s xs v
gaps_in zero fs w s xs v l steady lined h = no_gaps fs w s xs v lined (inl (nothing_left xs l, reads_end (front fs (AtLine s w)) s v (subst (λ (zs : List ℕ). ReadsOn (front fs (AtLine s w)) s zs v) (nothing_left xs l) h)))
gaps_in (suc m) fs w s xs v l steady lined h = elim (line_read fs w s xs v steady h lined) [
  | inl e ↦ gap_before fs w s xs v e (gaps_in m fs w (past s (spell_ending e.ending)) e.rest v (shorter e.ending xs e.rest m e.parts l) steady e.ended e.on)
  | inr g ↦ no_gaps fs w s xs v lined g
]

-- from the start of a line on: lines without content
pub gaps_read : (fs : List Frame) (w : Waiting) (s : ℕ) (xs : List ℕ) (v : Value) → is_steady w ≡ true → all_ended false xs ≡ true → ReadsOn (front fs (AtLine s w)) s xs v → Gapped fs w s xs v
gaps_read fs w s xs v steady lined h = gaps_in (length xs) fs w s xs v (let l : length xs ≤ length xs = omega arith in l) steady lined h

-- ---- outside flow lists

end_value : (fs : List Frame) (u : Value) (s : ℕ) (v : Value) → is_flow fs ≡ false → ends fs (AtLine s (Whole u)) s ≡ Ok v → all_closed fs u ≡ v
unfolding ends
end_value fs u s v flow h = let e : ◌≡◌ {A = Result Value Broken} (Ok (all_closed fs u)) (Ok v) = rw flow at h in cc

whole_line : (fs : List Frame) (u : Value) (s at c : ℕ) (rest : List ℕ) (f : Front) → is_flow fs ≡ false → line_content fs (Whole u) s at c rest ≡ Ok f → close_line fs u s at c rest ≡ Ok f
unfolding line_content block_line
whole_line fs u s at c rest f flow h = rw flow at h

-- where a value is whole, the line after it is none of it
pub closed_whole : (fs : List Frame) (u : Value) (s : ℕ) (rest : List ℕ) (v : Value) → is_flow fs ≡ false → AtContent fs (Whole u) s rest v → Closed fs u s rest v
closed_whole fs u s rest v flow (inl h) = inl (h.0, end_value fs u s v flow h.1)
closed_whole fs u s rest v flow (inr b) = inr (record {
  indent = b.indent;
  first = b.first;
  more = b.more;
  parts = b.parts;
  content = b.content;
  ended = b.ended;
  front = b.front;
  taken = whole_line fs u s (s + b.indent) b.first (with_returns b.more) b.front flow b.taken;
  on = b.on;
})

-- ---- after a value

-- after spaces a character that doesn't end the line
pub record SignRead (fs : List Frame) (u : Value) (at : ℕ) (xs : List ℕ) (v : Value) : Type 0 where
  pub indent : ℕ
  pub sign : ℕ
  pub rest : List ℕ
  pub parts : xs ≡ spaces indent ++ sign ∷ rest
  pub front : Front
  pub after : after_item fs u (past at (spaces indent)) sign ≡ Ok front
  pub on : ReadsOn front (past at (spaces indent) + len_utf8 sign) rest v
  pub ended : all_ended true rest ≡ true

-- after a value a line ends, with a space before a comment, or an indicator stands
abbrev pub AfterRead : List Frame → Waiting → (spaced : Bool) → (at : ℕ) → List ℕ → Value → Type 0
AfterRead fs w spaced at xs v = ((e : LineEnded fs w at xs v) × (spaced ≡ false → IsApart e.ending)) ⊎ SignRead fs (value_so_far w) at xs v

-- with one space more
abbrev pub indented : Ending → Ending
indented (Bare n) = Bare (suc n)
indented (Noted n text) = Noted (suc n) text

indented_spells : (e : Ending) → spell_ending (indented e) ≡ 32 ∷ spell_ending e
indented_spells (Bare n) = refl
indented_spells (Noted n text) = refl

indented_is : (e : Ending) → IsEnding e → IsEnding (indented e)
indented_is (Bare n) h = h
indented_is (Noted n text) h = h

indented_apart : (e : Ending) → IsApart (indented e)
indented_apart (Bare n) = tt
indented_apart (Noted n text) = let l : 0 < suc n = omega arith in l

-- a space more before what ends the line
pub space_before : (fs : List Frame) (w : Waiting) (spaced next : Bool) (at : ℕ) (cs : List ℕ) (v : Value) → AfterRead fs w next (at + 1) cs v → AfterRead fs w spaced at (32 ∷ cs) v
space_before fs w spaced next at cs v (inl h) =
    let e : LineEnded fs w (at + 1) cs v = h.0 in
    let p : past at (spell_ending (indented e.ending)) ≡ past (at + 1) (spell_ending e.ending) = ap (past at) (indented_spells e.ending) in
    inl (
      record {
        ending = indented e.ending;
        rest = e.rest;
        parts = ap (λ zs. 32 ∷ zs) e.parts ∙ sym (ap (λ zs. zs ++ e.rest) (indented_spells e.ending));
        is = indented_is e.ending e.is;
        on = subst (λ (q : ℕ). ReadsOn (front fs (AtLine q w)) q e.rest v) (sym p) e.on;
        ended = e.ended;
      },
      λ g. indented_apart e.ending,
    )
space_before fs w spaced next at cs v (inr r) = inr (record {
  indent = suc r.indent;
  sign = r.sign;
  rest = r.rest;
  parts = ap (λ zs. 32 ∷ zs) r.parts;
  front = r.front;
  after = r.after;
  on = r.on;
  ended = r.ended;
})

-- a character after a value, no space
abbrev AfterFrom : List Frame → Waiting → (spaced : Bool) → (at : ℕ) → List ℕ → Value → ℕ → Type 0
AfterFrom fs w spaced at cs v c = all_ended true (c ∷ cs) ≡ true → OnFrom (in_after_value fs w spaced at c) (at + len_utf8 c) cs v → AfterRead fs w spaced at (c ∷ cs) v

after_feed : (fs : List Frame) (w : Waiting) (spaced : Bool) (at : ℕ) (cs : List ℕ) (v : Value) → AfterFrom fs w spaced at cs v 10
unfolding in_after_value
after_feed fs w spaced at cs v lined h = inl (record { ending = Bare 0; rest = cs; parts = refl; is = tt; on = h; ended = lined }, λ g. tt)

after_note : (fs : List Frame) (w : Waiting) (at : ℕ) (cs : List ℕ) (v : Value) → AfterFrom fs w true at cs v 35
unfolding in_after_value
after_note fs w at cs v lined h =
    let r : Commented fs w (at + 1) cs v = comment_read fs w (at + 1) cs v h lined in
    inl (
      record {
        ending = Noted 0 r.text;
        rest = r.rest;
        parts = ap (λ zs. 35 ∷ zs) (r.parts ∙ sym (append_assoc r.text (10 ∷ []) r.rest));
        is = r.inner;
        on = r.on;
        ended = r.ended;
      },
      λ g. absurd (let q : true ≡ false = g in cc),
    )

after_sign : (fs : List Frame) (w : Waiting) (spaced : Bool) (at c : ℕ) (cs : List ℕ) (v : Value) → (c == 32) ≡ false → (c == 10) ≡ false → ((c == 35) && spaced) ≡ false → AfterFrom fs w spaced at cs v c
unfolding in_after_value
after_sign fs w spaced at c cs v a b d lined h =
    let r = was_taken (after_item fs (value_so_far w) at c) (at + len_utf8 c) cs v (rw (a, b, d) at h) in
    inr (record { indent = 0; sign = c; rest = cs; parts = refl; front = r.front; after = r.is; on = r.on; ended = still_within true c cs b lined })

pub after_char : (fs : List Frame) (w : Waiting) (spaced : Bool) (at c : ℕ) (cs : List ℕ) (v : Value) → (c == 32) ≡ false → AfterFrom fs w spaced at cs v c
after_char fs w spaced at c cs v a = elim (cases_Bool (c == 10)) [
  | inl e ↦ for_that (AfterFrom fs w spaced at cs v) c 10 e (after_feed fs w spaced at cs v)
  | inr b ↦ elim (cases_Bool ((c == 35) && spaced)) [
    | inl e ↦
        let p : ((c == 35) ≡ true) × (spaced ≡ true) = and_parts _ _ e in
        subst (λ (q : Bool). AfterFrom fs w q at cs v c) (sym p.1) (for_that (AfterFrom fs w true at cs v) c 35 p.0 (after_note fs w at cs v))
    | inr d ↦ after_sign fs w spaced at c cs v a b d
  ]
]

after_space : (fs : List Frame) (w : Waiting) (spaced : Bool) (at : ℕ) (rest : List ℕ) → taken fs (AfterValue w spaced) at 32 rest ≡ Ok (front fs (AfterValue w true))
unfolding taken in_after_value
after_space fs w spaced at rest = refl

after_taken : (fs : List Frame) (w : Waiting) (spaced : Bool) (at c : ℕ) (rest : List ℕ) → taken fs (AfterValue w spaced) at c rest ≡ in_after_value fs w spaced at c
unfolding taken
after_taken fs w spaced at c rest = refl

pub after_read : (fs : List Frame) (w : Waiting) (spaced : Bool) (at : ℕ) (xs : List ℕ) (v : Value) → all_ended true xs ≡ true → ReadsOn (front fs (AfterValue w spaced)) at xs v → AfterRead fs w spaced at xs v
after_read fs w spaced at [] v lined h = absurd (let q : false ≡ true = lined in cc)
after_read fs w spaced at (c ∷ cs) v lined h = elim (cases_Bool (c == 32)) [
  | inl e ↦ for_that (λ d. all_ended true (d ∷ cs) ≡ true → ReadsOn (front fs (AfterValue w spaced)) at (d ∷ cs) v → AfterRead fs w spaced at (d ∷ cs) v) c 32 e
      (λ l g. space_before fs w spaced true at cs v (after_read fs w true (at + 1) cs v l
      (step_by fs (AfterValue w spaced) (Ok (front fs (AfterValue w true))) at 32 cs v (after_space fs w spaced at (with_returns cs)) g))) lined h
  | inr e ↦ after_char fs w spaced at c cs v e lined (step_by fs (AfterValue w spaced) (in_after_value fs w spaced at c) at c cs v (after_taken fs w spaced at c (with_returns cs)) h)
]

no_item : (fs : List Frame) (u : Value) (at c : ℕ) → is_flow fs ≡ false → after_item fs u at c ≡ no_text (place_of at c)
unfolding after_item
no_item [] u at c flow = refl
no_item (InMap column keys values ∷ fs) u at c flow = refl
no_item (InList column items ∷ fs) u at c flow = refl
no_item (InFlow items ∷ fs) u at c flow = absurd (let q : true ≡ false = flow in cc)

-- outside flow lists no indicator stands after a value
pub no_sign : {A : Type 0} (fs : List Frame) (u : Value) (at c : ℕ) (f : Front) → is_flow fs ≡ false → after_item fs u at c ≡ Ok f → A
no_sign fs u at c f flow h = absurd (let q : ◌≡◌ {A = Result Front Broken} (no_text (place_of at c)) (Ok f) = sym (no_item fs u at c flow) ∙ h in cc)

-- outside flow lists the line ends
pub ended_after : (fs : List Frame) (w : Waiting) (spaced : Bool) (at : ℕ) (xs : List ℕ) (v : Value) → is_flow fs ≡ false → AfterRead fs w spaced at xs v → (e : LineEnded fs w at xs v) × (spaced ≡ false → IsApart e.ending)
ended_after fs w spaced at xs v flow (inl h) = h
ended_after fs w spaced at xs v flow (inr r) = no_sign fs (value_so_far w) (past at (spaces r.indent)) r.sign r.front flow r.after

-- a line ends after a value outside flow lists
pub after_value_read : (fs : List Frame) (w : Waiting) (sp : Bool) (at : ℕ) (xs : List ℕ) (v : Value) → is_flow fs ≡ false → all_ended true xs ≡ true → ReadsOn (front fs (AfterValue w sp)) at xs v
    → (e : LineEnded fs w at xs v) × (sp ≡ false → IsApart e.ending)
after_value_read fs w sp at xs v flow lined h = ended_after fs w sp at xs v flow (after_read fs w sp at xs v lined h)

-- a value that is no block, with the end of its line and lines without content
pub leaf_of : (fs : List Frame) (place : Option ℕ) (least level at : ℕ) (x : Flow) (xs rest : List ℕ) (v : Value) → xs ≡ spell_flow x ++ rest → IsFlow place false true least level x → is_flow fs ≡ false
    → (e : LineEnded fs (Whole (flow_value x)) (past at (spell_flow x)) rest v) → IsApart e.ending → LeafRead fs place least level at xs v
leaf_of fs place least level at x xs rest v parts is flow e apart =
    let p : ℕ = past at (spell_flow x) in
    let s : ℕ = past p (spell_ending e.ending) in
    let g : Gapped fs (Whole (flow_value x)) s e.rest v = gaps_read fs (Whole (flow_value x)) s e.rest v refl e.ended e.on in
    let ys : List ℕ = spell_ending e.ending ++ spell_gaps g.gaps in
    let q : past at (spell_flow x ++ ys) ≡ past s (spell_gaps g.gaps) = past_append (spell_flow x) ys at ∙ past_append (spell_ending e.ending) (spell_gaps g.gaps) p in
    record {
      leaf = Flowing x e.ending g.gaps;
      rest = g.rest;
      parts = parts ∙ (ap (λ zs. spell_flow x ++ zs) (e.parts ∙ (ap (λ zs. spell_ending e.ending ++ zs) g.parts ∙ sym (append_assoc (spell_ending e.ending) (spell_gaps g.gaps) g.rest)))
          ∙ sym (append_assoc (spell_flow x) ys g.rest));
      is = (is, e.is, apart, g.are);
      closed = subst (λ (m : ℕ). Closed fs (flow_value x) m g.rest v) (sym q) (closed_whole fs (flow_value x) (past s (spell_gaps g.gaps)) g.rest v flow g.next);
      ended = g.ended;
    }

-- ---- in flow lists

-- lines without content, and an indicator after the spaces of a line
pub record ItemLine (fs : List Frame) (u : Value) (s : ℕ) (xs : List ℕ) (v : Value) : Type 0 where
  pub gaps : List Ending
  pub indent : ℕ
  pub sign : ℕ
  pub rest : List ℕ
  pub parts : xs ≡ spell_gaps gaps ++ (spaces indent ++ sign ∷ rest)
  pub are : AreGaps gaps
  pub front : Front
  pub after : after_item fs u (past s (spell_gaps gaps ++ spaces indent)) sign ≡ Ok front
  pub on : ReadsOn front (past s (spell_gaps gaps ++ spaces indent) + len_utf8 sign) rest v
  pub ended : all_ended true rest ≡ true

flow_ends : {A : Type 0} (fs : List Frame) (u : Value) (s : ℕ) (v : Value) → is_flow fs ≡ true → ends fs (AtLine s (Whole u)) s ≡ Ok v → A
unfolding ends
flow_ends fs u s v flow h = absurd (let e : ◌≡◌ {A = Result Value Broken} (no_text s) (Ok v) = rw flow at h in cc)

item_content : (fs : List Frame) (u : Value) (s at c : ℕ) (rest : List ℕ) (f : Front) → is_flow fs ≡ true → line_content fs (Whole u) s at c rest ≡ Ok f → after_item fs u at c ≡ Ok f
unfolding line_content flow_line
item_content fs u s at c rest f flow h = rw flow at h

item_from : (fs : List Frame) (u : Value) (s : ℕ) (xs : List ℕ) (v : Value) → is_flow fs ≡ true → (g : Gapped fs (Whole u) s xs v) → AtContent fs (Whole u) (past s (spell_gaps g.gaps)) g.rest v → ItemLine fs u s xs v
item_from fs u s xs v flow g (inl h) = flow_ends fs u (past s (spell_gaps g.gaps)) v flow h.1
item_from fs u s xs v flow g (inr b) =
    let m : ℕ = past s (spell_gaps g.gaps) in
    let p : past s (spell_gaps g.gaps ++ spaces b.indent) ≡ m + b.indent = past_append (spell_gaps g.gaps) (spaces b.indent) s ∙ past_spaces b.indent m in
    record {
      gaps = g.gaps;
      indent = b.indent;
      sign = b.first;
      rest = b.more;
      parts = g.parts ∙ ap (λ zs. spell_gaps g.gaps ++ zs) b.parts;
      are = g.are;
      front = b.front;
      after = subst (λ (q : ℕ). after_item fs u q b.first ≡ Ok b.front) (sym p) (item_content fs u m (m + b.indent) b.first (with_returns b.more) b.front flow b.taken);
      on = subst (λ (q : ℕ). ReadsOn b.front (q + len_utf8 b.first) b.more v) (sym p) b.on;
      ended = b.ended;
    }

-- an item of a flow list is whole at the start of a line
pub item_line : (fs : List Frame) (u : Value) (s : ℕ) (xs : List ℕ) (v : Value) → is_flow fs ≡ true → all_ended false xs ≡ true → ReadsOn (front fs (AtLine s (Whole u))) s xs v → ItemLine fs u s xs v
item_line fs u s xs v flow lined h = let g : Gapped fs (Whole u) s xs v = gaps_read fs (Whole u) s xs v refl lined h in item_from fs u s xs v flow g g.next

-- and where its line ends
pub item_over : (fs : List Frame) (u : Value) (at : ℕ) (xs : List ℕ) (v : Value) → (e : LineEnded fs (Whole u) at xs v) → IsApart e.ending → is_flow fs ≡ true → ItemEnded fs u at xs v
item_over fs u at xs v e apart flow =
    let s : ℕ = past at (spell_ending e.ending) in
    let g : ItemLine fs u s e.rest v = item_line fs u s e.rest v flow e.ended e.on in
    let ys : List ℕ = spell_gaps g.gaps ++ spaces g.indent in
    let p : past at (spell_ending e.ending ++ ys) ≡ past s ys = past_append (spell_ending e.ending) ys at in
    record {
      pad = Over e.ending g.gaps g.indent;
      sign = g.sign;
      rest = g.rest;
      parts = e.parts ∙ (ap (λ zs. spell_ending e.ending ++ zs) (g.parts ∙ sym (append_assoc (spell_gaps g.gaps) (spaces g.indent) (g.sign ∷ g.rest)))
          ∙ sym (append_assoc (spell_ending e.ending) ys (g.sign ∷ g.rest)));
      is = (e.is, apart, g.are);
      front = g.front;
      after = subst (λ (q : ℕ). after_item fs u q g.sign ≡ Ok g.front) (sym p) g.after;
      on = subst (λ (q : ℕ). ReadsOn g.front (q + len_utf8 g.sign) g.rest v) (sym p) g.on;
      ended = g.ended;
    }

pub item_of : (fs : List Frame) (u : Value) (at : ℕ) (xs : List ℕ) (v : Value) → is_flow fs ≡ true → AfterRead fs (Whole u) false at xs v → ItemEnded fs u at xs v
item_of fs u at xs v flow (inl h) = item_over fs u at xs v h.0 (h.1 refl) flow
item_of fs u at xs v flow (inr r) = record { pad = Inline r.indent; sign = r.sign; rest = r.rest; parts = r.parts; is = tt; front = r.front; after = r.after; on = r.on; ended = r.ended }

-- after an item of a flow list
pub item_after : (fs : List Frame) (u : Value) (at : ℕ) (xs : List ℕ) (v : Value) → is_flow fs ≡ true → all_ended true xs ≡ true → ReadsOn (front fs (AfterValue (Whole u) false)) at xs v → ItemEnded fs u at xs v
item_after fs u at xs v flow lined h = item_of fs u at xs v flow (after_read fs (Whole u) false at xs v lined h)
