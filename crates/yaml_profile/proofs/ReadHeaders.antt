-- What is read of the line on which a block scalar begins, after its `|` or `>`.
use Rattle.std.proofs.Common.{◌≡◌, ℕ, zero, suc, ◌+◌, Bool, true, false, not, ◌&&◌, ◌||◌, ◌==◌, List, [], ◌∷◌, ◌++◌, Ok, inl, inr, if◌then◌else◌, refl, sym, ap, subst, ◌∙◌, arith, append_assoc}
use Rattle.std.specs.List.{list_all}
use Rattle.std.specs.Char.{len_utf8}
use Rattle.std.proofs.lemmas.Bool.{and_parts, or_cases, cases_Bool}
use Rattle.edt_base.specs.YamlData.{Value}
use Rattle.yaml_profile.specs.declared.block_text.Chomp.{Chomp}
use Rattle.yaml_profile.specs.declared.block_text.Chomp.TheVariants.{Strip, Clip, Keep}
use Rattle.yaml_profile.specs.Answers.{no_text, left_out}
use Rattle.yaml_profile.specs.Signs.{is_digit, place_of}
use Rattle.yaml_profile.specs.BlockText.{BlockText, no_lines}
use Rattle.yaml_profile.specs.Fronts.{Frame, InHeader, InHeaderComment, AtTextLine, front}
use Rattle.yaml_profile.specs.Layout.{in_header, in_header_comment}
use Rattle.yaml_profile.specs.Reading.{taken}
use Rattle.yaml_profile.specs.Written.{Ending, Bare, Noted, spell_ending, IsEnding, IsApart, is_inner, spell_chomp}
use Rattle.yaml_profile.proofs.ReadSteps.{past, is_that, ReadsOn, OnFrom, step_on, step_by, with_returns, all_ended}
use Rattle.yaml_profile.proofs.ReadGaps.{for_that}
use Rattle.yaml_profile.proofs.ReadRows.{OnText}
use Rattle.yaml_profile.proofs.WrittenScalars.{header_feed, header_hash, header_space}

-- the line of the header ends
pub record HeaderEnded (fs : List Frame) (b : BlockText) (spaced : Bool) (at : ℕ) (xs : List ℕ) (v : Value) : Type 0 where
  pub ending : Ending
  pub rest : List ℕ
  pub parts : xs ≡ spell_ending ending ++ rest
  pub is : IsEnding ending
  pub apart : spaced ≡ false → IsApart ending
  pub on : OnText fs b (past at (spell_ending ending)) rest v
  pub ended : all_ended false rest ≡ true

-- the rest of its comment
record RemarkRead (fs : List Frame) (b : BlockText) (at : ℕ) (xs : List ℕ) (v : Value) : Type 0 where
  pub text : List ℕ
  pub rest : List ℕ
  pub parts : xs ≡ text ++ 10 ∷ rest
  pub inner : list_all is_inner text ≡ true
  pub on : OnText fs b (past at (text ++ 10 ∷ [])) rest v
  pub ended : all_ended false rest ≡ true

remark_char : (fs : List Frame) (b : BlockText) (at c : ℕ) (rest : List ℕ) → (c == 10) ≡ false → taken fs (InHeaderComment b) at c rest ≡ Ok (front fs (InHeaderComment b))
unfolding taken in_header_comment
remark_char fs b at c rest h = rw h refl

remark_end : (fs : List Frame) (b : BlockText) (at : ℕ) (rest : List ℕ) → taken fs (InHeaderComment b) at 10 rest ≡ Ok (front fs (AtTextLine (at + 1) b))
unfolding taken in_header_comment
remark_end fs b at rest = refl

remark_read : (xs : List ℕ) (fs : List Frame) (b : BlockText) (at : ℕ) (v : Value) → all_ended true xs ≡ true → ReadsOn (front fs (InHeaderComment b)) at xs v → RemarkRead fs b at xs v
remark_read [] fs b at v e h = absurd (let q : false ≡ true = e in cc)
remark_read (c ∷ cs) fs b at v e h = elim (cases_Bool (c == 10)) [
  | inl f ↦
      let q : 10 ≡ c = is_that c 10 f in
      let g : ReadsOn (front fs (InHeaderComment b)) at (10 ∷ cs) v = subst (λ (k : ℕ). ReadsOn (front fs (InHeaderComment b)) at (k ∷ cs) v) (sym q) h in
      let a : all_ended false cs ≡ true = rw f at e in
      record {
        text = [];
        rest = cs;
        parts = ap (λ (k : ℕ). k ∷ cs) (sym q);
        inner = refl;
        on = step_by fs (InHeaderComment b) (Ok (front fs (AtTextLine (at + 1) b))) at 10 cs v (remark_end fs b at (with_returns cs)) g;
        ended = a;
      }
  | inr f ↦
      let a : all_ended true cs ≡ true = rw f at e in
      let r : RemarkRead fs b (at + len_utf8 c) cs v
      = remark_read cs fs b (at + len_utf8 c) v a (step_by fs (InHeaderComment b) (Ok (front fs (InHeaderComment b))) at c cs v (remark_char fs b at c (with_returns cs) f) h) in
      record { text = c ∷ r.text; rest = r.rest; parts = ap (λ (zs : List ℕ). c ∷ zs) r.parts; inner = rw (f, r.inner) refl; on = r.on; ended = r.ended }
]

-- nothing else may stand there
header_bad : (fs : List Frame) (b : BlockText) (g sp : Bool) (at c to : ℕ) (rest cs : List ℕ) (v : Value) → (c == 32) ≡ false → (c == 10) ≡ false → ((c == 35) && sp) ≡ false
    → (((c == 43) || (c == 45)) && not sp && not g) ≡ false → OnFrom (taken fs (InHeader b g sp) at c rest) to cs v → ⊥
unfolding taken in_header
header_bad fs b g sp at c to rest cs v p f q s h =
    let x : OnFrom (if is_digit c && not sp then left_out at else no_text (place_of at c)) to cs v = rw (p, f, q, s) at h in
    elim (cases_Bool (is_digit c && not sp)) [
      | inl d ↦ let y : OnFrom (left_out at) to cs v = rw d at x in y
      | inr d ↦ let y : OnFrom (no_text (place_of at c)) to cs v = rw d at x in y
    ]

-- one space more before the line's end
abbrev after_space : Ending → Ending
after_space (Bare n) = Bare (suc n)
after_space (Noted n text) = Noted (suc n) text

space_spelled : (e : Ending) → spell_ending (after_space e) ≡ 32 ∷ spell_ending e
space_spelled (Bare n) = refl
space_spelled (Noted n text) = refl

space_is : (e : Ending) → IsEnding e → IsEnding (after_space e)
space_is (Bare n) h = tt
space_is (Noted n text) h = h

space_apart : (e : Ending) → IsApart (after_space e)
space_apart (Bare n) = tt
space_apart (Noted n text) = omega arith

header_spaced : (fs : List Frame) (b : BlockText) (sp next : Bool) (at : ℕ) (cs : List ℕ) (v : Value) → HeaderEnded fs b next (at + 1) cs v → HeaderEnded fs b sp at (32 ∷ cs) v
header_spaced fs b sp next at cs v h =
    let q : 32 ∷ spell_ending h.ending ≡ spell_ending (after_space h.ending) = sym (space_spelled h.ending) in
    record {
      ending = after_space h.ending;
      rest = h.rest;
      parts = ap (λ (zs : List ℕ). 32 ∷ zs) h.parts ∙ ap (λ (zs : List ℕ). zs ++ h.rest) q;
      is = space_is h.ending h.is;
      apart = λ g. space_apart h.ending;
      on = subst (λ (zs : List ℕ). OnText fs b (past at zs) h.rest v) q h.on;
      ended = h.ended;
    }

feed_ends : (fs : List Frame) (b : BlockText) (g sp : Bool) (at : ℕ) (cs : List ℕ) (v : Value) → all_ended false cs ≡ true → ReadsOn (front fs (InHeader b g sp)) at (10 ∷ cs) v → HeaderEnded fs b sp at (10 ∷ cs) v
feed_ends fs b g sp at cs v e h =
    let x : OnText fs b (at + 1) cs v = step_by fs (InHeader b g sp) (Ok (front fs (AtTextLine (at + 1) b))) at 10 cs v (header_feed fs b g sp at (with_returns cs)) h in
    record { ending = Bare zero; rest = cs; parts = refl; is = tt; apart = λ g. tt; on = x; ended = e }

hash_ends : (fs : List Frame) (b : BlockText) (g : Bool) (at : ℕ) (cs : List ℕ) (v : Value) → all_ended true cs ≡ true → ReadsOn (front fs (InHeader b g true)) at (35 ∷ cs) v → HeaderEnded fs b true at (35 ∷ cs) v
hash_ends fs b g at cs v e h =
    let x : ReadsOn (front fs (InHeaderComment b)) (at + 1) cs v = step_by fs (InHeader b g true) (Ok (front fs (InHeaderComment b))) at 35 cs v (header_hash fs b g at (with_returns cs)) h in
    let r : RemarkRead fs b (at + 1) cs v = remark_read cs fs b (at + 1) v e x in
    record {
      ending = Noted zero r.text;
      rest = r.rest;
      parts = ap (λ (zs : List ℕ). 35 ∷ zs) (r.parts ∙ sym (append_assoc r.text (10 ∷ []) r.rest));
      is = r.inner;
      apart = λ q. absurd (let z : true ≡ false = q in cc);
      on = r.on;
      ended = r.ended;
    }

-- after this character, which is no indicator
header_one : (fs : List Frame) (b : BlockText) (g sp : Bool) (at c : ℕ) (cs : List ℕ) (v : Value) → (((c == 43) || (c == 45)) && not sp && not g) ≡ false → all_ended (not (c == 10)) cs ≡ true
    → ReadsOn (front fs (InHeader b g sp)) at (c ∷ cs) v → (all_ended true cs ≡ true → ReadsOn (front fs (InHeader b g true)) (at + 1) cs v → HeaderEnded fs b true (at + 1) cs v)
    → HeaderEnded fs b sp at (c ∷ cs) v
header_one fs b g sp at c cs v s e h next =
    let zs : List ℕ = with_returns cs in
    elim (cases_Bool (c == 32)) [
      | inl p ↦
          let q : 32 ≡ c = is_that c 32 p in
          let a : all_ended true cs ≡ true = subst (λ (k : ℕ). all_ended (not (k == 10)) cs ≡ true) (sym q) e in
          let x : ReadsOn (front fs (InHeader b g sp)) at (32 ∷ cs) v = subst (λ (k : ℕ). ReadsOn (front fs (InHeader b g sp)) at (k ∷ cs) v) (sym q) h in
          let y : ReadsOn (front fs (InHeader b g true)) (at + 1) cs v = step_by fs (InHeader b g sp) (Ok (front fs (InHeader b g true))) at 32 cs v (header_space fs b g sp at zs) x in
          for_that (λ (k : ℕ). HeaderEnded fs b sp at (k ∷ cs) v) c 32 p (header_spaced fs b sp true at cs v (next a y))
      | inr p ↦ elim (cases_Bool (c == 10)) [
        | inl f ↦ for_that (λ (k : ℕ). HeaderEnded fs b sp at (k ∷ cs) v) c 10 f (feed_ends fs b g sp at cs v (rw f at e) (subst (λ (k : ℕ). ReadsOn (front fs (InHeader b g sp)) at (k ∷ cs) v) (sym (is_that c 10 f)) h))
        | inr f ↦ elim (cases_Bool ((c == 35) && sp)) [
          | inl k ↦
              let a : ((c == 35) ≡ true) × (sp ≡ true) = and_parts _ _ k in
              let x : ReadsOn (front fs (InHeader b g true)) at (35 ∷ cs) v = subst (λ (n : ℕ). ReadsOn (front fs (InHeader b g true)) at (n ∷ cs) v) (sym (is_that c 35 a.0)) (subst (λ (n : Bool). ReadsOn (front fs (InHeader b g n)) at (c ∷ cs) v) a.1 h) in
              for_that (λ (n : ℕ). HeaderEnded fs b sp at (n ∷ cs) v) c 35 a.0 (subst (λ (n : Bool). HeaderEnded fs b n at (35 ∷ cs) v) (sym a.1) (hash_ends fs b g at cs v (rw f at e) x))
          | inr k ↦ absurd (header_bad fs b g sp at c (at + len_utf8 c) zs cs v p f k s (step_on fs (InHeader b g sp) at c cs v h))
        ]
      ]
    ]

no_sign : (a g sp : Bool) → (g || sp) ≡ true → ((a && not sp) && not g) ≡ false
no_sign true true true h = refl
no_sign true true false h = refl
no_sign true false true h = refl
no_sign true false false h = absurd (let q : false ≡ true = h in cc)
no_sign false g sp h = refl

-- after an indicator or a space
header_end : (xs : List ℕ) (fs : List Frame) (b : BlockText) (g sp : Bool) (at : ℕ) (v : Value) → (g || sp) ≡ true → all_ended true xs ≡ true → ReadsOn (front fs (InHeader b g sp)) at xs v → HeaderEnded fs b sp at xs v
header_end [] fs b g sp at v s e h = absurd (let q : false ≡ true = e in cc)
header_end (c ∷ cs) fs b g sp at v s e h = header_one fs b g sp at c cs v (no_sign ((c == 43) || (c == 45)) g sp s) e h (λ a y. header_end cs fs b g true (at + 1) v (or_true g) a y)
  where
    or_true : (g : Bool) → (g || true) ≡ true
    or_true true = refl
    or_true false = refl

-- the indicator of a block scalar, if there is one, and the end of its line
pub record HeaderRead (fs : List Frame) (folded : Bool) (at : ℕ) (xs : List ℕ) (v : Value) : Type 0 where
  pub chomp : Chomp
  pub ending : Ending
  pub rest : List ℕ
  pub parts : xs ≡ spell_chomp chomp ++ (spell_ending ending ++ rest)
  pub is : IsEnding ending
  pub apart : IsApart ending
  pub on : OnText fs (record (no_lines folded) { chomp = chomp }) (past (past at (spell_chomp chomp)) (spell_ending ending)) rest v
  pub ended : all_ended false rest ≡ true

header_plus : (fs : List Frame) (b : BlockText) (at : ℕ) (rest : List ℕ) → taken fs (InHeader b false false) at 43 rest ≡ Ok (front fs (InHeader (record b { chomp = Keep }) true false))
unfolding taken in_header
header_plus fs b at rest = refl

header_minus : (fs : List Frame) (b : BlockText) (at : ℕ) (rest : List ℕ) → taken fs (InHeader b false false) at 45 rest ≡ Ok (front fs (InHeader (record b { chomp = Strip }) true false))
unfolding taken in_header
header_minus fs b at rest = refl

header_unsigned : (fs : List Frame) (folded : Bool) (at : ℕ) (xs : List ℕ) (v : Value) → HeaderEnded fs (no_lines folded) false at xs v → HeaderRead fs folded at xs v
header_unsigned fs folded at xs v h = record { chomp = Clip; ending = h.ending; rest = h.rest; parts = h.parts; is = h.is; apart = h.apart refl; on = h.on; ended = h.ended }

header_kept : (fs : List Frame) (folded : Bool) (at : ℕ) (cs : List ℕ) (v : Value) → all_ended true cs ≡ true → ReadsOn (front fs (InHeader (no_lines folded) false false)) at (43 ∷ cs) v → HeaderRead fs folded at (43 ∷ cs) v
header_kept fs folded at cs v e h =
    let b : BlockText = record (no_lines folded) { chomp = Keep } in
    let x : ReadsOn (front fs (InHeader b true false)) (at + 1) cs v = step_by fs (InHeader (no_lines folded) false false) (Ok (front fs (InHeader b true false))) at 43 cs v (header_plus fs (no_lines folded) at (with_returns cs)) h in
    let y : HeaderEnded fs b false (at + 1) cs v = header_end cs fs b true false (at + 1) v refl e x in
    record { chomp = Keep; ending = y.ending; rest = y.rest; parts = ap (λ (zs : List ℕ). 43 ∷ zs) y.parts; is = y.is; apart = y.apart refl; on = y.on; ended = y.ended }

header_stripped : (fs : List Frame) (folded : Bool) (at : ℕ) (cs : List ℕ) (v : Value) → all_ended true cs ≡ true → ReadsOn (front fs (InHeader (no_lines folded) false false)) at (45 ∷ cs) v → HeaderRead fs folded at (45 ∷ cs) v
header_stripped fs folded at cs v e h =
    let b : BlockText = record (no_lines folded) { chomp = Strip } in
    let x : ReadsOn (front fs (InHeader b true false)) (at + 1) cs v = step_by fs (InHeader (no_lines folded) false false) (Ok (front fs (InHeader b true false))) at 45 cs v (header_minus fs (no_lines folded) at (with_returns cs)) h in
    let y : HeaderEnded fs b false (at + 1) cs v = header_end cs fs b true false (at + 1) v refl e x in
    record { chomp = Strip; ending = y.ending; rest = y.rest; parts = ap (λ (zs : List ℕ). 45 ∷ zs) y.parts; is = y.is; apart = y.apart refl; on = y.on; ended = y.ended }

header_signed : (fs : List Frame) (folded : Bool) (at c d : ℕ) (cs : List ℕ) (v : Value) → (c == d) ≡ true → all_ended (not (c == 10)) cs ≡ true → ReadsOn (front fs (InHeader (no_lines folded) false false)) at (c ∷ cs) v
    → (all_ended (not (d == 10)) cs ≡ true → ReadsOn (front fs (InHeader (no_lines folded) false false)) at (d ∷ cs) v → HeaderRead fs folded at (d ∷ cs) v) → HeaderRead fs folded at (c ∷ cs) v
header_signed fs folded at c d cs v q e h next = subst (λ (k : ℕ). all_ended (not (k == 10)) cs ≡ true → ReadsOn (front fs (InHeader (no_lines folded) false false)) at (k ∷ cs) v → HeaderRead fs folded at (k ∷ cs) v) (is_that c d q) next e h

pub header_read : (fs : List Frame) (folded : Bool) (at : ℕ) (xs : List ℕ) (v : Value) → all_ended true xs ≡ true → ReadsOn (front fs (InHeader (no_lines folded) false false)) at xs v → HeaderRead fs folded at xs v
header_read fs folded at [] v e h = absurd (let q : false ≡ true = e in cc)
header_read fs folded at (c ∷ cs) v e h = elim (cases_Bool ((c == 43) || (c == 45))) [
  | inl f ↦ elim (or_cases (c == 43) (c == 45) f) [
    | inl k ↦ header_signed fs folded at c 43 cs v k e h (λ a y. header_kept fs folded at cs v a y)
    | inr k ↦ header_signed fs folded at c 45 cs v k e h (λ a y. header_stripped fs folded at cs v a y)
  ]
  | inr f ↦
      let s : (((c == 43) || (c == 45)) && not false && not false) ≡ false = rw f refl in
      header_unsigned fs folded at (c ∷ cs) v (header_one fs (no_lines folded) false false at c cs v s e h (λ a y. header_end cs fs (no_lines folded) false true (at + 1) v refl a y))
]
