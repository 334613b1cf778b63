-- What stands before an item or the closing bracket of a flow list that was read.
use Rattle.std.proofs.Common.{◌≡◌, ℕ, zero, suc, ◌+◌, ◌<◌, Bool, true, false, not, ◌&&◌, ◌==◌, List, [], ◌∷◌, ◌++◌, Result, Ok, Err, inl, inr, if◌then◌else◌, refl, sym, ap, subst, ◌∙◌, arith, append_assoc}
use Rattle.std.specs.Char.{len_utf8}
use Rattle.std.proofs.lemmas.Bool.{and_parts, cases_Bool}
use Rattle.edt_base.specs.YamlData.{Value}
use Rattle.yaml_profile.specs.declared.stop.Broken.{Broken}
use Rattle.yaml_profile.specs.declared.front.Role.TheVariants.{Value as ValueOnly}
use Rattle.yaml_profile.specs.Fronts.{Frame, Nothing, AtLine, AtValue, InComment, Front, front, is_flow}
use Rattle.yaml_profile.specs.Pieces.{in_at_value, begin_value, end_flow}
use Rattle.yaml_profile.specs.Layout.{line_content, flow_line}
use Rattle.yaml_profile.specs.Reading.{taken, ends}
use Rattle.yaml_profile.specs.Written.{spaces, Ending, Bare, Noted, spell_ending, IsEnding, IsApart, spell_gaps, Pad, Inline, Over, spell_pad, IsPad, place_behind}
use Rattle.yaml_profile.proofs.ReadSteps.{past, past_append, past_spaces, with_returns, ReadsOn, OnFrom, step_on, all_ended, AtContent}
use Rattle.yaml_profile.proofs.ReadParts.{MayBegin, Gapped}
use Rattle.yaml_profile.proofs.ReadGaps.{is_some, for_that, spaces_one_more, Commented, comment_read, gaps_read}

-- ---- what stands before an item or the closing bracket

abbrev pub item_or_end : List Frame → (at c : ℕ) → (rest : List ℕ) → Result Front Broken
item_or_end fs at c rest = if c == 93 then end_flow fs at else begin_value fs ValueOnly at c rest

-- with the first character after it
pub record Padded (fs : List Frame) (at : ℕ) (xs : List ℕ) (v : Value) : Type 0 where
  pub pad : Pad
  pub first : ℕ
  pub more : List ℕ
  pub parts : xs ≡ spell_pad pad ++ first ∷ more
  pub is : IsPad pad
  pub solid : (first == 32) ≡ false
  pub inner : (first == 10) ≡ false
  pub may : MayBegin (place_behind pad) true first more
  pub on : OnFrom (item_or_end fs (past at (spell_pad pad)) first (with_returns more)) (past at (spell_pad pad) + len_utf8 first) more v
  pub ended : all_ended true more ≡ true

not_content : (a b c d : Bool) → (not a && not b && not c && not d) ≡ true → (a ≡ false) × (b ≡ false) × (c ≡ false)
not_content true b c d h = absurd (let q : false ≡ true = h in cc)
not_content false true c d h = absurd (let q : false ≡ true = h in cc)
not_content false false true d h = absurd (let q : false ≡ true = h in cc)
not_content false false false d h = (refl, refl, refl)

list_line : (fs : List Frame) (s at c : ℕ) (rest : List ℕ) → is_flow fs ≡ true → line_content fs Nothing s at c rest ≡ item_or_end fs at c rest
unfolding line_content flow_line
list_line fs s at c rest f = rw f refl

no_list_ends : (fs : List Frame) (s at : ℕ) (v : Value) (P : Type 0) → is_flow fs ≡ true → ends fs (AtLine s Nothing) at ≡ Ok v → P
unfolding ends
no_list_ends fs s at v P f h = absurd (let q : ◌≡◌ {A = Result Value Broken} (Err _) (Ok v) = rw f at h in cc)

past_over : (e : Ending) (gaps : List Ending) (n at : ℕ) → past at (spell_pad (Over e gaps n)) ≡ past (past at (spell_ending e)) (spell_gaps gaps) + n
past_over e gaps n at =
    past_append (spell_ending e) (spell_gaps gaps ++ spaces n) at
    ∙ (past_append (spell_gaps gaps) (spaces n) (past at (spell_ending e)) ∙ past_spaces n (past (past at (spell_ending e)) (spell_gaps gaps)))

pad_behind : (fs : List Frame) (e : Ending) (at : ℕ) (rest : List ℕ) (v : Value) → is_flow fs ≡ true → IsEnding e → IsApart e → (g : Gapped fs Nothing (past at (spell_ending e)) rest v)
    → AtContent fs Nothing (past (past at (spell_ending e)) (spell_gaps g.gaps)) g.rest v → Padded fs at (spell_ending e ++ rest) v
pad_behind fs e at rest v f i a g (inl z) = no_list_ends fs _ _ v _ f z.1
pad_behind fs e at rest v f i a g (inr b) =
    let m : ℕ = past (past at (spell_ending e)) (spell_gaps g.gaps) in
    let p : Pad = Over e g.gaps b.indent in
    let q : past at (spell_pad p) ≡ m + b.indent = past_over e g.gaps b.indent at in
    let t : item_or_end fs (m + b.indent) b.first (with_returns b.more) ≡ Ok b.front = sym (list_line fs m (m + b.indent) b.first (with_returns b.more) f) ∙ b.taken in
    let n : ((b.first == 32) ≡ false) × ((b.first == 10) ≡ false) × ((b.first == 9) ≡ false) = not_content _ _ _ _ b.content in
    let o : OnFrom (item_or_end fs (m + b.indent) b.first (with_returns b.more)) (m + b.indent + len_utf8 b.first) b.more v = subst (λ (r : Result Front Broken). OnFrom r (m + b.indent + len_utf8 b.first) b.more v) (sym t) b.on in
    record {
      pad = p;
      first = b.first;
      more = b.more;
      parts = ap (λ zs. spell_ending e ++ zs) (g.parts ∙ ap (λ zs. spell_gaps g.gaps ++ zs) b.parts)
          ∙ (ap (λ zs. spell_ending e ++ zs) (sym (append_assoc (spell_gaps g.gaps) (spaces b.indent) (b.first ∷ b.more))) ∙ sym (append_assoc (spell_ending e) (spell_gaps g.gaps ++ spaces b.indent) (b.first ∷ b.more)));
      is = (i, a, g.are);
      solid = n.0;
      inner = n.1;
      may = (n.2, refl);
      on = subst (λ (k : ℕ). OnFrom (item_or_end fs k b.first (with_returns b.more)) (k + len_utf8 b.first) b.more v) (sym q) o;
      ended = b.ended;
    }

-- a line ends before it
pad_over : (fs : List Frame) (e : Ending) (at : ℕ) (rest : List ℕ) (v : Value) → is_flow fs ≡ true → IsEnding e → IsApart e → all_ended false rest ≡ true
    → ReadsOn (front fs (AtLine (past at (spell_ending e)) Nothing)) (past at (spell_ending e)) rest v → Padded fs at (spell_ending e ++ rest) v
pad_over fs e at rest v f i a l h =
    let g : Gapped fs Nothing (past at (spell_ending e)) rest v = gaps_read fs Nothing (past at (spell_ending e)) rest v refl l h in
    pad_behind fs e at rest v f i a g g.next

some_is : (n : ℕ) → is_some n ≡ true → 0 < n
some_is zero h = cc
some_is (suc n) h = omega arith

pad_feed : (fs : List Frame) (n at : ℕ) (cs : List ℕ) (v : Value) → is_flow fs ≡ true → all_ended false cs ≡ true
    → ReadsOn (front fs (AtLine ((at + n) + 1) Nothing)) ((at + n) + 1) cs v → Padded fs at (spaces n ++ 10 ∷ cs) v
pad_feed fs n at cs v f l h =
    let q : past at (spaces n ++ 10 ∷ []) ≡ (at + n) + 1 = past_append (spaces n) (10 ∷ []) at ∙ ap (λ (k : ℕ). k + 1) (past_spaces n at) in
    subst (λ zs. Padded fs at zs v) (append_assoc (spaces n) (10 ∷ []) cs)
    (pad_over fs (Bare n) at cs v f tt tt l (subst (λ (k : ℕ). ReadsOn (front fs (AtLine k Nothing)) k cs v) (sym q) h))

pad_note : (fs : List Frame) (n at : ℕ) (cs : List ℕ) (v : Value) → is_flow fs ≡ true → 0 < n → all_ended true cs ≡ true
    → ReadsOn (front fs (InComment Nothing)) ((at + n) + 1) cs v → Padded fs at (spaces n ++ 35 ∷ cs) v
pad_note fs n at cs v f a l h =
    let c : Commented fs Nothing ((at + n) + 1) cs v = comment_read fs Nothing ((at + n) + 1) cs v h l in
    let t : List ℕ = c.text ++ 10 ∷ [] in
    let q : past at (spaces n ++ 35 ∷ t) ≡ past ((at + n) + 1) t = past_append (spaces n) (35 ∷ t) at ∙ ap (λ (k : ℕ). past (k + 1) t) (past_spaces n at) in
    subst (λ zs. Padded fs at zs v) (append_assoc (spaces n) (35 ∷ t) c.rest ∙ ap (λ zs. spaces n ++ 35 ∷ zs) (append_assoc c.text (10 ∷ []) c.rest ∙ sym c.parts))
    (pad_over fs (Noted n c.text) at c.rest v f c.inner a c.ended (subst (λ (k : ℕ). ReadsOn (front fs (AtLine k Nothing)) k c.rest v) (sym q) c.on))

pad_inline : (fs : List Frame) (n at c : ℕ) (cs : List ℕ) (v : Value) → (c == 32) ≡ false → (c == 10) ≡ false → all_ended true cs ≡ true
    → OnFrom (item_or_end fs (at + n) c (with_returns cs)) (at + n + len_utf8 c) cs v → Padded fs at (spaces n ++ c ∷ cs) v
pad_inline fs n at c cs v a b l h = record {
  pad = Inline n;
  first = c;
  more = cs;
  parts = refl;
  is = tt;
  solid = a;
  inner = b;
  may = tt;
  on = subst (λ (k : ℕ). OnFrom (item_or_end fs k c (with_returns cs)) (k + len_utf8 c) cs v) (sym (past_spaces n at)) h;
  ended = l;
}

list_taken : (fs : List Frame) (sp : Bool) (at c : ℕ) (rest : List ℕ) → is_flow fs ≡ true → (c == 32) ≡ false → (c == 10) ≡ false → ((c == 35) && sp) ≡ false
    → taken fs (AtValue 0 false sp) at c rest ≡ item_or_end fs at c rest
unfolding taken in_at_value
list_taken fs sp at c rest f a b h = rw (a, b, h, f) (elim (cases_Bool (c == 93)) [ inl e ↦ rw e refl | inr e ↦ rw e refl ])

space_taken : (fs : List Frame) (sp : Bool) (at : ℕ) (cs : List ℕ) (v : Value) → ReadsOn (front fs (AtValue 0 false sp)) at (32 ∷ cs) v → ReadsOn (front fs (AtValue 0 false true)) (at + 1) cs v
unfolding taken in_at_value
space_taken fs sp at cs v h = step_on fs (AtValue 0 false sp) at 32 cs v h

feed_taken : (fs : List Frame) (sp : Bool) (at : ℕ) (cs : List ℕ) (v : Value) → ReadsOn (front fs (AtValue 0 false sp)) at (10 ∷ cs) v → ReadsOn (front fs (AtLine (at + 1) Nothing)) (at + 1) cs v
unfolding taken in_at_value
feed_taken fs sp at cs v h = step_on fs (AtValue 0 false sp) at 10 cs v h

note_taken : (fs : List Frame) (at : ℕ) (cs : List ℕ) (v : Value) → ReadsOn (front fs (AtValue 0 false true)) at (35 ∷ cs) v → ReadsOn (front fs (InComment Nothing)) (at + 1) cs v
unfolding taken in_at_value
note_taken fs at cs v h = step_on fs (AtValue 0 false true) at 35 cs v h

-- after n spaces
pad_from : (fs : List Frame) (xs : List ℕ) (n at : ℕ) (v : Value) → is_flow fs ≡ true → all_ended true xs ≡ true → ReadsOn (front fs (AtValue 0 false (is_some n))) (at + n) xs v → Padded fs at (spaces n ++ xs) v
pad_from fs [] n at v f l h = absurd (let q : false ≡ true = l in cc)
pad_from fs (c ∷ cs) n at v f l h =
    let R : ℕ → Type 0 = λ x. ReadsOn (front fs (AtValue 0 false (is_some n))) (at + n) (x ∷ cs) v → Padded fs at (spaces n ++ x ∷ cs) v in
    elim (cases_Bool (c == 10)) [
      | inl e ↦ for_that R c 10 e (λ k. pad_feed fs n at cs v f (rw e at l) (feed_taken fs (is_some n) (at + n) cs v k)) h
      | inr e ↦
          let m : all_ended true cs ≡ true = rw e at l in
          elim (cases_Bool (c == 32)) [
            | inl g ↦ for_that R c 32 g
                (λ k. subst (λ zs. Padded fs at zs v) (sym (spaces_one_more n cs))
                (pad_from fs cs (suc n) at v f m (subst (λ (p : ℕ). ReadsOn (front fs (AtValue 0 false true)) p cs v) (omega arith) (space_taken fs (is_some n) (at + n) cs v k)))) h
            | inr g ↦ elim (cases_Bool ((c == 35) && is_some n)) [
              | inl i ↦
                  let b : ((c == 35) ≡ true) × (is_some n ≡ true) = and_parts (c == 35) (is_some n) i in
                  for_that R c 35 b.0
                  (λ k. pad_note fs n at cs v f (some_is n b.1) m (note_taken fs (at + n) cs v (subst (λ (s : Bool). ReadsOn (front fs (AtValue 0 false s)) (at + n) (35 ∷ cs) v) b.1 k))) h
              | inr i ↦ pad_inline fs n at c cs v g e m
                  (subst (λ (r : Result Front Broken). OnFrom r (at + n + len_utf8 c) cs v) (list_taken fs (is_some n) (at + n) c (with_returns cs) f g e i) (step_on fs (AtValue 0 false (is_some n)) (at + n) c cs v h))
            ]
          ]
    ]

pub pad_read : (fs : List Frame) (at : ℕ) (xs : List ℕ) (v : Value) → is_flow fs ≡ true → all_ended true xs ≡ true → ReadsOn (front fs (AtValue 0 false false)) at xs v → Padded fs at xs v
pad_read fs at xs v f l h = pad_from fs xs 0 at v f l (subst (λ (p : ℕ). ReadsOn (front fs (AtValue 0 false false)) p xs v) (omega arith) h)
