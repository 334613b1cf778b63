-- A file that is read is spelled by a tree: what stands before its value, and the value.
use Rattle.std.proofs.Common.{◌≡◌, ℕ, ◌+◌, ◌-◌, true, false, ◌&&◌, ◌==◌, List, [], ◌∷◌, ◌++◌, length, Option, Some, None, Ok, inl, inr, refl, sym, ap, ◌∙◌, arith, append_assoc, append-nil}
use Rattle.std.specs.Char.{len_utf8}
use Rattle.std.proofs.lemmas.Bool.{and_parts, cases_Bool}
use Rattle.edt_base.specs.YamlData.{Value, null}
use Rattle.yaml_profile.specs.Signs.{begins_mark}
use Rattle.yaml_profile.specs.Fronts.{Fresh, Nothing as NothingYet, InMark, AfterValue, front}
use Rattle.yaml_profile.specs.Layout.{settle, line_content, block_line, in_mark}
use Rattle.yaml_profile.specs.Reading.{at_start, taken}
use Rattle.yaml_profile.specs.Written.{spaces, spell_ending, IsApart, spell_gaps, is_mark, Block, spell_block, block_value, Head, Unmarked, Marked, spell_head, IsHead, spell_body, body_value, IsBody}
use Rattle.yaml_profile.proofs.ReadSteps.{past, is_that, with_returns, ReadsOn, OnFrom, all_ended, step_by, mark_ahead, is_content, close_line, AtContent, Closed}
use Rattle.yaml_profile.proofs.ReadParts.{LineEnded, Gapped}
use Rattle.yaml_profile.proofs.ReadGaps.{gaps_read, after_value_read}
use Rattle.yaml_profile.proofs.ReadOpen.{column_is, begins_on, Awaited, awaited, nothing_ends, nothing_yet}
use Rattle.yaml_profile.proofs.ReadBlocks.{BlockRead, block_read}
use Rattle.yaml_profile.proofs.ReadNodes.{parts_read}

-- ---- the value

pub record BodyRead (rest : List ℕ) (v : Value) : Type 0 where
  pub block : Option Block
  pub is : IsBody block
  pub parts : rest ≡ spell_body block
  pub value : body_value block ≡ v

-- nothing stands after the value of a file
no_more : (u : Value) (s at c : ℕ) (cs : List ℕ) (p : ℕ) (more : List ℕ) (v : Value) → OnFrom (close_line [] u s at c cs) p more v → ⊥
unfolding settle
no_more u s at c cs p more v h = elim (cases_Bool (((at - s) == 0) && begins_mark c cs)) [ inl e ↦ rw e at h | inr e ↦ rw e at h ]

at_end : (u : Value) (s : ℕ) (rest : List ℕ) (v : Value) → Closed [] u s rest v → (rest ≡ []) × (u ≡ v)
at_end u s rest v (inl e) = e
at_end u s rest v (inr b) = absurd (no_more u s (s + b.indent) b.first (with_returns b.more) (s + b.indent + len_utf8 b.first) b.more v (begins_on (λ at c more. close_line [] u s at c more) s rest v b))

block_body : (s : ℕ) (rest : List ℕ) (v : Value) → BlockRead [] 0 s rest v → BodyRead rest v
block_body s rest v b =
    let e : (b.rest ≡ []) × (block_value b.block ≡ v) = at_end (block_value b.block) (past s (spell_block b.block)) b.rest v b.closed in
    record { block = Some b.block; is = b.is; parts = b.parts ∙ (ap (λ zs. spell_block b.block ++ zs) e.0 ∙ append-nil (spell_block b.block)); value = e.1 }

body_read : (s : ℕ) (rest : List ℕ) (v : Value) → Awaited [] s rest v → BodyRead rest v
body_read s rest v (inl h) = let e : (rest ≡ []) × (null ≡ v) = at_end null s rest v h in record { block = None; is = tt; parts = e.0; value = e.1 }
body_read s rest v (inr b) = block_body s rest v (block_read (length rest) (parts_read (length rest)) [] 0 s rest v refl (λ n h. omega arith) (λ n h. cc) (omega arith) b)

-- ---- a `---` line

abbrev pub FileRead : List ℕ → Value → Type 0
FileRead xs v = (h : Head) × (b : Option Block) × IsHead h × IsBody b × (xs ≡ spell_head h ++ spell_body b) × (body_value b ≡ v)

marked_parts : (gs es hs xs rest more line last : List ℕ) → xs ≡ gs ++ rest → rest ≡ 45 ∷ 45 ∷ 45 ∷ more → more ≡ es ++ line → line ≡ hs ++ last → xs ≡ (gs ++ 45 ∷ 45 ∷ 45 ∷ (es ++ hs)) ++ last
marked_parts gs es hs xs rest more line last a b c d =
    rw (append_assoc gs (45 ∷ 45 ∷ 45 ∷ (es ++ hs)) last, append_assoc es hs last)
    (a ∙ ap (λ zs. gs ++ zs) (b ∙ ap (λ zs. 45 ∷ 45 ∷ 45 ∷ zs) (c ∙ ap (λ zs. es ++ zs) d)))

marked_file : (xs : List ℕ) (v : Value) (before : Gapped [] Fresh 0 xs v) (at : ℕ) (more : List ℕ) (e : LineEnded [] NothingYet at more v) (g : Gapped [] NothingYet (past at (spell_ending e.ending)) e.rest v) → before.rest ≡ 45 ∷ 45 ∷ 45 ∷ more → IsApart e.ending
    → BodyRead g.rest v → FileRead xs v
marked_file xs v before at more e g p a b = (
  Marked before.gaps e.ending g.gaps,
  b.block,
  (before.are, e.is, a, g.are),
  b.is,
  marked_parts (spell_gaps before.gaps) (spell_ending e.ending) (spell_gaps g.gaps) xs before.rest more e.rest (spell_body b.block) before.parts p e.parts (g.parts ∙ ap (λ zs. spell_gaps g.gaps ++ zs) b.parts),
  b.value,
)

behind_mark : (xs : List ℕ) (v : Value) (before : Gapped [] Fresh 0 xs v) (at : ℕ) (more : List ℕ) → before.rest ≡ 45 ∷ 45 ∷ 45 ∷ more → all_ended true more ≡ true → ReadsOn (front [] (AfterValue NothingYet false)) at more v → FileRead xs v
behind_mark xs v before at more p ended on =
    let e : (e : LineEnded [] NothingYet at more v) × (false ≡ false → IsApart e.ending) = after_value_read [] NothingYet false at more v refl ended on in
    let s : ℕ = past at (spell_ending e.0.ending) in
    let g : Gapped [] NothingYet s e.0.rest v = gaps_read [] NothingYet s e.0.rest v refl e.0.ended e.0.on in
    marked_file xs v before at more e.0 g p (e.1 refl) (body_read (past s (spell_gaps g.gaps)) g.rest v (nothing_yet [] (past s (spell_gaps g.gaps)) g.rest v refl g.next))

mark_more : (at d : ℕ) (rest : List ℕ) → taken [] (InMark 2) at d rest ≡ Ok (front [] (InMark 1))
unfolding taken in_mark
mark_more at d rest = refl

mark_over : (at d : ℕ) (rest : List ℕ) → taken [] (InMark 1) at d rest ≡ Ok (front [] (AfterValue NothingYet false))
unfolding taken in_mark
mark_over at d rest = refl

three_dashes : (xs : List ℕ) (v : Value) (before : Gapped [] Fresh 0 xs v) (at : ℕ) (more : List ℕ) → before.rest ≡ 45 ∷ 45 ∷ 45 ∷ more → all_ended true more ≡ true → ReadsOn (front [] (InMark 2)) at (45 ∷ 45 ∷ more) v → FileRead xs v
three_dashes xs v before at more p ended on =
    let a : ReadsOn (front [] (InMark 1)) (at + 1) (45 ∷ more) v = step_by [] (InMark 2) (Ok (front [] (InMark 1))) at 45 (45 ∷ more) v (mark_more at 45 (with_returns (45 ∷ more))) on in
    let b : ReadsOn (front [] (AfterValue NothingYet false)) (at + 1 + 1) more v = step_by [] (InMark 1) (Ok (front [] (AfterValue NothingYet false))) (at + 1) 45 more v (mark_over (at + 1) 45 (with_returns more)) a in
    behind_mark xs v before (at + 1 + 1) more p ended b

-- after the first dash
dashes : (xs : List ℕ) (v : Value) (before : Gapped [] Fresh 0 xs v) (at : ℕ) (more : List ℕ) → before.rest ≡ 45 ∷ more → is_mark true 45 more ≡ true → all_ended true more ≡ true → ReadsOn (front [] (InMark 2)) at more v → FileRead xs v
dashes xs v before at [] p m ended on = absurd (let q : false ≡ true = m in cc)
dashes xs v before at (d ∷ []) p m ended on = absurd (let q : false ≡ true = m in cc)
dashes xs v before at (d ∷ e ∷ more) p m ended on =
    let a = and_parts _ _ m in
    let b = and_parts _ _ a.0 in
    let h : d ≡ 45 = sym (is_that d 45 b.0) in
    let k : e ≡ 45 = sym (is_that e 45 b.1) in
    three_dashes xs v before at more (rw (h, k) at p) (rw k at ended) (rw (h, k) at on)

-- ---- the file

mark_file : (xs : List ℕ) (v : Value) (g : Gapped [] Fresh 0 xs v) (s n c : ℕ) (more : List ℕ) → (n == 0) ≡ true → (c == 45) ≡ true → g.rest ≡ spaces n ++ c ∷ more → is_mark true c more ≡ true → all_ended true more ≡ true
    → ReadsOn (front [] (InMark 2)) (s + n + len_utf8 c) more v → FileRead xs v
mark_file xs v g s n c more e f p m h on =
    let a : n ≡ 0 = sym (is_that n 0 e) in
    let b : c ≡ 45 = sym (is_that c 45 f) in
    dashes xs v g (s + n + len_utf8 c) more (rw (a, b) at p) (rw b at m) h on

plain_file : (xs : List ℕ) (v : Value) (g : Gapped [] Fresh 0 xs v) → BodyRead g.rest v → FileRead xs v
plain_file xs v g b = (Unmarked g.gaps, b.block, g.are, b.is, g.parts ∙ ap (λ zs. spell_gaps g.gaps ++ zs) b.parts, b.value)

line_read : (xs : List ℕ) (v : Value) (g : Gapped [] Fresh 0 xs v) (s n c : ℕ) (more : List ℕ) → g.rest ≡ spaces n ++ c ∷ more → is_content c ≡ true → all_ended true more ≡ true
    → OnFrom (line_content [] Fresh s (s + n) c (with_returns more)) (s + n + len_utf8 c) more v → FileRead xs v
unfolding line_content block_line
line_read xs v g s n c more p k h on =
    let a = rw (column_is s n) at on in
    elim (cases_Bool ((n == 0) && begins_mark c (with_returns more))) [
      | inl m ↦ let b = rw m at a in
          let both : ((n == 0) ≡ true) × (begins_mark c (with_returns more) ≡ true) = and_parts _ _ m in
          elim (cases_Bool (c == 45)) [
            | inl e ↦ mark_file xs v g s n c more both.0 e p (rw (mark_ahead more c) at both.1) h (rw e at b)
            | inr e ↦ absurd (rw e at b)
          ]
      | inr m ↦ plain_file xs v g (body_read s g.rest v (awaited [] s g.rest v n c more p k h m (rw m at a)))
    ]

start_read : (xs : List ℕ) (v : Value) (g : Gapped [] Fresh 0 xs v) → AtContent [] Fresh (past 0 (spell_gaps g.gaps)) g.rest v → FileRead xs v
start_read xs v g (inl e) = plain_file xs v g (record { block = None; is = tt; parts = e.0; value = nothing_ends [] Fresh (past 0 (spell_gaps g.gaps)) v refl e.1 })
start_read xs v g (inr b) = line_read xs v g (past 0 (spell_gaps g.gaps)) b.indent b.first b.more b.parts b.content b.ended (begins_on (λ at c more. line_content [] Fresh (past 0 (spell_gaps g.gaps)) at c more) (past 0 (spell_gaps g.gaps)) g.rest v b)

-- a file whose last line has its line feed is spelled by its tree
pub file_read : (xs : List ℕ) (v : Value) → all_ended false xs ≡ true → ReadsOn at_start 0 xs v → (h : Head) × (b : Option Block) × IsHead h × IsBody b × (xs ≡ spell_head h ++ spell_body b) × (body_value b ≡ v)
file_read xs v ended on = let g : Gapped [] Fresh 0 xs v = gaps_read [] Fresh 0 xs v refl ended on in start_read xs v g g.next
