-- How written files are read: what stands before the value, and the value.
use Rattle.std.proofs.Common.{◌≡◌, ℕ, ◌+◌, ◌-◌, true, false, ◌==◌, List, [], ◌∷◌, ◌++◌, Option, Some, None, Ok, refl, sym, ap, subst, ◌∙◌, arith, append-nil, append_assoc, inl}
use Rattle.std.proofs.lemmas.Bool.Decides.{nat_tests}
use Rattle.edt_base.specs.YamlData.{Value, null}
use Rattle.yaml_profile.specs.Signs.{ends_word}
use Rattle.yaml_profile.specs.Fronts.{Frame, Waiting, Fresh, Nothing as NothingYet, Going, Whole, AtLine, AfterValue, InMark, front, value_so_far, all_closed, is_flow}
use Rattle.yaml_profile.specs.Layout.{in_line, line_content, in_mark, is_fresh}
use Rattle.yaml_profile.specs.Reading.{at_start, taken}
use Rattle.yaml_profile.specs.Written.{Ending, spell_ending, IsEnding, IsApart, spell_gaps, Head, Unmarked, Marked, spell_head, IsHead, Block, Map, Dashes, Alone, spell_block, spell_body, IsBody, body_value, File, spell_whole, file_value, IsFile}
use Rattle.yaml_profile.proofs.WrittenTexts.{goes}
use Rattle.yaml_profile.proofs.ReadSteps.{line_walk, past, past_append, with_returns}
use Rattle.yaml_profile.proofs.WrittenKeys.{is_pending}
use Rattle.yaml_profile.proofs.WrittenFlows.{after_ends}
use Rattle.yaml_profile.proofs.WrittenOpen.{open_block, left_block, over_entries, over_items, over_key, closes_block}
use Rattle.yaml_profile.proofs.WrittenBlocks.{ending_word, pending_so_far, Kept, gaps_wait}
use Rattle.yaml_profile.proofs.WrittenScalars.{Stand, OfLine, stands, stand_wait}
use Rattle.yaml_profile.proofs.WrittenLeaves.{Stood, stood_behind}
use Rattle.yaml_profile.proofs.WrittenReads.{Fits, block_reads}

-- ---- before the value

mark_taken : (w : Waiting) (fs : List Frame) (s : ℕ) (rest : List ℕ) → is_fresh w ≡ true → is_flow fs ≡ false → ends_word rest ≡ true
    → taken fs (AtLine s w) s 45 (45 ∷ 45 ∷ rest) ≡ Ok (front fs (InMark 2))
unfolding taken in_line line_content
mark_taken Fresh fs s rest h f e = let z : ((s - s) == 0) ≡ true = grind (arith, nat_tests) in rw (f, z, e) refl
mark_taken NothingYet fs s rest h f e = cc
mark_taken (Going t) fs s rest h f e = cc
mark_taken (Whole v) fs s rest h f e = cc

second_dash : (fs : List Frame) (at : ℕ) (rest : List ℕ) → taken fs (InMark 2) at 45 rest ≡ Ok (front fs (InMark 1))
unfolding taken in_mark
second_dash fs at rest = refl

third_dash : (fs : List Frame) (at : ℕ) (rest : List ℕ) → taken fs (InMark 1) at 45 rest ≡ Ok (front fs (AfterValue NothingYet false))
unfolding taken in_mark
third_dash fs at rest = refl

-- from the start of the file to that of a line where its value may begin
record Headed (xs : List ℕ) : Type 0 where
  wait : Waiting
  pending : is_pending wait ≡ true
  run : (rest : List ℕ) → line_walk at_start 0 (xs ++ rest) ≡ line_walk (front [] (AtLine (past 0 xs) wait)) (past 0 xs) rest

marked_run : (e : Ending) (w : Waiting) (s : ℕ) (rest : List ℕ) → is_fresh w ≡ true → IsEnding e → IsApart e
    → line_walk (front [] (AtLine s w)) s ((45 ∷ 45 ∷ 45 ∷ spell_ending e) ++ rest) ≡ line_walk (front [] (AtLine (past s (45 ∷ 45 ∷ 45 ∷ spell_ending e)) NothingYet)) (past s (45 ∷ 45 ∷ 45 ∷ spell_ending e)) rest
marked_run e w s rest f h a =
    let ys : List ℕ = spell_ending e ++ rest in
    goes [] (AtLine s w) (front [] (InMark 2)) s 45 (45 ∷ 45 ∷ ys) (mark_taken w [] s (with_returns ys) f refl (ending_word e rest a))
    ∙ (goes [] (InMark 2) (front [] (InMark 1)) (s + 1) 45 (45 ∷ ys) (second_dash [] (s + 1) (with_returns (45 ∷ ys)))
    ∙ (goes [] (InMark 1) (front [] (AfterValue NothingYet false)) (s + 1 + 1) 45 ys (third_dash [] (s + 1 + 1) (with_returns ys))
    ∙ after_ends e [] NothingYet (s + 1 + 1 + 1) rest h a))

head_reads : (h : Head) → IsHead h → Headed (spell_head h)
head_reads (Unmarked gaps) g =
    let k : Kept Fresh gaps [] 0 0 = gaps_wait gaps [] 0 Fresh 0 refl g in
    record { wait = k.wait; pending = k.pending; run = k.run }
head_reads (Marked before e gaps) g =
    let k : Kept Fresh before [] 0 0 = gaps_wait before [] 0 Fresh 0 refl g.0 in
    let xs : List ℕ = spell_gaps before in
    let ms : List ℕ = 45 ∷ 45 ∷ 45 ∷ spell_ending e in
    let gs : List ℕ = spell_gaps gaps in
    let p : ℕ = past 0 xs in
    let q : ℕ = past p ms in
    let l : Kept NothingYet gaps [] q q = gaps_wait gaps [] q NothingYet q refl g.3 in
    record {
      wait = l.wait;
      pending = l.pending;
      run = λ rest. ap (λ zs. line_walk at_start 0 zs) (append_assoc xs (ms ++ gs) rest)
          ∙ (k.run ((ms ++ gs) ++ rest)
          ∙ (ap (λ zs. line_walk (front [] (AtLine p k.wait)) p zs) (append_assoc ms gs rest)
          ∙ (marked_run e k.wait p (gs ++ rest) k.fresh g.1 g.2
          ∙ (l.run rest ∙ ap (λ n. line_walk (front [] (AtLine n l.wait)) n rest) (sym (past_append xs (ms ++ gs) 0 ∙ past_append ms gs p))))));
    }

-- ---- the file

top_fits : (b : Block) → Fits b []
top_fits (Map own es) = refl
top_fits (Alone own l) = refl
top_fits (Dashes own is) = inl refl

abbrev open_body : Option Block → List Frame
open_body None = []
open_body (Some b) = open_block b []

abbrev left_body : Option Block → Value
left_body None = null
left_body (Some b) = left_block b

top_flow : (o : Option Block) → IsBody o → is_flow (open_body o) ≡ false
top_flow None h = refl
top_flow (Some (Map own es)) h = (over_entries es own [] 1 own false (Some own) h.1 (omega arith) (λ ks vs. over_key own ks vs [])).flow
top_flow (Some (Dashes own is)) h = (over_items is own [] 1 own true h.1 (omega arith)).flow
top_flow (Some (Alone own l)) h = refl

top_closes : (o : Option Block) → all_closed (open_body o) (left_body o) ≡ body_value o
top_closes None = refl
top_closes (Some b) = closes_block b []

file_reads : (h : Head) (o : Option Block) → IsHead h → IsBody o → Stood (line_walk at_start 0) 0 (spell_head h ++ spell_body o) (open_body o) (left_body o) 0
file_reads h None g i =
    let k : Headed (spell_head h) = head_reads h g in
    let P : List ℕ → Type 0 = λ zs. Stood (line_walk at_start 0) 0 zs [] null 0 in
    subst P (sym (append-nil (spell_head h))) (record { stand = OfLine k.wait; is = pending_so_far k.wait null k.pending; passes = tt; run = k.run })
file_reads h (Some b) g i =
    let k : Headed (spell_head h) = head_reads h g in
    let p : ℕ = past 0 (spell_head h) in
    stood_behind (line_walk at_start 0) (front [] (AtLine p k.wait)) 0 (spell_head h) (spell_block b) (open_block b []) (left_block b) 0 (λ rest. k.run (spell_block b ++ rest))
    (block_reads b [] 0 p k.wait 0 0 i refl refl (top_fits b) k.pending (omega arith) (λ n q. refl) (λ n q. absurd (omega arith)) (omega arith))

-- the front at the end, and the value of the file
pub record Walked (xs : List ℕ) (v : Value) : Type 0 where
  pub frames : List Frame
  pub stand : Stand
  pub at : ℕ
  pub place : at ≡ past 0 xs
  pub run : line_walk at_start 0 xs ≡ Ok (front frames (stands stand at))
  pub flow : is_flow frames ≡ false
  pub all : all_closed frames (value_so_far (stand_wait stand)) ≡ v

pub written_is_walked : (f : File) → IsFile f → Walked (spell_whole f) (file_value f)
unfolding line_walk
written_is_walked f h =
    let o : Option Block = f.block in
    let r : Stood (line_walk at_start 0) 0 (spell_whole f) (open_body o) (left_body o) 0 = file_reads f.head o h.0 h.1 in
    record {
      frames = open_body o;
      stand = r.stand;
      at = past 0 (spell_whole f);
      place = refl;
      run = ap (λ zs. line_walk at_start 0 zs) (sym (append-nil (spell_whole f))) ∙ r.run [];
      flow = top_flow o h.1;
      all = ap (λ (v : Value). all_closed (open_body o) v) r.is ∙ top_closes o;
    }
