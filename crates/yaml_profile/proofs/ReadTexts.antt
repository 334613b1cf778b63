-- What is read of a block scalar, from its indicator to the line that ends it.
use Rattle.std.proofs.Common.{◌≡◌, ℕ, zero, suc, ◌+◌, ◌<◌, ◌≤◌, Bool, true, false, not, ◌&&◌, ◌||◌, ◌==◌, nat_le, List, [], ◌∷◌, ◌++◌, length, Option, Some, None, inl, inr, if◌then◌else◌, refl, sym, ap, subst, ◌∙◌, arith, append_assoc, append-nil}
use Rattle.std.specs.List.{list_all}
use Rattle.std.specs.Char.{len_utf8}
use Rattle.std.proofs.lemmas.Bool.{cases_Bool, cases_lt}
use Rattle.std.proofs.lemmas.Bool.Decides.{nat_tests}
use Rattle.edt_base.specs.YamlData.{Value, a_text}
use Rattle.yaml_profile.specs.declared.block_text.Chomp.{Chomp}
use Rattle.yaml_profile.specs.BlockText.{BlockText, no_lines, begin_line, go_on, empty_line, spaces_line, first_line, blank_line, block_text}
use Rattle.yaml_profile.specs.Fronts.{Frame, InHeader, InTextLine, front, is_flow, is_deeper}
use Rattle.yaml_profile.specs.Layout.{is_indented, is_text_line}
use Rattle.yaml_profile.specs.Written.{spaces, spell_ending, is_inner, is_mark, TextLine, Line, Blank, Rows, Lines, Note, spell_text, spell_more, spell_note, spell_rows, spell_blanks, spell_header, spell_chomp, is_row, AreMore, AreRows, IsNote, go_all, with_more, with_rows, text_of, Scalars}
use Rattle.yaml_profile.proofs.ReadSteps.{past, past_append, is_that, ReadsOn, all_ended, Closed}
use Rattle.yaml_profile.proofs.ReadParts.{IsLeast, LeafRead}
use Rattle.yaml_profile.proofs.ReadGaps.{for_that, still_within}
use Rattle.yaml_profile.proofs.ReadHeaders.{HeaderRead, header_read}
use Rattle.yaml_profile.proofs.ReadRows.{OnText, TextRead, text_read, RowRead, row_read, AsText, RowKind, row_kind, begun_text, EndsText, TextOver, over_end, over_line, line_parts, line_place}
use Rattle.yaml_profile.proofs.WrittenScalars.{first_indent, known_text, more_indent, waiting}

-- ---- no mark begins within a line of text

no_feed_mark : (c : ℕ) → (((c == 45) || (c == 46)) && (10 == c)) ≡ false
no_feed_mark c = elim (cases_Bool (10 == c)) [
  | inl q ↦ subst (λ (k : ℕ). (((k == 45) || (k == 46)) && (10 == k)) ≡ false) (sym (is_that 10 c q)) refl
  | inr q ↦ rw q (no_one ((c == 45) || (c == 46)))
]
  where
    no_one : (a : Bool) → (a && false) ≡ false
    no_one true = refl
    no_one false = refl

no_later : (a b d : Bool) → (a && d) ≡ false → ((a && b) && d) ≡ false
no_later true true d h = h
no_later true false d h = refl
no_later false b d h = refl

-- what follows a line is no part of a mark on it
mark_in_line : (text rest : List ℕ) (c : ℕ) → is_mark true c (text ++ 10 ∷ rest) ≡ is_mark true c text
mark_in_line [] [] c = refl
mark_in_line [] (e ∷ more) c = rw (no_feed_mark c) refl
mark_in_line (d ∷ []) rest c = let l : ((((c == 45) || (c == 46)) && (d == c)) && (10 == c)) ≡ false = no_later _ (d == c) (10 == c) (no_feed_mark c) in rw l refl
mark_in_line (d ∷ e ∷ []) rest c = refl
mark_in_line (d ∷ e ∷ f ∷ more) rest c = refl

text_line_is : (column c : ℕ) (text rest more : List ℕ) → (c == 10) ≡ false → list_all is_inner text ≡ true → more ≡ text ++ 10 ∷ rest → ((column == 0) && is_mark true c more) ≡ false → is_row column c text ≡ true
text_line_is column c text rest more f i p m =
    let e : is_mark true c more ≡ is_mark true c text = ap (λ (zs : List ℕ). is_mark true c zs) p ∙ mark_in_line text rest c in
    let k : ((column == 0) && is_mark true c text) ≡ false = ap (λ (b : Bool). (column == 0) && b) (sym e) ∙ m in
    rw (f, i, k) refl

-- ---- lines after the first

known_test : (o : Option ℕ) (k n : ℕ) (none : Bool) → o ≡ Some k → elim o [ None ↦ none | Some i ↦ nat_le i n ] ≡ nat_le k n
known_test o k n none e = rw e refl

-- the spaces before a character go up to the text's indentation at most
column_low : (b : BlockText) (k n : ℕ) → b.indent ≡ Some k → ((m : ℕ) → m < n → is_indented b m ≡ false) → n ≤ k
column_low b k n e h = elim (cases_lt k n) [
  | inr l ↦ l
  | inl l ↦
      let t : nat_le k k ≡ true = grind (arith, nat_tests) in
      let i : is_indented b k ≡ true = known_test b.indent k k false e ∙ t in
      absurd (let q : true ≡ false = sym i ∙ h k l in cc)
]

column_high : (fs : List Frame) (b : BlockText) (k n : ℕ) → b.indent ≡ Some k → is_text_line fs b n ≡ true → k ≤ n
column_high fs b k n e h = let t : nat_le k n ≡ true = sym (known_test b.indent k n (is_deeper n fs) e) ∙ h in grind (arith, nat_tests)

column_under : (fs : List Frame) (b : BlockText) (k n : ℕ) → b.indent ≡ Some k → is_text_line fs b n ≡ false → n < k
column_under fs b k n e h = let t : nat_le k n ≡ false = sym (known_test b.indent k n (is_deeper n fs) e) ∙ h in grind (arith, nat_tests)

text_indent : (cs : List ℕ) (b : BlockText) → (go_all b cs).indent ≡ b.indent
text_indent [] b = refl
text_indent (c ∷ cs) b = text_indent cs (go_on b c)

-- the lines after the first one, and what ends them
pub record MoreRead (fs : List Frame) (k : ℕ) (b : BlockText) (s : ℕ) (xs : List ℕ) (v : Value) : Type 0 where
  pub lines : List TextLine
  pub rest : List ℕ
  pub parts : xs ≡ spell_more k lines ++ rest
  pub are : AreMore k lines
  pub over : TextOver fs k (a_text (block_text (with_more b lines))) (past s (spell_more k lines)) rest v

blank_parts : (hs zs rest : List ℕ) → hs ++ 10 ∷ (zs ++ rest) ≡ ((hs ++ 10 ∷ []) ++ zs) ++ rest
blank_parts hs zs rest = simp append_assoc refl

-- a line of spaces before other lines
more_blank : (fs : List Frame) (k n : ℕ) (b : BlockText) (s : ℕ) (xs : List ℕ) (v : Value) → n ≤ k → MoreRead fs k (empty_line b) (s + n + 1) xs v → MoreRead fs k b s (spaces n ++ 10 ∷ xs) v
more_blank fs k n b s xs v l m =
    let u : Value = a_text (block_text (with_more (empty_line b) m.lines)) in
    let zs : List ℕ = spell_more k m.lines in
    let place : past s ((spaces n ++ 10 ∷ []) ++ zs) ≡ past (s + n + 1) zs = past_append (spaces n ++ 10 ∷ []) zs s ∙ ap (λ (p : ℕ). past p zs) (line_place n s 10 []) in
    record {
      lines = Blank n ∷ m.lines;
      rest = m.rest;
      parts = ap (λ (ys : List ℕ). spaces n ++ 10 ∷ ys) m.parts ∙ blank_parts (spaces n) zs m.rest;
      are = (l, m.are);
      over = subst (λ (p : ℕ). TextOver fs k u p m.rest v) (sym place) m.over;
    }

-- a line of text before other lines
more_line : (fs : List Frame) (k c : ℕ) (text : List ℕ) (b : BlockText) (s : ℕ) (xs : List ℕ) (v : Value) → is_row k c text ≡ true
    → MoreRead fs k (go_all (begin_line b c) text) (past (s + k + len_utf8 c) (text ++ 10 ∷ [])) xs v → MoreRead fs k b s (spaces k ++ c ∷ (text ++ 10 ∷ xs)) v
more_line fs k c text b s xs v i m =
    let u : Value = a_text (block_text (with_more (go_all (begin_line b c) text) m.lines)) in
    let zs : List ℕ = spell_more k m.lines in
    let place : past s (spell_text k c text ++ zs) ≡ past (past (s + k + len_utf8 c) (text ++ 10 ∷ [])) zs
    = past_append (spell_text k c text) zs s ∙ ap (λ (p : ℕ). past p zs) (line_place k s c (text ++ 10 ∷ [])) in
    record {
      lines = Line c text ∷ m.lines;
      rest = m.rest;
      parts = ap (λ (ys : List ℕ). spaces k ++ c ∷ (text ++ 10 ∷ ys)) m.parts ∙ line_parts (spaces k) text zs m.rest c;
      are = (i, m.are);
      over = subst (λ (p : ℕ). TextOver fs k u p m.rest v) (sym place) m.over;
    }

-- how reading goes on after a line, where no more is left than these characters
abbrev MoreOn : List Frame → (k : ℕ) → (xs : List ℕ) → Value → Type 0
MoreOn fs k xs v = (d : BlockText) (p : ℕ) (ys : List ℕ) → d.indent ≡ Some k → all_ended false ys ≡ true → length ys ≤ length xs → OnText fs d p ys v → MoreRead fs k d p ys v

more_from_blank : (fs : List Frame) (k : ℕ) (b : BlockText) (s n : ℕ) (more : List ℕ) (v : Value) → b.indent ≡ Some k → n ≤ k → all_ended false more ≡ true → MoreOn fs k more v
    → OnText fs (blank_line b n) (s + n + 1) more v → MoreRead fs k b s (spaces n ++ 10 ∷ more) v
more_from_blank fs k b s n more v i l e next h =
    let q : blank_line b n ≡ empty_line b = known_text b.indent k _ (empty_line b) i in
    let g : OnText fs (empty_line b) (s + n + 1) more v = subst (λ (d : BlockText). OnText fs d (s + n + 1) more v) q h in
    more_blank fs k n b s more v l (next (empty_line b) (s + n + 1) more i e (omega arith) g)

more_from_text : (fs : List Frame) (k : ℕ) (b : BlockText) (s c : ℕ) (more : List ℕ) (v : Value) → b.indent ≡ Some k → all_ended true more ≡ true → MoreOn fs k more v → AsText fs b s k c more v
    → MoreRead fs k b s (spaces k ++ c ∷ more) v
more_from_text fs k b s c more v i e next t =
    let at : ℕ = s + k + len_utf8 c in
    let d : BlockText = begin_line b c in
    let q : begun_text b k c ≡ d = known_text b.indent k (first_line b k c) d i in
    let g : ReadsOn (front fs (InTextLine d)) at more v = subst (λ (x : BlockText). ReadsOn (front fs (InTextLine x)) at more v) q t.on in
    let r : TextRead fs d at more v = text_read more fs d at v e g in
    let j : (go_all d r.text).indent ≡ Some k = text_indent r.text d ∙ i in
    let m : MoreRead fs k (go_all d r.text) (past at (r.text ++ 10 ∷ [])) r.rest v
    = next (go_all d r.text) (past at (r.text ++ 10 ∷ [])) r.rest j r.ended (let l : length r.rest < length more = r.shorter in omega arith) r.on in
    let x : MoreRead fs k b s (spaces k ++ c ∷ (r.text ++ 10 ∷ r.rest)) v = more_line fs k c r.text b s r.rest v (text_line_is k c r.text r.rest more t.feed r.inner r.parts t.mark) m in
    subst (λ (zs : List ℕ). MoreRead fs k b s (spaces k ++ c ∷ zs) v) (sym r.parts) x

more_kind : (fs : List Frame) (k : ℕ) (b : BlockText) (s n c : ℕ) (more : List ℕ) (v : Value) → is_flow fs ≡ false → b.indent ≡ Some k → ((m : ℕ) → m < n → is_indented b m ≡ false)
    → all_ended (not (c == 10)) more ≡ true → MoreOn fs k more v → RowKind fs b s n c more v → MoreRead fs k b s (spaces n ++ c ∷ more) v
more_kind fs k b s n c more v f i l e next (inl h) =
    let a : all_ended false more ≡ true = rw h.0 at e in
    for_that (λ (x : ℕ). MoreRead fs k b s (spaces n ++ x ∷ more) v) c 10 h.0 (more_from_blank fs k b s n more v i (column_low b k n i l) a next h.1)
more_kind fs k b s n c more v f i l e next (inr (inl t)) =
    let low : n ≤ k = column_low b k n i l in
    let high : k ≤ n = column_high fs b k n i t.is in
    let q : n ≡ k = omega arith in
    let y : AsText fs b s k c more v = subst (λ (m : ℕ). AsText fs b s m c more v) q t in
    subst (λ (m : ℕ). MoreRead fs k b s (spaces m ++ c ∷ more) v) (sym q) (more_from_text fs k b s c more v i (still_within true c more t.feed e) next y)
more_kind fs k b s n c more v f i l e next (inr (inr o)) = record {
  lines = [];
  rest = spaces n ++ c ∷ more;
  parts = refl;
  are = tt;
  over = over_line fs (a_text (block_text b)) k s n c more v f o.feed o.space (λ g. column_under fs b k n i (o.note g)) (still_within true c more o.feed e) o.on;
}

more_read : (fuel : ℕ) (xs : List ℕ) (fs : List Frame) (k : ℕ) (b : BlockText) (s : ℕ) (v : Value) → length xs ≤ fuel → is_flow fs ≡ false → b.indent ≡ Some k → all_ended false xs ≡ true → OnText fs b s xs v
    → MoreRead fs k b s xs v
more_read fuel [] fs k b s v l f i e h = record { lines = []; rest = []; parts = refl; are = tt; over = over_end fs b k s v f h }
more_read zero (c ∷ cs) fs k b s v l f i e h = absurd (omega arith)
more_read (suc fuel) (c ∷ cs) fs k b s v l f i e h =
    let r : RowRead fs b s (c ∷ cs) v = row_read fs b s c cs v e h in
    let less : length r.more < length (c ∷ cs) = r.shorter in
    let next : MoreOn fs k r.more v = λ d p ys j a m o. more_read fuel ys fs k d p v (omega arith) f j a o in
    let x : MoreRead fs k b s (spaces r.column ++ r.first ∷ r.more) v = more_kind fs k b s r.column r.first r.more v f i r.below r.ended next (row_kind fs b s r.column r.first r.more v r.stops r.on) in
    subst (λ (zs : List ℕ). MoreRead fs k b s zs v) (sym r.parts) x

-- ---- blank lines, and the first line of text

blank_indent : (n : ℕ) (b : BlockText) → (spaces_line b n).indent ≡ b.indent
blank_indent zero b = refl
blank_indent (suc n) b = more_indent n (begin_line b 32)

-- a line that ends the text has a lower column than this
abbrev limit_of : ℕ → Option Rows → ℕ
limit_of least None = least
limit_of least (Some r) = r.indent

-- blank lines, the lines of text, and what ends them, after these blank lines
pub record RowsRead (fs : List Frame) (least : ℕ) (folded : Bool) (chomp : Chomp) (lead : List ℕ) (s : ℕ) (xs : List ℕ) (v : Value) : Type 0 where
  pub blanks : List ℕ
  pub rows : Option Rows
  pub rest : List ℕ
  pub parts : xs ≡ spell_blanks blanks ++ (spell_rows rows ++ rest)
  pub are : AreRows least rows
  pub over : TextOver fs (limit_of least rows) (a_text (block_text (with_rows (waiting folded chomp (lead ++ blanks)) rows))) (past s (spell_blanks blanks ++ spell_rows rows)) rest v

-- a blank line before others
rows_blank : (fs : List Frame) (least : ℕ) (folded : Bool) (chomp : Chomp) (lead : List ℕ) (s n : ℕ) (xs : List ℕ) (v : Value) → RowsRead fs least folded chomp (lead ++ n ∷ []) (s + n + 1) xs v
    → RowsRead fs least folded chomp lead s (spaces n ++ 10 ∷ xs) v
rows_blank fs least folded chomp lead s n xs v m =
    let bs : List ℕ = spell_blanks m.blanks in
    let rs : List ℕ = spell_rows m.rows in
    let u : List ℕ → Value = λ zs. a_text (block_text (with_rows (waiting folded chomp zs) m.rows)) in
    let l : ℕ = limit_of least m.rows in
    let place : past (s + n + 1) (bs ++ rs) ≡ past s (((spaces n ++ 10 ∷ []) ++ bs) ++ rs)
    = sym (ap (λ (zs : List ℕ). past s zs) (append_assoc (spaces n ++ 10 ∷ []) bs rs) ∙ (past_append (spaces n ++ 10 ∷ []) (bs ++ rs) s ∙ ap (λ (p : ℕ). past p (bs ++ rs)) (line_place n s 10 []))) in
    record {
      blanks = n ∷ m.blanks;
      rows = m.rows;
      rest = m.rest;
      parts = ap (λ (ys : List ℕ). spaces n ++ 10 ∷ ys) m.parts ∙ blank_parts (spaces n) bs (rs ++ m.rest);
      are = m.are;
      over = subst (λ (zs : List ℕ). TextOver fs l (u zs) (past s (((spaces n ++ 10 ∷ []) ++ bs) ++ rs)) m.rest v) (append_assoc lead (n ∷ []) m.blanks)
          (subst (λ (p : ℕ). TextOver fs l (u ((lead ++ n ∷ []) ++ m.blanks)) p m.rest v) place m.over);
    }

-- the lines of text
rows_text : (fs : List Frame) (least : ℕ) (folded : Bool) (chomp : Chomp) (lead : List ℕ) (s k c : ℕ) (text xs : List ℕ) (v : Value) → least ≤ k → (c == 32) ≡ false → is_row k c text ≡ true
    → MoreRead fs k (go_all (first_line (waiting folded chomp lead) k c) text) (past (s + k + len_utf8 c) (text ++ 10 ∷ [])) xs v → RowsRead fs least folded chomp lead s (spaces k ++ c ∷ (text ++ 10 ∷ xs)) v
rows_text fs least folded chomp lead s k c text xs v l p i m =
    let zs : List ℕ = spell_more k m.lines in
    let u : List ℕ → Value = λ bs. a_text (block_text (with_more (go_all (first_line (waiting folded chomp bs) k c) text) m.lines)) in
    let place : past s (spell_text k c text ++ zs) ≡ past (past (s + k + len_utf8 c) (text ++ 10 ∷ [])) zs
    = past_append (spell_text k c text) zs s ∙ ap (λ (q : ℕ). past q zs) (line_place k s c (text ++ 10 ∷ [])) in
    record {
      blanks = [];
      rows = Some (record { indent = k; first = c; text = text; more = m.lines });
      rest = m.rest;
      parts = ap (λ (ys : List ℕ). spaces k ++ c ∷ (text ++ 10 ∷ ys)) m.parts ∙ line_parts (spaces k) text zs m.rest c;
      are = (l, p, i, m.are);
      over = subst (λ (bs : List ℕ). TextOver fs k (u bs) (past s (spell_text k c text ++ zs)) m.rest v) (sym (append-nil lead))
          (subst (λ (q : ℕ). TextOver fs k (u lead) q m.rest v) (sym place) m.over);
    }

-- no text
rows_none : (fs : List Frame) (least : ℕ) (folded : Bool) (chomp : Chomp) (lead : List ℕ) (s : ℕ) (xs : List ℕ) (v : Value) → TextOver fs least (a_text (block_text (waiting folded chomp lead))) s xs v
    → RowsRead fs least folded chomp lead s xs v
rows_none fs least folded chomp lead s xs v o = record {
  blanks = [];
  rows = None;
  rest = xs;
  parts = refl;
  are = tt;
  over = subst (λ (bs : List ℕ). TextOver fs least (a_text (block_text (waiting folded chomp bs))) s xs v) (sym (append-nil lead)) o;
}

-- columns of lower lines are less than this
abbrev pub IsLow : ℕ → List Frame → Type 0
IsLow least fs = (n : ℕ) → is_deeper n fs ≡ false → n < least

abbrev RowsOn : List Frame → (least : ℕ) → Bool → Chomp → (xs : List ℕ) → Value → Type 0
RowsOn fs least folded chomp xs v =
    (lead : List ℕ) (p : ℕ) (ys : List ℕ) → all_ended false ys ≡ true → length ys ≤ length xs → OnText fs (waiting folded chomp lead) p ys v → RowsRead fs least folded chomp lead p ys v

no_space : (a : Bool) → (a && true) ≡ false → a ≡ false
no_space true e = e
no_space false e = refl

rows_from_text : (fs : List Frame) (least : ℕ) (folded : Bool) (chomp : Chomp) (lead : List ℕ) (s n c : ℕ) (more : List ℕ) (v : Value) → is_flow fs ≡ false → IsLeast least fs → (c == 32) ≡ false → all_ended true more ≡ true
    → AsText fs (waiting folded chomp lead) s n c more v → RowsRead fs least folded chomp lead s (spaces n ++ c ∷ more) v
rows_from_text fs least folded chomp lead s n c more v f d p e t =
    let at : ℕ = s + n + len_utf8 c in
    let b : BlockText = first_line (waiting folded chomp lead) n c in
    let r : TextRead fs b at more v = text_read more fs b at v e t.on in
    let i : (go_all b r.text).indent ≡ Some n = text_indent r.text b ∙ first_indent (waiting folded chomp lead) n c in
    let m : MoreRead fs n (go_all b r.text) (past at (r.text ++ 10 ∷ [])) r.rest v
    = more_read (length r.rest) r.rest fs n (go_all b r.text) (past at (r.text ++ 10 ∷ [])) v (omega arith) f i r.ended r.on in
    let x : RowsRead fs least folded chomp lead s (spaces n ++ c ∷ (r.text ++ 10 ∷ r.rest)) v
    = rows_text fs least folded chomp lead s n c r.text r.rest v (d n t.is) p (text_line_is n c r.text r.rest more t.feed r.inner r.parts t.mark) m in
    subst (λ (zs : List ℕ). RowsRead fs least folded chomp lead s (spaces n ++ c ∷ zs) v) (sym r.parts) x

rows_kind : (fs : List Frame) (least : ℕ) (folded : Bool) (chomp : Chomp) (lead : List ℕ) (s n c : ℕ) (more : List ℕ) (v : Value) → is_flow fs ≡ false → IsLeast least fs → IsLow least fs
    → ((c == 32) && true) ≡ false → all_ended (not (c == 10)) more ≡ true → RowsOn fs least folded chomp more v → RowKind fs (waiting folded chomp lead) s n c more v
    → RowsRead fs least folded chomp lead s (spaces n ++ c ∷ more) v
rows_kind fs least folded chomp lead s n c more v f d low p e next (inl h) =
    let a : all_ended false more ≡ true = rw h.0 at e in
    for_that (λ (x : ℕ). RowsRead fs least folded chomp lead s (spaces n ++ x ∷ more) v) c 10 h.0 (rows_blank fs least folded chomp lead s n more v (next (lead ++ n ∷ []) (s + n + 1) more a (omega arith) h.1))
rows_kind fs least folded chomp lead s n c more v f d low p e next (inr (inl t)) = rows_from_text fs least folded chomp lead s n c more v f d (no_space (c == 32) p) (still_within true c more t.feed e) t
rows_kind fs least folded chomp lead s n c more v f d low p e next (inr (inr o)) =
    let u : Value = a_text (block_text (waiting folded chomp lead)) in
    rows_none fs least folded chomp lead s (spaces n ++ c ∷ more) v (over_line fs u least s n c more v f o.feed o.space (λ g. low n (o.note g)) (still_within true c more o.feed e) o.on)

rows_read : (fuel : ℕ) (xs : List ℕ) (fs : List Frame) (least : ℕ) (folded : Bool) (chomp : Chomp) (lead : List ℕ) (s : ℕ) (v : Value) → length xs ≤ fuel → is_flow fs ≡ false → IsLeast least fs → IsLow least fs
    → all_ended false xs ≡ true → OnText fs (waiting folded chomp lead) s xs v → RowsRead fs least folded chomp lead s xs v
rows_read fuel [] fs least folded chomp lead s v l f d low e h = rows_none fs least folded chomp lead s [] v (over_end fs (waiting folded chomp lead) least s v f h)
rows_read zero (c ∷ cs) fs least folded chomp lead s v l f d low e h = absurd (omega arith)
rows_read (suc fuel) (c ∷ cs) fs least folded chomp lead s v l f d low e h =
    let b : BlockText = waiting folded chomp lead in
    let r : RowRead fs b s (c ∷ cs) v = row_read fs b s c cs v e h in
    let less : length r.more < length (c ∷ cs) = r.shorter in
    let next : RowsOn fs least folded chomp r.more v = λ ns p ys a m o. rows_read fuel ys fs least folded chomp ns p v (omega arith) f d low a o in
    let k : RowKind fs b s r.column r.first r.more v = row_kind fs b s r.column r.first r.more v r.stops r.on in
    let x : RowsRead fs least folded chomp lead s (spaces r.column ++ r.first ∷ r.more) v = rows_kind fs least folded chomp lead s r.column r.first r.more v f d low r.stops r.ended next k in
    subst (λ (zs : List ℕ). RowsRead fs least folded chomp lead s zs v) (sym r.parts) x

-- ---- the whole

note_is : (least : ℕ) (rows : Option Rows) (note : Option Note) → EndsText (limit_of least rows) note → IsNote least rows note
note_is least rows None h = tt
note_is least None (Some n) h = h
note_is least (Some r) (Some n) h = h

-- the parts of a block scalar after one another
whole_parts : (c : ℕ) (ks es bs rs ns rest : List ℕ) → c ∷ (ks ++ (es ++ (bs ++ (rs ++ (ns ++ rest))))) ≡ (((c ∷ ks) ++ (es ++ (bs ++ rs))) ++ ns) ++ rest
whole_parts c ks es bs rs ns rest = simp append_assoc refl

whole_place : (c at : ℕ) (ks es bs rs ns : List ℕ) → past at (((c ∷ ks) ++ (es ++ (bs ++ rs))) ++ ns) ≡ past (past (past (past (at + len_utf8 c) ks) es) (bs ++ rs)) ns
whole_place c at ks es bs rs ns = simp past_append refl

header_spelled : (folded : Bool) (chomp : Chomp) → spell_header folded chomp ≡ (if folded then 62 else 124) ∷ spell_chomp chomp
header_spelled true chomp = refl
header_spelled false chomp = refl

-- the indicator, with its code
abbrev sign_of : Bool → ℕ
sign_of folded = if folded then 62 else 124

sign_len : (folded : Bool) → len_utf8 (sign_of folded) ≡ 1
sign_len true = refl
sign_len false = refl

-- a block scalar, after its indicator
pub block_text_read : (fs : List Frame) (place : Option ℕ) (least level at : ℕ) (cs : List ℕ) (v : Value) (folded : Bool) → is_flow fs ≡ false → IsLeast least fs → ((n : ℕ) → is_deeper n fs ≡ false → n < least)
    → all_ended true cs ≡ true → ReadsOn (front fs (InHeader (no_lines folded) false false)) (at + 1) cs v → LeafRead fs place least level at ((if folded then 62 else 124) ∷ cs) v
block_text_read fs place least level at cs v folded f d low e h =
    let x : HeaderRead fs folded (at + 1) cs v = header_read fs folded (at + 1) cs v e h in
    let p : ℕ = past (past (at + 1) (spell_chomp x.chomp)) (spell_ending x.ending) in
    let y : RowsRead fs least folded x.chomp [] p x.rest v = rows_read (length x.rest) x.rest fs least folded x.chomp [] p v (omega arith) f d low x.ended x.on in
    let o : TextOver fs (limit_of least y.rows) (a_text (block_text (with_rows (waiting folded x.chomp y.blanks) y.rows))) (past p (spell_blanks y.blanks ++ spell_rows y.rows)) y.rest v = y.over in
    let l : Lines = record { folded = folded; chomp = x.chomp; ending = x.ending; leading = y.blanks; rows = y.rows } in
    let c : ℕ = sign_of folded in
    let ks : List ℕ = spell_chomp x.chomp in
    let es : List ℕ = spell_ending x.ending in
    let bs : List ℕ = spell_blanks y.blanks in
    let rs : List ℕ = spell_rows y.rows in
    let ns : List ℕ = spell_note o.note in
    let hs : List ℕ → List ℕ = λ zs. (zs ++ (es ++ (bs ++ rs))) ++ ns in
    let spelled : c ∷ ks ≡ spell_header folded x.chomp = sym (header_spelled folded x.chomp) in
    let parts : cs ≡ ks ++ (es ++ (bs ++ (rs ++ (ns ++ o.rest)))) = x.parts ∙ ap (λ (zs : List ℕ). ks ++ (es ++ zs)) (y.parts ∙ ap (λ (zs : List ℕ). bs ++ (rs ++ zs)) o.parts) in
    let whole : c ∷ cs ≡ hs (c ∷ ks) ++ o.rest = ap (λ (zs : List ℕ). c ∷ zs) parts ∙ whole_parts c ks es bs rs ns o.rest in
    let at_end : past at (hs (c ∷ ks)) ≡ past (past p (bs ++ rs)) ns = whole_place c at ks es bs rs ns ∙ ap (λ (n : ℕ). past (past (past (past (at + n) ks) es) (bs ++ rs)) ns) (sign_len folded) in
    record {
      leaf = Scalars l o.note;
      rest = o.rest;
      parts = subst (λ (zs : List ℕ). c ∷ cs ≡ hs zs ++ o.rest) spelled whole;
      is = ((x.is, x.apart, y.are), note_is least y.rows o.note o.is);
      closed = subst (λ (zs : List ℕ). Closed fs (a_text (block_text (text_of l))) (past at (hs zs)) o.rest v) spelled
          (subst (λ (q : ℕ). Closed fs (a_text (block_text (text_of l))) q o.rest v) (sym at_end) o.closed);
      ended = o.ended;
    }
