-- How block scalars of written files are read.
use Rattle.std.proofs.Common.{◌≡◌, ℕ, zero, suc, ◌+◌, ◌-◌, ◌<◌, ◌≤◌, Bool, true, false, ◌&&◌, ◌==◌, nat_le, List, [], ◌∷◌, ◌++◌, Option, Some, None, Result, Ok, if◌then◌else◌, refl, sym, ap, ◌∙◌, arith, append-nil, append_assoc, ◌⊎◌, inl, inr}
use Rattle.std.specs.List.{list_all}
use Rattle.std.specs.Char.{len_utf8}
use Rattle.std.proofs.lemmas.Bool.{and_parts}
use Rattle.std.proofs.lemmas.Bool.Decides.{nat_tests}
use Rattle.edt_base.specs.YamlData.{a_text}
use Rattle.yaml_profile.specs.declared.stop.Broken.{Broken}
use Rattle.yaml_profile.specs.declared.front.Role.{Role}
use Rattle.yaml_profile.specs.declared.block_text.Chomp.{Chomp}
use Rattle.yaml_profile.specs.declared.block_text.Chomp.TheVariants.{Strip, Clip, Keep}
use Rattle.yaml_profile.specs.Signs.{begins_mark}
use Rattle.yaml_profile.specs.BlockText.{BlockText, no_lines, begin_line, go_on, empty_line, more_spaces, spaces_line as blank_text, lead_in, first_line, block_text}
use Rattle.yaml_profile.specs.Fronts.{Frame, Waiting, Whole, Innermost, AtLine, InHeader, InHeaderComment, InComment, AtTextLine, InTextLine, Front, front, value_so_far, is_flow, is_deeper}
use Rattle.yaml_profile.specs.Pieces.{begin_value, begin_sign, is_key_only}
use Rattle.yaml_profile.specs.Layout.{in_line, in_header, in_header_comment, at_text_line, in_text_line, block_line, is_indented, is_text_line, ends_blank_line, begin_text}
use Rattle.yaml_profile.specs.Reading.{taken, ends, outside_flow}
use Rattle.yaml_profile.specs.Written.{spaces, Ending, Bare, Noted, spell_ending, IsEnding, IsApart, is_inner, TextLine, Line, Blank, Rows, Lines, spell_header, spell_text, spell_more, spell_blanks, spell_rows, spell_lines, is_mark, is_row, AreMore, AreRows, AreLines, go_all, with_more, with_rows, text_of}
use Rattle.yaml_profile.proofs.WrittenTexts.{return_ahead, after_char, goes, comment_goes, spaces_line, spaced_by, still}
use Rattle.yaml_profile.proofs.ReadSteps.{line_walk, not_true, past, past_append, with_returns}
use Rattle.yaml_profile.proofs.WrittenLines.{Reads, begin_run, begun as begun_value}
use Rattle.yaml_profile.proofs.WrittenKeys.{Content, content_line, mark_is}
use Rattle.yaml_profile.proofs.WrittenBlocks.{column_is}

-- ---- the header

bar_begins : (fs : List Frame) (role : Role) (at : ℕ) (rest : List ℕ) → is_key_only role ≡ false → is_flow fs ≡ false → begin_value fs role at 124 rest ≡ Ok (front fs (InHeader (no_lines false) false false))
unfolding begin_value begin_sign
bar_begins fs role at rest k f = rw (k, f) refl

greater_begins : (fs : List Frame) (role : Role) (at : ℕ) (rest : List ℕ) → is_key_only role ≡ false → is_flow fs ≡ false → begin_value fs role at 62 rest ≡ Ok (front fs (InHeader (no_lines true) false false))
unfolding begin_value begin_sign
greater_begins fs role at rest k f = rw (k, f) refl

plus_sign : (fs : List Frame) (b : BlockText) (at : ℕ) (rest : List ℕ) → taken fs (InHeader b false false) at 43 rest ≡ Ok (front fs (InHeader (record b { chomp = Keep }) true false))
unfolding taken in_header
plus_sign fs b at rest = refl

minus_sign : (fs : List Frame) (b : BlockText) (at : ℕ) (rest : List ℕ) → taken fs (InHeader b false false) at 45 rest ≡ Ok (front fs (InHeader (record b { chomp = Strip }) true false))
unfolding taken in_header
minus_sign fs b at rest = refl

abbrev has_sign : Chomp → Bool
has_sign Clip = false
has_sign _ = true

abbrev begun : Bool → Chomp → BlockText
begun folded chomp = record (no_lines folded) { chomp = chomp }

header_goes : (folded : Bool) (chomp : Chomp) (fs : List Frame) (role : Role) (at : ℕ) (rest : List ℕ) → is_key_only role ≡ false → is_flow fs ≡ false
    → begin_run fs role at (spell_header folded chomp ++ rest) ≡ line_walk (front fs (InHeader (begun folded chomp) (has_sign chomp) false)) (past at (spell_header folded chomp)) rest
header_goes true Clip fs role at rest v f = begun_value fs role (front fs (InHeader (no_lines true) false false)) at 62 rest (greater_begins fs role at (with_returns rest) v f)
header_goes true Strip fs role at rest v f = begun_value fs role (front fs (InHeader (no_lines true) false false)) at 62 (45 ∷ rest) (greater_begins fs role at (with_returns (45 ∷ rest)) v f)
    ∙ goes fs (InHeader (no_lines true) false false) (front fs (InHeader (begun true Strip) true false)) (at + 1) 45 rest (minus_sign fs (no_lines true) (at + 1) (with_returns rest))
header_goes true Keep fs role at rest v f = begun_value fs role (front fs (InHeader (no_lines true) false false)) at 62 (43 ∷ rest) (greater_begins fs role at (with_returns (43 ∷ rest)) v f)
    ∙ goes fs (InHeader (no_lines true) false false) (front fs (InHeader (begun true Keep) true false)) (at + 1) 43 rest (plus_sign fs (no_lines true) (at + 1) (with_returns rest))
header_goes false Clip fs role at rest v f = begun_value fs role (front fs (InHeader (no_lines false) false false)) at 124 rest (bar_begins fs role at (with_returns rest) v f)
header_goes false Strip fs role at rest v f = begun_value fs role (front fs (InHeader (no_lines false) false false)) at 124 (45 ∷ rest) (bar_begins fs role at (with_returns (45 ∷ rest)) v f)
    ∙ goes fs (InHeader (no_lines false) false false) (front fs (InHeader (begun false Strip) true false)) (at + 1) 45 rest (minus_sign fs (no_lines false) (at + 1) (with_returns rest))
header_goes false Keep fs role at rest v f = begun_value fs role (front fs (InHeader (no_lines false) false false)) at 124 (43 ∷ rest) (bar_begins fs role at (with_returns (43 ∷ rest)) v f)
    ∙ goes fs (InHeader (no_lines false) false false) (front fs (InHeader (begun false Keep) true false)) (at + 1) 43 rest (plus_sign fs (no_lines false) (at + 1) (with_returns rest))

pub header_space : (fs : List Frame) (b : BlockText) (g sp : Bool) (at : ℕ) (rest : List ℕ) → taken fs (InHeader b g sp) at 32 rest ≡ Ok (front fs (InHeader b g true))
unfolding taken in_header
header_space fs b g sp at rest = refl

header_spaces : (n : ℕ) (fs : List Frame) (b : BlockText) (g sp : Bool) (at : ℕ) (rest : List ℕ)
    → line_walk (front fs (InHeader b g sp)) at (spaces n ++ rest) ≡ line_walk (front fs (InHeader b g (spaced_by sp n))) (past at (spaces n)) rest
header_spaces zero fs b g sp at rest = refl
header_spaces (suc n) fs b g sp at rest =
    goes fs (InHeader b g sp) (front fs (InHeader b g true)) at 32 (spaces n ++ rest) (header_space fs b g sp at (with_returns (spaces n ++ rest)))
    ∙ (header_spaces n fs b g true (at + 1) rest ∙ ap (λ (v : Bool). line_walk (front fs (InHeader b g v)) (past (at + 1) (spaces n)) rest) (still n))

pub header_feed : (fs : List Frame) (b : BlockText) (g sp : Bool) (at : ℕ) (rest : List ℕ) → taken fs (InHeader b g sp) at 10 rest ≡ Ok (front fs (AtTextLine (at + 1) b))
unfolding taken in_header
header_feed fs b g sp at rest = refl

pub header_hash : (fs : List Frame) (b : BlockText) (g : Bool) (at : ℕ) (rest : List ℕ) → taken fs (InHeader b g true) at 35 rest ≡ Ok (front fs (InHeaderComment b))
unfolding taken in_header
header_hash fs b g at rest = refl

note_char : (fs : List Frame) (b : BlockText) (at c : ℕ) (rest : List ℕ) → (c == 10) ≡ false → taken fs (InHeaderComment b) at c rest ≡ Ok (front fs (InHeaderComment b))
unfolding taken in_header_comment
note_char fs b at c rest h = rw h refl

note_end : (fs : List Frame) (b : BlockText) (at : ℕ) (rest : List ℕ) → taken fs (InHeaderComment b) at 10 rest ≡ Ok (front fs (AtTextLine (at + 1) b))
unfolding taken in_header_comment
note_end fs b at rest = refl

note_goes : (cs : List ℕ) (fs : List Frame) (b : BlockText) (at : ℕ) (rest : List ℕ) → list_all is_inner cs ≡ true
    → line_walk (front fs (InHeaderComment b)) at ((cs ++ 10 ∷ []) ++ rest) ≡ line_walk (front fs (AtTextLine (past at (cs ++ 10 ∷ [])) b)) (past at (cs ++ 10 ∷ [])) rest
note_goes [] fs b at rest a = goes fs (InHeaderComment b) (front fs (AtTextLine (at + 1) b)) at 10 rest (note_end fs b at (with_returns rest))
note_goes (c ∷ cs) fs b at rest a =
    let h : (is_inner c ≡ true) × (list_all is_inner cs ≡ true) = and_parts _ _ a in
    goes fs (InHeaderComment b) (front fs (InHeaderComment b)) at c ((cs ++ 10 ∷ []) ++ rest) (note_char fs b at c (with_returns ((cs ++ 10 ∷ []) ++ rest)) (not_true _ h.0))
    ∙ note_goes cs fs b (at + len_utf8 c) rest h.1

header_ends : (e : Ending) (fs : List Frame) (b : BlockText) (g : Bool) (at : ℕ) (rest : List ℕ) → IsEnding e → IsApart e
    → line_walk (front fs (InHeader b g false)) at (spell_ending e ++ rest) ≡ line_walk (front fs (AtTextLine (past at (spell_ending e)) b)) (past at (spell_ending e)) rest
header_ends (Bare n) fs b g at rest h a =
    ap (λ zs. line_walk (front fs (InHeader b g false)) at zs) (append_assoc (spaces n) (10 ∷ []) rest)
    ∙ (header_spaces n fs b g false at (10 ∷ rest)
    ∙ (goes fs (InHeader b g (spaced_by false n)) (front fs (AtTextLine (past at (spaces n) + 1) b)) (past at (spaces n)) 10 rest (header_feed fs b g (spaced_by false n) (past at (spaces n)) (with_returns rest))
    ∙ ap (λ p. line_walk (front fs (AtTextLine p b)) p rest) (sym (past_append (spaces n) (10 ∷ []) at))))
header_ends (Noted zero text) fs b g at rest h a = absurd (omega arith)
header_ends (Noted (suc n) text) fs b g at rest h a =
    let p : ℕ = past at (spaces (suc n)) in
    let t : List ℕ = text ++ 10 ∷ [] in
    ap (λ zs. line_walk (front fs (InHeader b g false)) at zs) (append_assoc (spaces (suc n)) (35 ∷ t) rest)
    ∙ (header_spaces (suc n) fs b g false at (35 ∷ (t ++ rest))
    ∙ (goes fs (InHeader b g true) (front fs (InHeaderComment b)) p 35 (t ++ rest) (header_hash fs b g p (with_returns (t ++ rest)))
    ∙ (note_goes text fs b (p + len_utf8 35) rest h
    ∙ ap (λ q. line_walk (front fs (AtTextLine q b)) q rest) (sym (past_append (spaces (suc n)) (35 ∷ t) at)))))

-- ---- lines

-- the spaces of a line, up to a column
pub record Spaced (b : BlockText) (upto : ℕ) : Type 0 where
  pub each : (n : ℕ) → n < upto → is_indented b n ≡ false

text_space : (fs : List Frame) (b : BlockText) (s at n : ℕ) (rest : List ℕ) → at - s ≡ n → is_indented b n ≡ false → taken fs (AtTextLine s b) at 32 rest ≡ Ok (front fs (AtTextLine s b))
unfolding taken at_text_line
text_space fs b s at n rest e h = rw (e, h) refl

pub text_spaces : (n j : ℕ) (fs : List Frame) (b : BlockText) (s at : ℕ) (rest : List ℕ) → at ≡ s + j → Spaced b (j + n)
    → line_walk (front fs (AtTextLine s b)) at (spaces n ++ rest) ≡ line_walk (front fs (AtTextLine s b)) (past at (spaces n)) rest
text_spaces zero j fs b s at rest e h = refl
text_spaces (suc n) j fs b s at rest e h =
    goes fs (AtTextLine s b) (front fs (AtTextLine s b)) at 32 (spaces n ++ rest) (text_space fs b s at j (with_returns (spaces n ++ rest)) (omega arith) (h.each j (omega arith)))
    ∙ text_spaces n (j + 1) fs b s (at + 1) rest (omega arith) (record { each = λ i l. h.each i (omega arith) })

pub text_char : (fs : List Frame) (b : BlockText) (at c : ℕ) (rest : List ℕ) → (c == 10) ≡ false → taken fs (InTextLine b) at c rest ≡ Ok (front fs (InTextLine (go_on b c)))
unfolding taken in_text_line
text_char fs b at c rest h = rw h refl

pub text_end : (fs : List Frame) (b : BlockText) (at : ℕ) (rest : List ℕ) → taken fs (InTextLine b) at 10 rest ≡ Ok (front fs (AtTextLine (at + 1) b))
unfolding taken in_text_line
text_end fs b at rest = refl

text_goes : (cs : List ℕ) (fs : List Frame) (b : BlockText) (at : ℕ) (rest : List ℕ) → list_all is_inner cs ≡ true
    → line_walk (front fs (InTextLine b)) at ((cs ++ 10 ∷ []) ++ rest) ≡ line_walk (front fs (AtTextLine (past at (cs ++ 10 ∷ [])) (go_all b cs))) (past at (cs ++ 10 ∷ [])) rest
text_goes [] fs b at rest a = goes fs (InTextLine b) (front fs (AtTextLine (at + 1) b)) at 10 rest (text_end fs b at (with_returns rest))
text_goes (c ∷ cs) fs b at rest a =
    let h : (is_inner c ≡ true) × (list_all is_inner cs ≡ true) = and_parts _ _ a in
    goes fs (InTextLine b) (front fs (InTextLine (go_on b c))) at c ((cs ++ 10 ∷ []) ++ rest) (text_char fs b at c (with_returns ((cs ++ 10 ∷ []) ++ rest)) (not_true _ h.0))
    ∙ text_goes cs fs (go_on b c) (at + len_utf8 c) rest h.1

le_self : (k : ℕ) → nat_le k k ≡ true
le_self k = grind (arith, nat_tests)

le_false : (k n : ℕ) → n < k → nat_le k n ≡ false
le_false k n h = grind (arith, nat_tests)

-- the indentation is known
pub known_spaced : (b : BlockText) (k upto : ℕ) → b.indent ≡ Some k → upto ≤ k → Spaced b upto
known_spaced b k upto e l = record { each = λ n h. rw e (le_false k n (omega arith)) }

pub open_spaced : (b : BlockText) (upto : ℕ) → b.indent ≡ None → Spaced b upto
open_spaced b upto e = record { each = λ n h. rw e refl }

either : (x : Bool) (r q : Result Front Broken) (z : Front) → r ≡ q → (if x && false then Ok z else r) ≡ q
either true r q z e = e
either false r q z e = e

known_test : (o : Option ℕ) (k : ℕ) (none : Bool) → o ≡ Some k → elim o [ None ↦ none | Some i ↦ nat_le i k ] ≡ true
known_test o k none e = rw e (le_self k)

open_test : (o : Option ℕ) (k : ℕ) (none : Bool) → o ≡ None → elim o [ None ↦ none | Some i ↦ nat_le i k ] ≡ none
open_test o k none e = rw e refl

pub known_text : (o : Option ℕ) (k : ℕ) (x y : BlockText) → o ≡ Some k → elim o [ None ↦ x | Some i ↦ y ] ≡ y
known_text o k x y e = rw e refl

open_text : (o : Option ℕ) (x y : BlockText) → o ≡ None → elim o [ None ↦ x | Some i ↦ y ] ≡ x
open_text o x y e = rw e refl

abbrev ok_text : List Frame → BlockText → Result Front Broken
ok_text fs b = Ok (front fs (InTextLine b))

-- at a column a line of text begins with this character: with no end of a blank line, and with no mark at the first column
record Opens (column c : ℕ) (rest : List ℕ) : Type 0 where
  return : ends_blank_line c rest ≡ false
  mark : ((column == 0) && begins_mark c rest) ≡ false

-- a line of text
record TextFacts (indent c : ℕ) (cs : List ℕ) : Type 0 where
  first : is_inner c ≡ true
  more : list_all is_inner cs ≡ true
  mark : ((indent == 0) && is_mark true c cs) ≡ false

text_facts : (k c : ℕ) (cs : List ℕ) → is_row k c cs ≡ true → TextFacts k c cs
text_facts k c cs h =
    let a = and_parts _ _ h in
    let b = and_parts _ _ a.0 in
    record { first = b.0; more = b.1; mark = not_true _ a.1 }

opens : (k c : ℕ) (cs rest : List ℕ) → TextFacts k c cs → Opens k c (with_returns ((cs ++ 10 ∷ []) ++ rest))
opens k c cs rest f =
    let m : begins_mark c (with_returns (cs ++ 10 ∷ rest)) ≡ is_mark true c cs = mark_is c cs (10 ∷ rest) true (after_char 10 rest true refl refl refl refl) in
    let e : begins_mark c (with_returns ((cs ++ 10 ∷ []) ++ rest)) ≡ is_mark true c cs = ap (λ zs. begins_mark c (with_returns zs)) (append_assoc cs (10 ∷ []) rest) ∙ m in
    record { return = return_ahead c ((cs ++ 10 ∷ []) ++ rest); mark = ap (λ (b : Bool). (k == 0) && b) e ∙ f.mark }

line_begins : (fs : List Frame) (b : BlockText) (s at k c : ℕ) (rest : List ℕ) → at - s ≡ k → b.indent ≡ Some k → is_inner c ≡ true → Opens k c rest
    → taken fs (AtTextLine s b) at c rest ≡ Ok (front fs (InTextLine (begin_line b c)))
unfolding taken at_text_line
line_begins fs b s at k c rest a e f h =
    let n : ℕ = at - s in
    let some : ℕ → Option ℕ = λ x. Some x in
    let o : b.indent ≡ Some n = e ∙ ap some (sym a) in
    let i : is_indented b n ≡ true = known_test b.indent n false o in
    let t : is_text_line fs b n ≡ true = known_test b.indent n (is_deeper n fs) o in
    let z : ((n == 0) && begins_mark c rest) ≡ false = ap (λ (j : ℕ). (j == 0) && begins_mark c rest) a ∙ h.mark in
    let g : begin_text fs b n c ≡ ok_text fs (begin_line b c) = ap (λ (v : BlockText). ok_text fs v) (known_text b.indent n (first_line b n c) (begin_line b c) o) in
    rw (not_true _ f, h.return, i, t, z) (either (c == 32) (begin_text fs b n c) (ok_text fs (begin_line b c)) (front fs (AtTextLine s b)) g)

first_begins : (fs : List Frame) (b : BlockText) (s at k c : ℕ) (rest : List ℕ) → at - s ≡ k → b.indent ≡ None → is_inner c ≡ true → Opens k c rest → (c == 32) ≡ false → is_deeper k fs ≡ true
    → taken fs (AtTextLine s b) at c rest ≡ Ok (front fs (InTextLine (first_line b k c)))
unfolding taken at_text_line
first_begins fs b s at k c rest a e f h q d =
    let n : ℕ = at - s in
    let y : is_deeper n fs ≡ true = ap (λ (j : ℕ). is_deeper j fs) a ∙ d in
    let t : is_text_line fs b n ≡ true = open_test b.indent n (is_deeper n fs) e ∙ y in
    let z : ((n == 0) && begins_mark c rest) ≡ false = ap (λ (j : ℕ). (j == 0) && begins_mark c rest) a ∙ h.mark in
    let g : begin_text fs b n c ≡ ok_text fs (first_line b k c)
    = ap (λ (v : BlockText). ok_text fs v) (open_text b.indent (first_line b n c) (begin_line b c) e) ∙ ap (λ (j : ℕ). ok_text fs (first_line b j c)) a in
    rw (not_true _ f, h.return, q, t, z) g

blank_ends : (fs : List Frame) (b : BlockText) (s at n k : ℕ) (rest : List ℕ) → at - s ≡ n → b.indent ≡ Some k → taken fs (AtTextLine s b) at 10 rest ≡ Ok (front fs (AtTextLine (at + 1) (empty_line b)))
unfolding taken at_text_line
blank_ends fs b s at n k rest a e = rw (a, e) refl

pub go_all_indent : (cs : List ℕ) (b : BlockText) → (go_all b cs).indent ≡ b.indent
go_all_indent [] b = refl
go_all_indent (c ∷ cs) b = go_all_indent cs (go_on b c)

pub with_more_indent : (ls : List TextLine) (b : BlockText) → (with_more b ls).indent ≡ b.indent
with_more_indent [] b = refl
with_more_indent (Line c cs ∷ ls) b = with_more_indent ls (go_all (begin_line b c) cs) ∙ go_all_indent cs (begin_line b c)
with_more_indent (Blank n ∷ ls) b = with_more_indent ls (empty_line b)

-- a line of text, from its spaces to its end
text_line_goes : (fs : List Frame) (b d : BlockText) (s k c : ℕ) (cs rest : List ℕ) → Spaced b k → TextFacts k c cs
    → ((at : ℕ) (zs : List ℕ) → at - s ≡ k → Opens k c zs → taken fs (AtTextLine s b) at c zs ≡ Ok (front fs (InTextLine d)))
    → line_walk (front fs (AtTextLine s b)) s (spell_text k c cs ++ rest) ≡ line_walk (front fs (AtTextLine (past s (spell_text k c cs)) (go_all d cs))) (past s (spell_text k c cs)) rest
text_line_goes fs b d s k c cs rest q f step =
    let m : ℕ = past s (spaces k) in
    let ys : List ℕ = cs ++ 10 ∷ [] in
    ap (λ zs. line_walk (front fs (AtTextLine s b)) s zs) (append_assoc (spaces k) (c ∷ ys) rest)
    ∙ (text_spaces k 0 fs b s s (c ∷ (ys ++ rest)) (omega arith) (record { each = λ i l. q.each i (omega arith) })
    ∙ (goes fs (AtTextLine s b) (front fs (InTextLine d)) m c (ys ++ rest) (step m (with_returns (ys ++ rest)) (column_is k s) (opens k c cs rest f))
    ∙ (text_goes cs fs d (m + len_utf8 c) rest f.more
    ∙ ap (λ p. line_walk (front fs (AtTextLine p (go_all d cs))) p rest) (sym (past_append (spaces k) (c ∷ ys) s)))))

more_go : (ls : List TextLine) (fs : List Frame) (b : BlockText) (s k : ℕ) (rest : List ℕ) → b.indent ≡ Some k → AreMore k ls
    → line_walk (front fs (AtTextLine s b)) s (spell_more k ls ++ rest) ≡ line_walk (front fs (AtTextLine (past s (spell_more k ls)) (with_more b ls))) (past s (spell_more k ls)) rest
more_go [] fs b s k rest e a = refl
more_go (Line c cs ∷ ls) fs b s k rest e a =
    let f : TextFacts k c cs = text_facts k c cs a.0 in
    let d : BlockText = go_all (begin_line b c) cs in
    let m : ℕ = past s (spell_text k c cs) in
    ap (λ zs. line_walk (front fs (AtTextLine s b)) s zs) (append_assoc (spell_text k c cs) (spell_more k ls) rest)
    ∙ (text_line_goes fs b (begin_line b c) s k c cs (spell_more k ls ++ rest) (known_spaced b k k e (omega arith)) f (λ at zs q u. line_begins fs b s at k c zs q e f.first u)
    ∙ (more_go ls fs d m k rest (go_all_indent cs (begin_line b c) ∙ e) a.1
    ∙ ap (λ p. line_walk (front fs (AtTextLine p (with_more d ls))) p rest) (sym (past_append (spell_text k c cs) (spell_more k ls) s))))
more_go (Blank n ∷ ls) fs b s k rest e a =
    let ys : List ℕ = spaces n ++ 10 ∷ [] in
    let p : ℕ = past s (spaces n) in
    let step : line_walk (front fs (AtTextLine s b)) s (ys ++ (spell_more k ls ++ rest)) ≡ line_walk (front fs (AtTextLine (past s ys) (empty_line b))) (past s ys) (spell_more k ls ++ rest)
    = ap (λ zs. line_walk (front fs (AtTextLine s b)) s zs) (append_assoc (spaces n) (10 ∷ []) (spell_more k ls ++ rest))
    ∙ (text_spaces n 0 fs b s s (10 ∷ (spell_more k ls ++ rest)) (omega arith) (known_spaced b k (0 + n) e (omega arith))
    ∙ (goes fs (AtTextLine s b) (front fs (AtTextLine (p + 1) (empty_line b))) p 10 (spell_more k ls ++ rest) (blank_ends fs b s p n k (with_returns (spell_more k ls ++ rest)) (column_is n s) e)
    ∙ ap (λ q. line_walk (front fs (AtTextLine q (empty_line b))) q (spell_more k ls ++ rest)) (sym (past_append (spaces n) (10 ∷ []) s)))) in
    ap (λ zs. line_walk (front fs (AtTextLine s b)) s zs) (append_assoc ys (spell_more k ls) rest)
    ∙ (step
    ∙ (more_go ls fs (empty_line b) (past s ys) k rest e a.1
    ∙ ap (λ q. line_walk (front fs (AtTextLine q (with_more (empty_line b) ls))) q rest) (sym (past_append ys (spell_more k ls) s))))

-- ---- blank lines before the text

abbrev pub waiting : Bool → Chomp → List ℕ → BlockText
waiting folded chomp xs = record (no_lines folded) { chomp = chomp; leading = xs }

leading_feed : (folded : Bool) (chomp : Chomp) (xs : List ℕ) (fs : List Frame) (s at n : ℕ) (rest : List ℕ) → at - s ≡ n
    → taken fs (AtTextLine s (waiting folded chomp xs)) at 10 rest ≡ Ok (front fs (AtTextLine (at + 1) (waiting folded chomp (xs ++ n ∷ []))))
unfolding taken at_text_line
leading_feed folded chomp xs fs s at n rest a = rw a refl

leading_go : (ns : List ℕ) (folded : Bool) (chomp : Chomp) (xs : List ℕ) (fs : List Frame) (s : ℕ) (rest : List ℕ)
    → line_walk (front fs (AtTextLine s (waiting folded chomp xs))) s (spell_blanks ns ++ rest)
    ≡ line_walk (front fs (AtTextLine (past s (spell_blanks ns)) (waiting folded chomp (xs ++ ns)))) (past s (spell_blanks ns)) rest
leading_go [] folded chomp xs fs s rest = ap (λ zs. line_walk (front fs (AtTextLine s (waiting folded chomp zs))) s rest) (sym (append-nil xs))
leading_go (n ∷ ns) folded chomp xs fs s rest =
    let ys : List ℕ = spaces n ++ 10 ∷ [] in
    let bs : List ℕ = spell_blanks ns in
    let b : BlockText = waiting folded chomp xs in
    let d : BlockText = waiting folded chomp (xs ++ n ∷ []) in
    let m : ℕ = past s (spaces n) in
    ap (λ zs. line_walk (front fs (AtTextLine s b)) s zs) (append_assoc ys bs rest ∙ append_assoc (spaces n) (10 ∷ []) (bs ++ rest))
    ∙ (text_spaces n 0 fs b s s (10 ∷ (bs ++ rest)) (omega arith) (open_spaced b (0 + n) refl)
    ∙ (goes fs (AtTextLine s b) (front fs (AtTextLine (m + 1) d)) m 10 (bs ++ rest) (leading_feed folded chomp xs fs s m n (with_returns (bs ++ rest)) (column_is n s))
    ∙ (ap (λ p. line_walk (front fs (AtTextLine p d)) p (bs ++ rest)) (sym (past_append (spaces n) (10 ∷ []) s))
    ∙ (leading_go ns folded chomp (xs ++ n ∷ []) fs (past s ys) rest
    ∙ (ap (λ zs. line_walk (front fs (AtTextLine (past (past s ys) bs) (waiting folded chomp zs))) (past (past s ys) bs) rest) (append_assoc xs (n ∷ []) ns)
    ∙ ap (λ p. line_walk (front fs (AtTextLine p (waiting folded chomp (xs ++ n ∷ ns)))) p rest) (sym (past_append ys bs s)))))))

-- ---- the whole

pub more_indent : (n : ℕ) (b : BlockText) → (more_spaces b n).indent ≡ b.indent
more_indent zero b = refl
more_indent (suc n) b = more_indent n (go_on b 32)

blank_indent : (n : ℕ) (b : BlockText) → (blank_text b n).indent ≡ b.indent
blank_indent zero b = refl
blank_indent (suc n) b = more_indent n (begin_line b 32)

pub lead_indent : (ns : List ℕ) (k : ℕ) (b : BlockText) → (lead_in b k ns).indent ≡ b.indent
lead_indent [] k b = refl
lead_indent (n ∷ ns) k b = lead_indent ns k (blank_text b (n - k)) ∙ blank_indent (n - k) b

pub first_indent : (b : BlockText) (k c : ℕ) → (first_line b k c).indent ≡ Some k
unfolding first_line
first_indent b k c = lead_indent b.leading k (record b { indent = Some k; leading = [] })

rows_go : (o : Option Rows) (fs : List Frame) (least : ℕ) (b : BlockText) (s : ℕ) (rest : List ℕ) → b.indent ≡ None → ((k : ℕ) → least ≤ k → is_deeper k fs ≡ true) → AreRows least o
    → line_walk (front fs (AtTextLine s b)) s (spell_rows o ++ rest) ≡ line_walk (front fs (AtTextLine (past s (spell_rows o)) (with_rows b o))) (past s (spell_rows o)) rest
rows_go None fs least b s rest e d a = refl
rows_go (Some r) fs least b s rest e d a =
    let k : ℕ = r.indent in
    let ts : List ℕ = spell_text k r.first r.text in
    let ms : List ℕ = spell_more k r.more in
    let p : ℕ = past s ts in
    let c : TextFacts k r.first r.text = text_facts k r.first r.text a.2 in
    let x : BlockText = first_line b k r.first in
    let y : BlockText = go_all x r.text in
    ap (λ zs. line_walk (front fs (AtTextLine s b)) s zs) (append_assoc ts ms rest)
    ∙ (text_line_goes fs b x s k r.first r.text (ms ++ rest) (open_spaced b k e) c (λ q zs g u. first_begins fs b s q k r.first zs g e c.first u a.1 (d k a.0))
    ∙ (more_go r.more fs y p k rest (go_all_indent r.text x ∙ first_indent b k r.first) a.3
    ∙ ap (λ q. line_walk (front fs (AtTextLine q (with_rows b (Some r)))) q rest) (sym (past_append ts ms s))))

-- a block scalar, from its indicator on
pub lines_go : (l : Lines) (fs : List Frame) (least : ℕ) (role : Role) (at : ℕ) (rest : List ℕ) → is_key_only role ≡ false → is_flow fs ≡ false → ((k : ℕ) → least ≤ k → is_deeper k fs ≡ true) → AreLines least l
    → begin_run fs role at (spell_lines l ++ rest) ≡ line_walk (front fs (AtTextLine (past at (spell_lines l)) (text_of l))) (past at (spell_lines l)) rest
lines_go l fs least role at rest v f d a =
    let b : BlockText = begun l.folded l.chomp in
    let x : BlockText = waiting l.folded l.chomp l.leading in
    let hs : List ℕ = spell_header l.folded l.chomp in
    let es : List ℕ = spell_ending l.ending in
    let bs : List ℕ = spell_blanks l.leading in
    let rs : List ℕ = spell_rows l.rows in
    let p1 : ℕ = past at hs in
    let p2 : ℕ = past p1 es in
    let p3 : ℕ = past p2 bs in
    ap (λ zs. begin_run fs role at zs) (append_assoc hs (es ++ (bs ++ rs)) rest)
    ∙ (header_goes l.folded l.chomp fs role at ((es ++ (bs ++ rs)) ++ rest) v f
    ∙ (ap (λ zs. line_walk (front fs (InHeader b (has_sign l.chomp) false)) p1 zs) (append_assoc es (bs ++ rs) rest)
    ∙ (header_ends l.ending fs b (has_sign l.chomp) p1 ((bs ++ rs) ++ rest) a.0 a.1
    ∙ (ap (λ zs. line_walk (front fs (AtTextLine p2 b)) p2 zs) (append_assoc bs rs rest)
    ∙ (leading_go l.leading l.folded l.chomp [] fs p2 (rs ++ rest)
    ∙ (rows_go l.rows fs least x p3 rest refl d a.2
    ∙ ap (λ q. line_walk (front fs (AtTextLine q (text_of l))) q rest) (sym (past_append hs (es ++ (bs ++ rs)) at ∙ (past_append es (bs ++ rs) p1 ∙ past_append bs rs p2)))))))))

-- ---- a comment that ends it

note_hash : (fs : List Frame) (b : BlockText) (s at n : ℕ) (rest : List ℕ) → at - s ≡ n → is_text_line fs b n ≡ false → taken fs (AtTextLine s b) at 35 rest ≡ Ok (front fs (InComment (Whole (a_text (block_text b)))))
unfolding taken at_text_line in_line
note_hash fs b s at n rest e h = rw (e, h) refl

pub note_reads : (n : ℕ) (text : List ℕ) (fs : List Frame) (b : BlockText) (s : ℕ) → Spaced b n → is_text_line fs b n ≡ false → list_all is_inner text ≡ true → Reads (front fs (AtTextLine s b)) s (spell_ending (Noted n text)) fs (a_text (block_text b))
note_reads n text fs b s q h a =
    let w : Waiting = Whole (a_text (block_text b)) in
    let m : ℕ = past s (spaces n) in
    let k : List ℕ = text ++ 10 ∷ [] in
    record {
      wait = w;
      is = refl;
      run = λ rest. ap (λ zs. line_walk (front fs (AtTextLine s b)) s zs) (append_assoc (spaces n) (35 ∷ k) rest)
          ∙ (text_spaces n 0 fs b s s (35 ∷ (k ++ rest)) (omega arith) (record { each = λ i l. q.each i (omega arith) })
          ∙ (goes fs (AtTextLine s b) (front fs (InComment w)) m 35 (k ++ rest) (note_hash fs b s m n (with_returns (k ++ rest)) (column_is n s) h)
          ∙ (comment_goes text fs w (m + len_utf8 35) rest a ∙ ap (λ p. line_walk (front fs (AtLine p w)) p rest) (sym (past_append (spaces n) (35 ∷ k) s)))));
    }

-- ---- what stands at the start of a line: a value that may go on, or a block scalar

pub data Stand : Type 0 where
  OfLine : Waiting → Stand
  OfText : BlockText → Stand

abbrev pub stands : Stand → ℕ → Innermost
stands (OfLine w) s = AtLine s w
stands (OfText b) s = AtTextLine s b

abbrev pub stand_wait : Stand → Waiting
stand_wait (OfLine w) = w
stand_wait (OfText b) = Whole (a_text (block_text b))

-- what begins before this column is no line of a block scalar
abbrev pub Passes : ℕ → Stand → Type 0
Passes n (OfLine w) = Unit {0}
Passes n (OfText b) = (b.indent ≡ None) ⊎ ((k : ℕ) × (b.indent ≡ Some k) × (n ≤ k))

pub passes_lower : (st : Stand) (n m : ℕ) → m ≤ n → Passes n st → Passes m st
passes_lower (OfLine w) n m l h = tt
passes_lower (OfText b) n m l (inl e) = inl e
passes_lower (OfText b) n m l (inr (k, e, h)) = inr (k, e, omega arith)

pub stand_spaces : (st : Stand) (n : ℕ) (fs : List Frame) (s : ℕ) (rest : List ℕ) → Passes (suc n) st
    → line_walk (front fs (stands st s)) s (spaces n ++ rest) ≡ line_walk (front fs (stands st s)) (past s (spaces n)) rest
stand_spaces (OfLine w) n fs s rest h = spaces_line n fs s w s rest
stand_spaces (OfText b) n fs s rest (inl e) = text_spaces n 0 fs b s s rest (omega arith) (open_spaced b (0 + n) e)
stand_spaces (OfText b) n fs s rest (inr (k, e, h)) = text_spaces n 0 fs b s s rest (omega arith) (known_spaced b k (0 + n) e (omega arith))

text_passed : (o : Option ℕ) (k n : ℕ) (none : Bool) → o ≡ Some k → n < k → elim o [ None ↦ none | Some i ↦ nat_le i n ] ≡ false
text_passed o k n none e h = rw e (le_false k n h)

-- what begins at a column is no line of the text: it isn't deeper than the block around it, or less than the indentation
pub text_over : (fs : List Frame) (b : BlockText) (n : ℕ) → ((b.indent ≡ None) × (is_deeper n fs ≡ false)) ⊎ ((k : ℕ) × (b.indent ≡ Some k) × (n < k)) → is_text_line fs b n ≡ false
text_over fs b n (inl (e, d)) = open_test b.indent n (is_deeper n fs) e ∙ d
text_over fs b n (inr (k, e, l)) = text_passed b.indent k n (is_deeper n fs) e l

passed_over : (fs : List Frame) (b : BlockText) (n : ℕ) → Passes (suc n) (OfText b) → is_deeper n fs ≡ false → is_text_line fs b n ≡ false
passed_over fs b n (inl e) d = text_over fs b n (inl (e, d))
passed_over fs b n (inr (k, e, h)) d = text_over fs b n (inr (k, e, let l : n < k = omega arith in l))

pub stand_content : (st : Stand) (fs : List Frame) (s at n c : ℕ) (rest : List ℕ) → at - s ≡ n → Passes (suc n) st → is_flow fs ≡ false → is_deeper n fs ≡ false → Content n c rest
    → taken fs (stands st s) at c rest ≡ block_line fs (stand_wait st) s at c rest
unfolding taken at_text_line
stand_content (OfLine w) fs s at n c rest e p f d h = content_line fs w s at n c rest e f h
stand_content (OfText b) fs s at n c rest e p f d h =
    let t : is_text_line fs b (at - s) ≡ false = ap (λ (m : ℕ). is_text_line fs b m) e ∙ passed_over fs b n p d in
    rw (h.feed, h.return, h.space, t) (content_line fs (Whole (a_text (block_text b))) s at n c rest e f h)

pub stand_ends : (st : Stand) (fs : List Frame) (s : ℕ) → ends fs (stands st s) s ≡ outside_flow fs (value_so_far (stand_wait st)) s
unfolding ends
stand_ends (OfLine w) fs s = refl
stand_ends (OfText b) fs s = let z : ((s - s) == 0) ≡ true = grind (arith, nat_tests) in rw z refl
