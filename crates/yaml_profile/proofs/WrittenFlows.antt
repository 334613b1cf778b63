-- How flow lists of written files are read.
use Rattle.std.proofs.Common.{◌≡◌, ℕ, zero, suc, ◌+◌, ◌-◌, ◌<◌, ◌≤◌, Bool, true, false, ◌==◌, List, [], ◌∷◌, ◌++◌, length, Option, Some, None, Result, Ok, refl, sym, ap, subst, ◌∙◌, arith, append_assoc, inl, inr}
use Rattle.std.specs.Char.{len_utf8}
use Rattle.std.proofs.lemmas.Bool.{cases_Bool}
use Rattle.edt_base.specs.YamlData.{Value, a_text, a_list, items_from}
use Rattle.yaml_profile.specs.declared.stop.Broken.{Broken}
use Rattle.yaml_profile.specs.declared.front.Role.{Role}
use Rattle.yaml_profile.specs.declared.front.Role.TheVariants.{Value as ValueOnly}
use Rattle.yaml_profile.specs.Scalars.{scalar_of}
use Rattle.yaml_profile.specs.Folding.{Folding, nothing_yet}
use Rattle.yaml_profile.specs.Fronts.{Frame, InFlow, Waiting, Fresh, Nothing as NothingYet, Going, Whole, Innermost, AtLine, AtValue, InPlain, AfterQuoted, AfterValue, InComment, Front, front, value_so_far, is_flow, is_deeper}
use Rattle.yaml_profile.specs.Pieces.{in_at_value, in_plain, in_after_quoted, in_after_value, after_item, end_flow, open_flow, begin_value, begin_sign, is_key_only}
use Rattle.yaml_profile.specs.Layout.{in_line, line_content, flow_line}
use Rattle.yaml_profile.specs.Reading.{taken}
use Rattle.yaml_profile.specs.Written.{spaces, Ending, Bare, Noted, spell_ending, spell_gaps, IsEnding, IsApart, AreGaps, with_chars, spell_furthers, line_ends, Plain, Double, Single, spell_plain, spell_scalar, spell_singles, Pad, Inline, Over, spell_pad, IsPad, place_behind, ends_before, Flow, Text, Empty, Listed, Trailed, Elements, One, Another, spell_flow, spell_elements, flow_value, element_values, IsFlow, AreElements, spell_inners, double_text, is_line_end, single_text, is_feed}
use Rattle.yaml_profile.proofs.WrittenTexts.{goes, spaces_line, spaces_quoted, spaced_by, still, comment_goes, spaces_plain, spaces_text, After, after_char, after_spaces, after_ending}
use Rattle.yaml_profile.proofs.ReadSteps.{line_walk, past, past_append, with_returns}
use Rattle.yaml_profile.proofs.WrittenQuotes.{role_then, value_then}
use Rattle.yaml_profile.proofs.WrittenLines.{Reads, begin_run, begun, double_goes, singled_goes, Begun, begun_behind, plain_ends, quoted_ends, value_spaces}
use Rattle.yaml_profile.proofs.WrittenKeys.{not_full, Starts, Started, sign_starts, plain_starts, started_by, value_taken, is_pending}
use Rattle.yaml_profile.proofs.WrittenBlocks.{Kept, gaps_wait, Down, down}
use Rattle.yaml_profile.proofs.WrittenParagraphs.{Plained, plain_goes, lines_after}

-- after these characters stands an item of a flow list
pub record Ends (from : List ℕ → Result Front Broken) (at : ℕ) (xs : List ℕ) (vs : List Value) (fs : List Frame) (v : Value) : Type 0 where
  pub comma : (rest : List ℕ) → from (xs ++ 44 ∷ rest) ≡ line_walk (front (InFlow (vs ++ v ∷ []) ∷ fs) (AtValue 0 false false)) (past at xs + 1) rest
  pub bracket : (rest : List ℕ) → from (xs ++ 93 ∷ rest) ≡ line_walk (front fs (AfterValue (Whole (a_list (items_from (vs ++ v ∷ [])))) false)) (past at xs + 1) rest

-- this front takes the comma and the bracket after the item
pub record Ready (i : Innermost) (at : ℕ) (vs : List Value) (fs : List Frame) (v : Value) : Type 0 where
  pub comma : (rest : List ℕ) → taken (InFlow vs ∷ fs) i at 44 rest ≡ Ok (front (InFlow (vs ++ v ∷ []) ∷ fs) (AtValue 0 false false))
  pub bracket : (rest : List ℕ) → taken (InFlow vs ∷ fs) i at 93 rest ≡ Ok (front fs (AfterValue (Whole (a_list (items_from (vs ++ v ∷ [])))) false))

ends_ready : (f : Front) (i : Innermost) (at : ℕ) (xs : List ℕ) (vs : List Value) (fs : List Frame) (v : Value)
    → ((rest : List ℕ) → line_walk f at (xs ++ rest) ≡ line_walk (front (InFlow vs ∷ fs) i) (past at xs) rest) → Ready i (past at xs) vs fs v → Ends (line_walk f at) at xs vs fs v
ends_ready f i at xs vs fs v run r = record {
  comma = λ rest. run (44 ∷ rest) ∙ goes (InFlow vs ∷ fs) i (front (InFlow (vs ++ v ∷ []) ∷ fs) (AtValue 0 false false)) (past at xs) 44 rest (r.comma (with_returns rest));
  bracket = λ rest. run (93 ∷ rest) ∙ goes (InFlow vs ∷ fs) i (front fs (AfterValue (Whole (a_list (items_from (vs ++ v ∷ [])))) false)) (past at xs) 93 rest (r.bracket (with_returns rest));
}

plain_ready : (vs : List Value) (fs : List Frame) (t : Folding) (r : Role) (begun : ℕ) (sp : Bool) (at : ℕ) → Ready (InPlain t r begun sp) at vs fs (scalar_of t.text)
unfolding taken in_plain after_item
plain_ready vs fs t r begun sp at = record { comma = λ rest. refl; bracket = λ rest. refl }

quoted_ready : (vs : List Value) (fs : List Frame) (x : List ℕ) (r : Role) (begun : ℕ) (sp : Bool) (at : ℕ) → is_key_only r ≡ false → Ready (AfterQuoted x r begun sp) at vs fs (a_text x)
unfolding taken in_after_quoted in_after_value after_item
quoted_ready vs fs x r begun sp at k = record { comma = λ rest. rw k refl; bracket = λ rest. rw k refl }

value_ready : (vs : List Value) (fs : List Frame) (v : Value) (sp : Bool) (at : ℕ) → Ready (AfterValue (Whole v) sp) at vs fs v
unfolding taken in_after_value after_item
value_ready vs fs v sp at = record { comma = λ rest. refl; bracket = λ rest. refl }

line_ready : (vs : List Value) (fs : List Frame) (w : Waiting) (s at : ℕ) → is_pending w ≡ false → Ready (AtLine s w) at vs fs (value_so_far w)
unfolding taken in_line line_content flow_line in_plain after_item
line_ready vs fs Fresh s at h = cc
line_ready vs fs NothingYet s at h = cc
line_ready vs fs (Going t) s at h = elim (cases_Bool (is_deeper (at - s) fs)) [
  | inl d ↦ record { comma = λ rest. rw d refl; bracket = λ rest. rw d refl }
  | inr d ↦ record { comma = λ rest. rw d refl; bracket = λ rest. rw d refl }
]
line_ready vs fs (Whole v) s at h = record { comma = λ rest. refl; bracket = λ rest. refl }

space_after : (fs : List Frame) (w : Waiting) (sp : Bool) (at : ℕ) (rest : List ℕ) → taken fs (AfterValue w sp) at 32 rest ≡ Ok (front fs (AfterValue w true))
unfolding taken in_after_value
space_after fs w sp at rest = refl

pub spaces_after : (n : ℕ) (fs : List Frame) (w : Waiting) (sp : Bool) (at : ℕ) (rest : List ℕ)
    → line_walk (front fs (AfterValue w sp)) at (spaces n ++ rest) ≡ line_walk (front fs (AfterValue w (spaced_by sp n))) (past at (spaces n)) rest
spaces_after zero fs w sp at rest = refl
spaces_after (suc n) fs w sp at rest =
    goes fs (AfterValue w sp) (front fs (AfterValue w true)) at 32 (spaces n ++ rest) (space_after fs w sp at (with_returns (spaces n ++ rest)))
    ∙ (spaces_after n fs w true (at + 1) rest ∙ ap (λ (v : Bool). line_walk (front fs (AfterValue w v)) (past (at + 1) (spaces n)) rest) (still n))

after_feed : (fs : List Frame) (w : Waiting) (sp : Bool) (at : ℕ) (rest : List ℕ) → taken fs (AfterValue w sp) at 10 rest ≡ Ok (front fs (AtLine (at + 1) w))
unfolding taken in_after_value
after_feed fs w sp at rest = refl

after_hash : (fs : List Frame) (w : Waiting) (at : ℕ) (rest : List ℕ) → taken fs (AfterValue w true) at 35 rest ≡ Ok (front fs (InComment w))
unfolding taken in_after_value
after_hash fs w at rest = refl

pub after_ends : (e : Ending) (fs : List Frame) (w : Waiting) (at : ℕ) (rest : List ℕ) → IsEnding e → IsApart e
    → line_walk (front fs (AfterValue w false)) at (spell_ending e ++ rest) ≡ line_walk (front fs (AtLine (past at (spell_ending e)) w)) (past at (spell_ending e)) rest
after_ends (Bare n) fs w at rest h a =
    ap (λ zs. line_walk (front fs (AfterValue w false)) at zs) (append_assoc (spaces n) (10 ∷ []) rest)
    ∙ (spaces_after n fs w false at (10 ∷ rest)
    ∙ (goes fs (AfterValue w (spaced_by false n)) (front fs (AtLine (past at (spaces n) + 1) w)) (past at (spaces n)) 10 rest (after_feed fs w (spaced_by false n) (past at (spaces n)) (with_returns rest))
    ∙ ap (λ p. line_walk (front fs (AtLine p w)) p rest) (sym (past_append (spaces n) (10 ∷ []) at))))
after_ends (Noted zero text) fs w at rest h a = absurd (omega arith)
after_ends (Noted (suc n) text) fs w at rest h a =
    let p : ℕ = past at (spaces (suc n)) in
    let t : List ℕ = text ++ 10 ∷ [] in
    ap (λ zs. line_walk (front fs (AfterValue w false)) at zs) (append_assoc (spaces (suc n)) (35 ∷ t) rest)
    ∙ (spaces_after (suc n) fs w false at (35 ∷ (t ++ rest))
    ∙ (goes fs (AfterValue w true) (front fs (InComment w)) p 35 (t ++ rest) (after_hash fs w p (with_returns (t ++ rest)))
    ∙ (comment_goes text fs w (p + len_utf8 35) rest h
    ∙ ap (λ q. line_walk (front fs (AtLine q w)) q rest) (sym (past_append (spaces (suc n)) (35 ∷ t) at)))))

value_line : (e : Ending) (fs : List Frame) (v : Value) (at : ℕ) → IsEnding e → IsApart e → Reads (front fs (AfterValue (Whole v) false)) at (spell_ending e) fs v
value_line e fs v at h a = record { wait = Whole v; is = refl; run = λ rest. after_ends e fs (Whole v) at rest h a }

comma_after : (rest : List ℕ) → After false (44 ∷ rest)
comma_after rest = after_char 44 rest false refl refl refl refl

bracket_after : (rest : List ℕ) → After false (93 ∷ rest)
bracket_after rest = after_char 93 rest false refl refl refl refl

pad_after : (q : Pad) (rest : List ℕ) → IsPad q → After false rest → After (ends_before q) (spell_pad q ++ rest)
pad_after (Inline zero) rest h a = a
pad_after (Inline (suc n)) rest h a = after_spaces n rest
pad_after (Over e gaps n) rest h a =
    let ys : List ℕ = spell_gaps gaps ++ spaces n in
    subst (λ zs. After true zs) (sym (append_assoc (spell_ending e) ys rest)) (after_ending e (ys ++ rest) h.1)

-- an item, before what ends it
ends_behind : (from : List ℕ → Result Front Broken) (g : Front) (at : ℕ) (xs : List ℕ) (q : Pad) (vs : List Value) (fs : List Frame) (v : Value) → IsPad q
    → ((rest : List ℕ) → After (ends_before q) rest → from (xs ++ rest) ≡ line_walk g (past at xs) rest) → Ends (line_walk g (past at xs)) (past at xs) (spell_pad q) vs fs v → Ends from at (xs ++ spell_pad q) vs fs v
ends_behind from g at xs q vs fs v h step e =
    let ys : List ℕ = spell_pad q in
    record {
      comma = λ rest. ap from (append_assoc xs ys (44 ∷ rest)) ∙ (step (ys ++ 44 ∷ rest) (pad_after q (44 ∷ rest) h (comma_after rest)) ∙ (e.comma rest
          ∙ ap (λ m. line_walk (front (InFlow (vs ++ v ∷ []) ∷ fs) (AtValue 0 false false)) (m + 1) rest) (sym (past_append xs ys at))));
      bracket = λ rest. ap from (append_assoc xs ys (93 ∷ rest)) ∙ (step (ys ++ 93 ∷ rest) (pad_after q (93 ∷ rest) h (bracket_after rest)) ∙ (e.bracket rest
          ∙ ap (λ m. line_walk (front fs (AfterValue (Whole (a_list (items_from (vs ++ v ∷ [])))) false)) (m + 1) rest) (sym (past_append xs ys at))));
    }

-- an item ended by the end of its line
over_ends : (f : Front) (e : Ending) (gaps : List Ending) (n at : ℕ) (vs : List Value) (fs : List Frame) (v : Value) → (r : Reads f at (spell_ending e) (InFlow vs ∷ fs) v) → is_pending r.wait ≡ false → AreGaps gaps
    → Ends (line_walk f at) at (spell_pad (Over e gaps n)) vs fs v
over_ends f e gaps n at vs fs v r done g =
    let gs : List Frame = InFlow vs ∷ fs in
    let xs : List ℕ = spell_ending e in
    let ys : List ℕ = spell_gaps gaps in
    let zs : List ℕ = spaces n in
    let p : ℕ = past at xs in
    let q : ℕ = past p ys in
    let k : Kept r.wait gaps gs p p = gaps_wait gaps gs p r.wait p refl g in
    let i : Innermost = AtLine q k.wait in
    let P : Value → Type 0 = λ u. Ready i (past at (xs ++ (ys ++ zs))) vs fs u in
    ends_ready f i at (xs ++ (ys ++ zs)) vs fs v
    (λ rest. ap (λ us. line_walk f at us) (append_assoc xs (ys ++ zs) rest)
    ∙ (r.run ((ys ++ zs) ++ rest)
    ∙ (ap (λ us. line_walk (front gs (AtLine p r.wait)) p us) (append_assoc ys zs rest)
    ∙ (k.run (zs ++ rest)
    ∙ (spaces_line n gs q k.wait q rest ∙ ap (λ m. line_walk (front gs i) m rest) (sym (past_append xs (ys ++ zs) at ∙ past_append ys zs p)))))))
    (subst P (k.value ∙ r.is) (line_ready vs fs k.wait q (past at (xs ++ (ys ++ zs))) (k.pending ∙ done)))

plain_done : (e : Ending) (fs : List Frame) (t : Folding) (r : Role) (begun : ℕ) (sp : Bool) (at : ℕ) (k : is_key_only r ≡ false) (h : IsEnding e) (a : IsApart e) → is_pending (plain_ends e fs t r begun sp at k h a).wait ≡ false
unfolding plain_ends
plain_done (Bare n) fs t r begun sp at k h a = refl
plain_done (Noted zero text) fs t r begun sp at k h a = absurd (omega arith)
plain_done (Noted (suc n) text) fs t r begun sp at k h a = refl

quoted_done : (e : Ending) (fs : List Frame) (x : List ℕ) (r : Role) (begun at : ℕ) (k : is_key_only r ≡ false) (h : IsEnding e) (a : IsApart e) → is_pending (quoted_ends e fs x r begun at k h a).wait ≡ false
unfolding quoted_ends
quoted_done (Bare n) fs x r begun at k h a = refl
quoted_done (Noted zero text) fs x r begun at k h a = absurd (omega arith)
quoted_done (Noted (suc n) text) fs x r begun at k h a = refl

plain_pad : (q : Pad) (vs : List Value) (fs : List Frame) (t : Folding) (r : Role) (begun : ℕ) (sp : Bool) (at : ℕ) → is_key_only r ≡ false → IsPad q → Ends (line_walk (front (InFlow vs ∷ fs) (InPlain t r begun sp)) at) at (spell_pad q) vs fs (scalar_of t.text)
plain_pad (Inline n) vs fs t r begun sp at k h =
    let gs : List Frame = InFlow vs ∷ fs in
    let u : Folding = with_chars t (spaces n) in
    let i : Innermost = InPlain u r begun (spaced_by sp n) in
    let P : List ℕ → Type 0 = λ x. Ready i (past at (spaces n)) vs fs (scalar_of x) in
    ends_ready (front gs (InPlain t r begun sp)) i at (spaces n) vs fs (scalar_of t.text) (λ rest. spaces_plain n gs t r begun sp at rest)
    (subst P (spaces_text n t) (plain_ready vs fs u r begun (spaced_by sp n) (past at (spaces n))))
plain_pad (Over e gaps n) vs fs t r begun sp at k h =
    let gs : List Frame = InFlow vs ∷ fs in
    over_ends (front gs (InPlain t r begun sp)) e gaps n at vs fs (scalar_of t.text) (plain_ends e gs t r begun sp at k h.0 h.1) (plain_done e gs t r begun sp at k h.0 h.1) h.2

quoted_pad : (q : Pad) (vs : List Value) (fs : List Frame) (x : List ℕ) (r : Role) (begun at : ℕ) → is_key_only r ≡ false → IsPad q → Ends (line_walk (front (InFlow vs ∷ fs) (AfterQuoted x r begun false)) at) at (spell_pad q) vs fs (a_text x)
quoted_pad (Inline n) vs fs x r begun at k h =
    let gs : List Frame = InFlow vs ∷ fs in
    let i : Innermost = AfterQuoted x r begun (spaced_by false n) in
    ends_ready (front gs (AfterQuoted x r begun false)) i at (spaces n) vs fs (a_text x) (λ rest. spaces_quoted n gs x r begun false at rest) (quoted_ready vs fs x r begun (spaced_by false n) (past at (spaces n)) k)
quoted_pad (Over e gaps n) vs fs x r begun at k h =
    let gs : List Frame = InFlow vs ∷ fs in
    over_ends (front gs (AfterQuoted x r begun false)) e gaps n at vs fs (a_text x) (quoted_ends e gs x r begun at k h.0 h.1) (quoted_done e gs x r begun at k h.0 h.1) h.2

value_pad : (q : Pad) (vs : List Value) (fs : List Frame) (v : Value) (at : ℕ) → IsPad q → Ends (line_walk (front (InFlow vs ∷ fs) (AfterValue (Whole v) false)) at) at (spell_pad q) vs fs v
unfolding value_line
value_pad (Inline n) vs fs v at h =
    let gs : List Frame = InFlow vs ∷ fs in
    let i : Innermost = AfterValue (Whole v) (spaced_by false n) in
    ends_ready (front gs (AfterValue (Whole v) false)) i at (spaces n) vs fs v (λ rest. spaces_after n gs (Whole v) false at rest) (value_ready vs fs v (spaced_by false n) (past at (spaces n)))
value_pad (Over e gaps n) vs fs v at h =
    let gs : List Frame = InFlow vs ∷ fs in
    over_ends (front gs (AfterValue (Whole v) false)) e gaps n at vs fs v (value_line e gs v at h.0 h.1) refl h.2

-- ---- lists

bracket_opens : (fs : List Frame) (role : Role) (at level : ℕ) (rest : List ℕ) → is_key_only role ≡ false → length fs ≡ level → level < 32
    → begin_value fs role at 91 rest ≡ Ok (front (InFlow [] ∷ fs) (AtValue 0 false false))
unfolding begin_value begin_sign open_flow
bracket_opens fs role at level rest k e h = rw (k, not_full fs level e h) refl

-- before an item or the closing bracket
record Padded (p : Pad) (vs : List Value) (fs : List Frame) (at : ℕ) : Type 0 where
  inner : Innermost
  begins : (c : ℕ) (rest : List ℕ) → Starts (place_behind p) true c rest → taken (InFlow vs ∷ fs) inner (past at (spell_pad p)) c rest ≡ begin_value (InFlow vs ∷ fs) ValueOnly (past at (spell_pad p)) c rest
  closes : (rest : List ℕ) → taken (InFlow vs ∷ fs) inner (past at (spell_pad p)) 93 rest ≡ Ok (front fs (AfterValue (Whole (a_list (items_from vs))) false))
  run : (rest : List ℕ) → line_walk (front (InFlow vs ∷ fs) (AtValue 0 false false)) at (spell_pad p ++ rest) ≡ line_walk (front (InFlow vs ∷ fs) inner) (past at (spell_pad p)) rest

value_closes : (vs : List Value) (fs : List Frame) (s : ℕ) (sp : Bool) (at : ℕ) (rest : List ℕ) → taken (InFlow vs ∷ fs) (AtValue s false sp) at 93 rest ≡ Ok (front fs (AfterValue (Whole (a_list (items_from vs))) false))
unfolding taken in_at_value end_flow
value_closes vs fs s sp at rest = refl

line_closes : (vs : List Value) (fs : List Frame) (s : ℕ) (w : Waiting) (at : ℕ) (rest : List ℕ) → is_pending w ≡ true → taken (InFlow vs ∷ fs) (AtLine s w) at 93 rest ≡ Ok (front fs (AfterValue (Whole (a_list (items_from vs))) false))
unfolding taken in_line line_content flow_line end_flow
line_closes vs fs s Fresh at rest h = refl
line_closes vs fs s NothingYet at rest h = refl
line_closes vs fs s (Going t) at rest h = cc
line_closes vs fs s (Whole v) at rest h = cc

line_begins : (vs : List Value) (fs : List Frame) (s : ℕ) (w : Waiting) (at n c : ℕ) (rest : List ℕ) → is_pending w ≡ true → Starts (Some n) true c rest → taken (InFlow vs ∷ fs) (AtLine s w) at c rest ≡ begin_value (InFlow vs ∷ fs) ValueOnly at c rest
unfolding taken in_line line_content flow_line
line_begins vs fs s Fresh at n c rest h g = rw (g.space, g.feed, g.tab n refl, g.hash, g.right) refl
line_begins vs fs s NothingYet at n c rest h g = rw (g.space, g.feed, g.tab n refl, g.hash, g.right) refl
line_begins vs fs s (Going t) at n c rest h g = cc
line_begins vs fs s (Whole v) at n c rest h g = cc

padded : (p : Pad) (vs : List Value) (fs : List Frame) (at : ℕ) → IsPad p → Padded p vs fs at
padded (Inline n) vs fs at h =
    let gs : List Frame = InFlow vs ∷ fs in
    let q : ℕ = past at (spaces n) in
    record {
      inner = AtValue 0 false (spaced_by false n);
      begins = λ c rest g. value_taken None true gs 0 false (spaced_by false n) q c rest g;
      closes = λ rest. value_closes vs fs 0 (spaced_by false n) q rest;
      run = λ rest. value_spaces n gs 0 false false at rest;
    }
padded (Over e gaps n) vs fs at h =
    let gs : List Frame = InFlow vs ∷ fs in
    let xs : List ℕ = spell_ending e in
    let ys : List ℕ = spell_gaps gaps in
    let d : Down gs 0 false false at (xs ++ ys) = down e gaps gs 0 false false at h.0 h.1 h.2 in
    let p : ℕ = past at (xs ++ ys) in
    let all : List ℕ = xs ++ (ys ++ spaces n) in
    let same : past p (spaces n) ≡ past at all = sym (past_append (xs ++ ys) (spaces n) at) ∙ ap (λ zs. past at zs) (append_assoc xs ys (spaces n)) in
    record {
      inner = AtLine p d.wait;
      begins = λ c rest g. line_begins vs fs p d.wait (past at all) n c rest d.pending g;
      closes = λ rest. line_closes vs fs p d.wait (past at all) rest d.pending;
      run = λ rest. ap (λ zs. line_walk (front gs (AtValue 0 false false)) at zs) (ap (λ zs. zs ++ rest) (sym (append_assoc xs ys (spaces n))) ∙ append_assoc (xs ++ ys) (spaces n) rest)
          ∙ (d.run (spaces n ++ rest) ∙ (spaces_line n gs p d.wait p rest ∙ ap (λ m. line_walk (front gs (AtLine p d.wait)) m rest) same));
    }

-- a flow list is read
pub record Closes (fs : List Frame) (role : Role) (at : ℕ) (xs : List ℕ) (v : Value) : Type 0 where
  pub run : (rest : List ℕ) → begin_run fs role at (xs ++ rest) ≡ line_walk (front fs (AfterValue (Whole v) false)) (past at xs) rest

abbrev before_last : Elements → List Value
before_last (One p x q) = []
before_last (Another es p x q) = element_values es

abbrev last_element : Elements → Value
last_element (One p x q) = flow_value x
last_element (Another es p x q) = flow_value x

elements_parts : (es : Elements) → before_last es ++ last_element es ∷ [] ≡ element_values es
elements_parts (One p x q) = refl
elements_parts (Another es p x q) = refl

-- a list as an item
list_ends : (x : Flow) (q : Pad) (vs : List Value) (fs : List Frame) (at : ℕ) → IsPad q → Closes (InFlow vs ∷ fs) ValueOnly at (spell_flow x) (flow_value x)
    → Ends (begin_run (InFlow vs ∷ fs) ValueOnly at) at (spell_flow x ++ spell_pad q) vs fs (flow_value x)
list_ends x q vs fs at h c =
    let gs : List Frame = InFlow vs ∷ fs in
    ends_behind (begin_run gs ValueOnly at) (front gs (AfterValue (Whole (flow_value x)) false)) at (spell_flow x) q vs fs (flow_value x) h (λ rest a. c.run rest) (value_pad q vs fs (flow_value x) (past at (spell_flow x)) h)

empty_closes : (p : Pad) (fs : List Frame) (role : Role) (level at : ℕ) → is_key_only role ≡ false → level < 32 → length fs ≡ level → IsPad p → Closes fs role at (spell_flow (Empty p)) (flow_value (Empty p))
empty_closes p fs role level at k l e h =
    let gs : List Frame = InFlow [] ∷ fs in
    let xs : List ℕ = spell_pad p in
    let d : Padded p [] fs (at + 1) = padded p [] fs (at + 1) h in
    let g : Front = front fs (AfterValue (Whole (a_list (items_from []))) false) in
    record {
      run = λ rest. begun fs role (front gs (AtValue 0 false false)) at 91 ((xs ++ 93 ∷ []) ++ rest) (bracket_opens fs role at level (with_returns ((xs ++ 93 ∷ []) ++ rest)) k e l)
          ∙ (ap (λ zs. line_walk (front gs (AtValue 0 false false)) (at + 1) zs) (append_assoc xs (93 ∷ []) rest)
          ∙ (d.run (93 ∷ rest)
          ∙ (goes gs d.inner g (past (at + 1) xs) 93 rest (d.closes (with_returns rest)) ∙ ap (λ q. line_walk g q rest) (sym (past_append xs (93 ∷ []) (at + 1))))));
    }

-- the elements after a bracket at this place
abbrev AllEnd : Elements → List Frame → ℕ → Type 0
AllEnd es fs at = Ends (line_walk (front (InFlow [] ∷ fs) (AtValue 0 false false)) (at + 1)) (at + 1) (spell_elements es) (before_last es) fs (last_element es)

listed_from : (es : Elements) (fs : List Frame) (role : Role) (level at : ℕ) → is_key_only role ≡ false → level < 32 → length fs ≡ level → AllEnd es fs at
    → Closes fs role at (spell_flow (Listed es)) (flow_value (Listed es))
listed_from es fs role level at k h e r =
    let gs : List Frame = InFlow [] ∷ fs in
    record {
      run = λ rest. begun fs role (front gs (AtValue 0 false false)) at 91 ((spell_elements es ++ 93 ∷ []) ++ rest) (bracket_opens fs role at level (with_returns ((spell_elements es ++ 93 ∷ []) ++ rest)) k e h)
          ∙ (ap (λ zs. line_walk (front gs (AtValue 0 false false)) (at + 1) zs) (append_assoc (spell_elements es) (93 ∷ []) rest)
          ∙ (r.bracket rest
          ∙ (ap (λ (us : List Value). line_walk (front fs (AfterValue (Whole (a_list (items_from us))) false)) (past (at + 1) (spell_elements es) + 1) rest) (elements_parts es)
          ∙ ap (λ p. line_walk (front fs (AfterValue (Whole (flow_value (Listed es))) false)) p rest) (sym (past_append (spell_elements es) (93 ∷ []) (at + 1))))));
    }

trailed_from : (es : Elements) (p : Pad) (fs : List Frame) (role : Role) (level at : ℕ) → is_key_only role ≡ false → level < 32 → length fs ≡ level → AllEnd es fs at → IsPad p
    → Closes fs role at (spell_flow (Trailed es p)) (flow_value (Trailed es p))
trailed_from es p fs role level at k l e r h =
    let gs : List Frame = InFlow [] ∷ fs in
    let hs : List Frame = InFlow (element_values es) ∷ fs in
    let xs : List ℕ = spell_pad p in
    let ys : List ℕ = xs ++ 93 ∷ [] in
    let m : ℕ = past (at + 1) (spell_elements es) + 1 in
    let d : Padded p (element_values es) fs m = padded p (element_values es) fs m h in
    let g : Front = front fs (AfterValue (Whole (flow_value (Trailed es p))) false) in
    record {
      run = λ rest. begun fs role (front gs (AtValue 0 false false)) at 91 ((spell_elements es ++ 44 ∷ ys) ++ rest) (bracket_opens fs role at level (with_returns ((spell_elements es ++ 44 ∷ ys) ++ rest)) k e l)
          ∙ (ap (λ zs. line_walk (front gs (AtValue 0 false false)) (at + 1) zs) (append_assoc (spell_elements es) (44 ∷ ys) rest)
          ∙ (r.comma (ys ++ rest)
          ∙ (ap (λ (us : List Value). line_walk (front (InFlow us ∷ fs) (AtValue 0 false false)) m (ys ++ rest)) (elements_parts es)
          ∙ (ap (λ zs. line_walk (front hs (AtValue 0 false false)) m zs) (append_assoc xs (93 ∷ []) rest)
          ∙ (d.run (93 ∷ rest)
          ∙ (goes hs d.inner g (past m xs) 93 rest (d.closes (with_returns rest))
          ∙ ap (λ q. line_walk g q rest) (sym (past_append (spell_elements es) (44 ∷ ys) (at + 1) ∙ past_append xs (93 ∷ []) m))))))));
    }

one_more : (fs : List Frame) (level : ℕ) → length fs ≡ level → length (InFlow [] ∷ fs) ≡ suc level
one_more fs level e = omega arith

-- the first character of an item
pub signed : (c : ℕ) (cs : List ℕ) (place : Option ℕ) (flow ended : Bool) → (c == 32) ≡ false → (c == 10) ≡ false → (c == 9) ≡ false → (c == 35) ≡ false → (c == 13) ≡ false → (c == 45) ≡ false → (c == 46) ≡ false → (c == 93) ≡ false → Started place flow ended (c ∷ cs)
signed c cs place flow ended a b d e f g h i = record { first = c; tail = cs; parts = refl; starts = λ rest _. sign_starts place flow c (with_returns (cs ++ rest)) a b d e f g h i }

pub flow_started : (x : Flow) (place : Option ℕ) (flow ended : Bool) (least level : ℕ) → IsFlow place flow ended least level x → Started place flow ended (spell_flow x)
flow_started (Text (Plain c cs ls)) place flow ended least level h = record {
  first = c;
  tail = cs ++ spell_furthers ls;
  parts = refl;
  starts = λ rest a. subst (λ zs. Starts place flow c (with_returns zs)) (sym (append_assoc cs (spell_furthers ls) rest)) (plain_starts place flow (line_ends ended ls) c cs (spell_furthers ls ++ rest) h.0 (lines_after ended ls rest a));
}
flow_started (Text (Double xs)) place flow ended least level h = signed 34 (spell_inners xs ++ 34 ∷ []) place flow ended refl refl refl refl refl refl refl refl
flow_started (Text (Single cs)) place flow ended least level h = signed 39 (spell_singles cs ++ 39 ∷ []) place flow ended refl refl refl refl refl refl refl refl
flow_started (Empty p) place flow ended least level h = signed 91 (spell_pad p ++ 93 ∷ []) place flow ended refl refl refl refl refl refl refl refl
flow_started (Listed es) place flow ended least level h = signed 91 (spell_elements es ++ 93 ∷ []) place flow ended refl refl refl refl refl refl refl refl
flow_started (Trailed es p) place flow ended least level h = signed 91 (spell_elements es ++ 44 ∷ (spell_pad p ++ 93 ∷ [])) place flow ended refl refl refl refl refl refl refl refl

-- after a bracket or comma
item_behind : (x : Flow) (p q : Pad) (vs : List Value) (fs : List Frame) (least level at : ℕ) → IsPad p → IsPad q → IsFlow (place_behind p) true (ends_before q) least level x
    → Ends (begin_run (InFlow vs ∷ fs) ValueOnly (past at (spell_pad p))) (past at (spell_pad p)) (spell_flow x ++ spell_pad q) vs fs (flow_value x)
    → Ends (line_walk (front (InFlow vs ∷ fs) (AtValue 0 false false)) at) at (spell_pad p ++ (spell_flow x ++ spell_pad q)) vs fs (flow_value x)
item_behind x p q vs fs least level at h g i e =
    let gs : List Frame = InFlow vs ∷ fs in
    let v : Value = flow_value x in
    let xs : List ℕ = spell_pad p in
    let m : ℕ = past at xs in
    let ys : List ℕ = spell_flow x ++ spell_pad q in
    let d : Padded p vs fs at = padded p vs fs at h in
    let run : (rest : List ℕ) → After false rest → line_walk (front gs (AtValue 0 false false)) at ((xs ++ ys) ++ rest) ≡ begin_run gs ValueOnly m (ys ++ rest)
    = λ rest a. ap (λ us. line_walk (front gs (AtValue 0 false false)) at us) (append_assoc xs ys rest)
    ∙ (d.run (ys ++ rest)
    ∙ (ap (λ us. line_walk (front gs d.inner) m us) (append_assoc (spell_flow x) (spell_pad q) rest)
    ∙ (started_by (place_behind p) true (ends_before q) (spell_flow x) (flow_started x (place_behind p) true (ends_before q) least level i) gs gs d.inner ValueOnly m (spell_pad q ++ rest) (pad_after q rest g a) d.begins
    ∙ ap (λ us. begin_run gs ValueOnly m us) (sym (append_assoc (spell_flow x) (spell_pad q) rest))))) in
    record {
      comma = λ rest. run (44 ∷ rest) (comma_after rest) ∙ (e.comma rest ∙ ap (λ k. line_walk (front (InFlow (vs ++ v ∷ []) ∷ fs) (AtValue 0 false false)) (k + 1) rest) (sym (past_append xs ys at)));
      bracket = λ rest. run (93 ∷ rest) (bracket_after rest) ∙ (e.bracket rest ∙ ap (λ k. line_walk (front fs (AfterValue (Whole (a_list (items_from (vs ++ v ∷ [])))) false)) (k + 1) rest) (sym (past_append xs ys at)));
    }

-- where further lines of an item may begin
abbrev Deep : ℕ → List Frame → Type 0
Deep least fs = (k : ℕ) → least ≤ k → is_deeper k fs ≡ true

mutual
  -- an item with what stands after it
  item_ends : (x : Flow) (q : Pad) (place : Option ℕ) (vs : List Value) (fs : List Frame) (least level at : ℕ) → IsPad q → IsFlow place true (ends_before q) least level x → length (InFlow vs ∷ fs) ≡ level → Deep least fs
      → Ends (begin_run (InFlow vs ∷ fs) ValueOnly at) at (spell_flow x ++ spell_pad q) vs fs (flow_value x)
  item_ends (Text (Plain c cs ls)) q place vs fs least level at g h e d =
      let gs : List Frame = InFlow vs ∷ fs in
      let xs : List ℕ = spell_plain c cs ls in
      let t : Folding = with_chars nothing_yet xs in
      let r : Plained gs (ends_before q) ValueOnly at xs = plain_goes c cs ls place gs true (ends_before q) least ValueOnly at refl refl d h.0 h.1 in
      ends_behind (begin_run gs ValueOnly at) (front gs (InPlain t r.role_then r.begun r.spaced)) at xs q vs fs (scalar_of t.text) g r.run (plain_pad q vs fs t r.role_then r.begun r.spaced (past at xs) r.value g)
  item_ends (Text (Double ys)) q place vs fs least level at g h e d =
      let gs : List Frame = InFlow vs ∷ fs in
      let xs : List ℕ = spell_scalar (Double ys) in
      let x : List ℕ = double_text ys in
      let r : Role = role_then is_line_end ValueOnly ys in
      ends_behind (begin_run gs ValueOnly at) (front gs (AfterQuoted x r at false)) at xs q vs fs (a_text x) g (λ rest a. double_goes ys gs ValueOnly at rest h (λ _. refl))
      (quoted_pad q vs fs x r at (past at xs) (value_then is_line_end ys ValueOnly refl) g)
  item_ends (Text (Single cs)) q place vs fs least level at g h e d =
      let gs : List Frame = InFlow vs ∷ fs in
      let xs : List ℕ = spell_scalar (Single cs) in
      let x : List ℕ = single_text cs in
      let r : Role = role_then is_feed ValueOnly cs in
      ends_behind (begin_run gs ValueOnly at) (front gs (AfterQuoted x r at false)) at xs q vs fs (a_text x) g (λ rest a. singled_goes cs gs ValueOnly at rest (λ _. refl) a.quote)
      (quoted_pad q vs fs x r at (past at xs) (value_then is_feed cs ValueOnly refl) g)
  item_ends (Empty p) q place vs fs least level at g h e d = list_ends (Empty p) q vs fs at g (empty_closes p (InFlow vs ∷ fs) ValueOnly level at refl h.0 e h.1)
  item_ends (Listed es) q place vs fs least level at g h e d =
      list_ends (Listed es) q vs fs at g (listed_from es (InFlow vs ∷ fs) ValueOnly level at refl h.0 e (elements_end es (InFlow vs ∷ fs) least (suc level) (at + 1) h.1 (one_more (InFlow vs ∷ fs) level e) d))
  item_ends (Trailed es p) q place vs fs least level at g h e d =
      list_ends (Trailed es p) q vs fs at g (trailed_from es p (InFlow vs ∷ fs) ValueOnly level at refl h.0 e (elements_end es (InFlow vs ∷ fs) least (suc level) (at + 1) h.1 (one_more (InFlow vs ∷ fs) level e) d) h.2)

  elements_end : (es : Elements) (fs : List Frame) (least level at : ℕ) → AreElements least level es → length (InFlow [] ∷ fs) ≡ level → Deep least fs
      → Ends (line_walk (front (InFlow [] ∷ fs) (AtValue 0 false false)) at) at (spell_elements es) (before_last es) fs (last_element es)
  elements_end (One p x q) fs least level at h e d = item_behind x p q [] fs least level at h.0 h.2 h.1 (item_ends x q (place_behind p) [] fs least level (past at (spell_pad p)) h.2 h.1 e d)
  elements_end (Another es p x q) fs least level at h e d =
      let r : Ends (line_walk (front (InFlow [] ∷ fs) (AtValue 0 false false)) at) at (spell_elements es) (before_last es) fs (last_element es) = elements_end es fs least level at h.0 e d in
      let f : Front = front (InFlow [] ∷ fs) (AtValue 0 false false) in
      let us : List Value = element_values es in
      let v : Value = flow_value x in
      let gs : List Frame = InFlow us ∷ fs in
      let xs : List ℕ = spell_elements es in
      let m : ℕ = past at xs + 1 in
      let ys : List ℕ = spell_pad p ++ (spell_flow x ++ spell_pad q) in
      let same : past at (xs ++ 44 ∷ ys) ≡ past m ys = past_append xs (44 ∷ ys) at in
      let i : Ends (line_walk (front gs (AtValue 0 false false)) m) m ys us fs v
      = item_behind x p q us fs least level m h.1 h.3 h.2 (item_ends x q (place_behind p) us fs least level (past m (spell_pad p)) h.3 h.2 e d) in
      let step : (rest : List ℕ) → line_walk f at ((xs ++ 44 ∷ ys) ++ rest) ≡ line_walk (front gs (AtValue 0 false false)) m (ys ++ rest)
      = λ rest. ap (λ zs. line_walk f at zs) (append_assoc xs (44 ∷ ys) rest)
      ∙ (r.comma (ys ++ rest) ∙ ap (λ (ws : List Value). line_walk (front (InFlow ws ∷ fs) (AtValue 0 false false)) m (ys ++ rest)) (elements_parts es)) in
      record {
        comma = λ rest. step (44 ∷ rest) ∙ (i.comma rest ∙ ap (λ k. line_walk (front (InFlow (us ++ v ∷ []) ∷ fs) (AtValue 0 false false)) (k + 1) rest) (sym same));
        bracket = λ rest. step (93 ∷ rest) ∙ (i.bracket rest ∙ ap (λ k. line_walk (front fs (AfterValue (Whole (a_list (items_from (us ++ v ∷ [])))) false)) (k + 1) rest) (sym same));
      }

-- ---- a scalar or a flow list, and the end of its line

closed_line : (x : Flow) (e : Ending) (fs : List Frame) (role : Role) (at : ℕ) → Closes fs role at (spell_flow x) (flow_value x) → IsEnding e → IsApart e → Begun fs role at (spell_flow x ++ spell_ending e) (flow_value x)
closed_line x e fs role at c h a =
    begun_behind fs role (front fs (AfterValue (Whole (flow_value x)) false)) at (spell_flow x) (spell_ending e) (flow_value x) (λ rest. c.run (spell_ending e ++ rest)) (value_line e fs (flow_value x) (past at (spell_flow x)) h a)

pub flow_reads : (x : Flow) (e : Ending) (place : Option ℕ) (fs : List Frame) (role : Role) (least level at : ℕ) → is_key_only role ≡ false → IsFlow place false true least level x → is_flow fs ≡ false → length fs ≡ level → Deep least fs → IsEnding e → IsApart e
    → Begun fs role at (spell_flow x ++ spell_ending e) (flow_value x)
flow_reads (Text (Plain c cs ls)) e place fs role least level at k h f n d g a =
    let xs : List ℕ = spell_plain c cs ls in
    let t : Folding = with_chars nothing_yet xs in
    let r : Plained fs true role at xs = plain_goes c cs ls place fs false true least role at k f d h.0 h.1 in
    begun_behind fs role (front fs (InPlain t r.role_then r.begun r.spaced)) at xs (spell_ending e) (scalar_of t.text) (λ rest. r.run (spell_ending e ++ rest) (after_ending e rest a))
    (plain_ends e fs t r.role_then r.begun r.spaced (past at xs) r.value g a)
flow_reads (Text (Double xs)) e place fs role least level at k h f n d g a =
    let x : List ℕ = double_text xs in
    let ys : List ℕ = spell_scalar (Double xs) in
    let r : Role = role_then is_line_end role xs in
    begun_behind fs role (front fs (AfterQuoted x r at false)) at ys (spell_ending e) (a_text x) (λ rest. double_goes xs fs role at (spell_ending e ++ rest) h (λ _. k))
    (quoted_ends e fs x r at (past at ys) (value_then is_line_end xs role k) g a)
flow_reads (Text (Single cs)) e place fs role least level at k h f n d g a =
    let x : List ℕ = single_text cs in
    let ys : List ℕ = spell_scalar (Single cs) in
    let r : Role = role_then is_feed role cs in
    begun_behind fs role (front fs (AfterQuoted x r at false)) at ys (spell_ending e) (a_text x) (λ rest. singled_goes cs fs role at (spell_ending e ++ rest) (λ _. k) (after_ending e rest a).quote)
    (quoted_ends e fs x r at (past at ys) (value_then is_feed cs role k) g a)
flow_reads (Empty p) e place fs role least level at k h f n d g a = closed_line (Empty p) e fs role at (empty_closes p fs role level at k h.0 n h.1) g a
flow_reads (Listed es) e place fs role least level at k h f n d g a =
    closed_line (Listed es) e fs role at (listed_from es fs role level at k h.0 n (elements_end es fs least (suc level) (at + 1) h.1 (one_more fs level n) d)) g a
flow_reads (Trailed es p) e place fs role least level at k h f n d g a =
    closed_line (Trailed es p) e fs role at (trailed_from es p fs role level at k h.0 n (elements_end es fs least (suc level) (at + 1) h.1 (one_more fs level n) d) h.2) g a
