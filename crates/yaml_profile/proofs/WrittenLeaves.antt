-- How values that are no blocks are read, up to the line after them.
use Rattle.std.proofs.Common.{◌≡◌, ℕ, ◌<◌, ◌≤◌, Bool, true, false, List, ◌++◌, length, Option, Some, None, Result, refl, sym, ap, subst, ◌∙◌, arith, append-nil, append_assoc, inl, inr}
use Rattle.edt_base.specs.YamlData.{Value, a_text}
use Rattle.yaml_profile.specs.declared.stop.Broken.{Broken}
use Rattle.yaml_profile.specs.declared.front.Role.{Role}
use Rattle.yaml_profile.specs.declared.block_text.Chomp.{Chomp}
use Rattle.yaml_profile.specs.BlockText.{BlockText, no_lines, first_line, block_text}
use Rattle.yaml_profile.specs.Fronts.{Frame, Innermost, AtTextLine, Front, front, value_so_far, is_flow, is_deeper}
use Rattle.yaml_profile.specs.Pieces.{begin_value, is_key_only}
use Rattle.yaml_profile.specs.Layout.{is_text_line}
use Rattle.yaml_profile.specs.Reading.{taken}
use Rattle.yaml_profile.specs.Written.{spell_ending, spell_gaps, spell_flow, flow_value, Noted, spell_blanks, Rows, spell_header, spell_chomp, spell_rows, spell_lines, spell_note, AreRows, IsBeyond, go_all, with_rows, text_of, Leaf, Flowing, Scalars, spell_leaf, leaf_value, IsLeaf}
use Rattle.yaml_profile.proofs.WrittenTexts.{goes_by, After, after_ending}
use Rattle.yaml_profile.proofs.ReadSteps.{line_walk, past, past_append, with_returns}
use Rattle.yaml_profile.proofs.WrittenLines.{Reads, begin_run, with_gaps, Begun, begun_gaps}
use Rattle.yaml_profile.proofs.WrittenKeys.{Starts, sign_starts, started_by}
use Rattle.yaml_profile.proofs.WrittenFlows.{flow_reads, flow_started}
use Rattle.yaml_profile.proofs.WrittenScalars.{lines_go, note_reads, text_over, first_indent, Spaced, open_spaced, known_spaced, with_more_indent, go_all_indent, Stand, OfLine, OfText, stands, stand_wait, Passes, passes_lower}

-- these characters, from where this function stands, lead to the start of a line, with these collections open and this
-- value read last; what begins there before this column is no line of a block scalar
pub record Stood (from : List ℕ → Result Front Broken) (at : ℕ) (xs : List ℕ) (fs : List Frame) (v : Value) (low : ℕ) : Type 0 where
  pub stand : Stand
  pub is : value_so_far (stand_wait stand) ≡ v
  pub passes : Passes low stand
  pub run : (rest : List ℕ) → from (xs ++ rest) ≡ line_walk (front fs (stands stand (past at xs))) (past at xs) rest

pub stood_of : (f : Front) (at : ℕ) (xs : List ℕ) (fs : List Frame) (v : Value) (low : ℕ) → Reads f at xs fs v → Stood (line_walk f at) at xs fs v low
stood_of f at xs fs v low r = record { stand = OfLine r.wait; is = r.is; passes = tt; run = r.run }

pub lower : (from : List ℕ → Result Front Broken) (at : ℕ) (xs : List ℕ) (fs : List Frame) (v : Value) (low less : ℕ) → less ≤ low → Stood from at xs fs v low → Stood from at xs fs v less
lower from at xs fs v low less l r = record { stand = r.stand; is = r.is; passes = passes_lower r.stand low less l r.passes; run = r.run }

pub stood_behind : (from : List ℕ → Result Front Broken) (g : Front) (at : ℕ) (xs ys : List ℕ) (fs : List Frame) (v : Value) (low : ℕ)
    → ((rest : List ℕ) → from (xs ++ (ys ++ rest)) ≡ line_walk g (past at xs) (ys ++ rest)) → Stood (line_walk g (past at xs)) (past at xs) ys fs v low → Stood from at (xs ++ ys) fs v low
stood_behind from g at xs ys fs v low step r = record {
  stand = r.stand;
  is = r.is;
  passes = r.passes;
  run = λ rest. ap from (append_assoc xs ys rest) ∙ (step rest ∙ (r.run rest ∙ ap (λ m. line_walk (front fs (stands r.stand m)) m rest) (sym (past_append xs ys at))));
}

pub stood_on : (from : List ℕ → Result Front Broken) (at : ℕ) (xs ys : List ℕ) (fs gs : List Frame) (v u : Value) (low least : ℕ)
    → (r : Stood from at xs fs v low) → Stood (line_walk (front fs (stands r.stand (past at xs))) (past at xs)) (past at xs) ys gs u least → Stood from at (xs ++ ys) gs u least
stood_on from at xs ys fs gs v u low least r q = stood_behind from (front fs (stands r.stand (past at xs))) at xs ys gs u least (λ rest. r.run (ys ++ rest)) q

-- ---- the first character

lines_run : (folded : Bool) (chomp : Chomp) (ys : List ℕ) (place : Option ℕ) (fs gs : List Frame) (i : Innermost) (role : Role) (at : ℕ) (rest : List ℕ)
    → ((c : ℕ) (cs : List ℕ) → Starts place false c cs → taken fs i at c cs ≡ begin_value gs role at c cs) → line_walk (front fs i) at ((spell_header folded chomp ++ ys) ++ rest) ≡ begin_run gs role at ((spell_header folded chomp ++ ys) ++ rest)
lines_run true chomp ys place fs gs i role at rest step =
    let zs : List ℕ = (spell_chomp chomp ++ ys) ++ rest in
    goes_by fs i (begin_value gs role at 62 (with_returns zs)) at 62 zs (step 62 (with_returns zs) (sign_starts place false 62 (with_returns zs) refl refl refl refl refl refl refl refl))
lines_run false chomp ys place fs gs i role at rest step =
    let zs : List ℕ = (spell_chomp chomp ++ ys) ++ rest in
    goes_by fs i (begin_value gs role at 124 (with_returns zs)) at 124 zs (step 124 (with_returns zs) (sign_starts place false 124 (with_returns zs) refl refl refl refl refl refl refl refl))

-- nothing has to be known of what stands after the line ends
pub leaf_run : (l : Leaf) (place : Option ℕ) (least level : ℕ) (fs gs : List Frame) (i : Innermost) (role : Role) (at : ℕ) (rest : List ℕ) → IsLeaf place least level l
    → ((c : ℕ) (cs : List ℕ) → Starts place false c cs → taken fs i at c cs ≡ begin_value gs role at c cs) → line_walk (front fs i) at (spell_leaf l ++ rest) ≡ begin_run gs role at (spell_leaf l ++ rest)
leaf_run (Flowing x e gaps) place least level fs gs i role at rest h step =
    let xs : List ℕ = spell_flow x in
    let ys : List ℕ = spell_ending e ++ spell_gaps gaps in
    let a : After true (ys ++ rest) = subst (λ zs. After true zs) (sym (append_assoc (spell_ending e) (spell_gaps gaps) rest)) (after_ending e (spell_gaps gaps ++ rest) h.2) in
    ap (λ zs. line_walk (front fs i) at zs) (append_assoc xs ys rest)
    ∙ (started_by place false true xs (flow_started x place false true least level h.0) fs gs i role at (ys ++ rest) a step ∙ ap (λ zs. begin_run gs role at zs) (sym (append_assoc xs ys rest)))
leaf_run (Scalars l n) place least level fs gs i role at rest h step =
    let ys : List ℕ = spell_ending l.ending ++ (spell_blanks l.leading ++ spell_rows l.rows) in
    let xs : List ℕ = spell_header l.folded l.chomp in
    ap (λ zs. line_walk (front fs i) at zs) (append_assoc (xs ++ ys) (spell_note n) rest)
    ∙ (lines_run l.folded l.chomp ys place fs gs i role at (spell_note n ++ rest) step ∙ ap (λ zs. begin_run gs role at zs) (sym (append_assoc (xs ++ ys) (spell_note n) rest)))

-- ---- the whole

rows_indent : (r : Rows) (b : BlockText) → (with_rows b (Some r)).indent ≡ Some r.indent
rows_indent r b = with_more_indent r.more (go_all (first_line b r.indent r.first) r.text) ∙ (go_all_indent r.text (first_line b r.indent r.first) ∙ first_indent b r.indent r.first)

begun_stood : (fs : List Frame) (role : Role) (at : ℕ) (xs : List ℕ) (v : Value) (low : ℕ) → Begun fs role at xs v → Stood (begin_run fs role at) at xs fs v low
begun_stood fs role at xs v low r = record { stand = OfLine r.wait; is = r.is; passes = tt; run = r.run }

scalar_passes : (o : Option Rows) (b : BlockText) (least low : ℕ) → b.indent ≡ None → AreRows least o → low ≤ least → Passes low (OfText (with_rows b o))
scalar_passes None b least low e h lows = inl e
scalar_passes (Some r) b least low e h lows = inr (r.indent, rows_indent r b, let l : low ≤ r.indent = let a : least ≤ r.indent = h.0 in omega arith in l)

beyond : (o : Option Rows) (b : BlockText) (fs : List Frame) (least n : ℕ) → b.indent ≡ None → ((k : ℕ) → k < least → is_deeper k fs ≡ false) → IsBeyond least o n → is_text_line fs (with_rows b o) n ≡ false
beyond None b fs least n e d h = text_over fs b n (inl (e, d n h))
beyond (Some r) b fs least n e d h = text_over fs (with_rows b (Some r)) n (inr (r.indent, rows_indent r b, h))

beyond_spaced : (o : Option Rows) (b : BlockText) (least n : ℕ) → b.indent ≡ None → IsBeyond least o n → Spaced (with_rows b o) n
beyond_spaced None b least n e h = open_spaced b n e
beyond_spaced (Some r) b least n e h = known_spaced (with_rows b (Some r)) r.indent n (rows_indent r b) (omega arith)

pub leaf_reads : (l : Leaf) (place : Option ℕ) (fs : List Frame) (least level low : ℕ) (role : Role) (at : ℕ) → is_key_only role ≡ false → IsLeaf place least level l → is_flow fs ≡ false → length fs ≡ level
    → ((k : ℕ) → least ≤ k → is_deeper k fs ≡ true) → ((k : ℕ) → k < least → is_deeper k fs ≡ false) → low ≤ least → Stood (begin_run fs role at) at (spell_leaf l) fs (leaf_value l) low
leaf_reads (Flowing x e gaps) place fs least level low role at v h f count deep shallow lows =
    let xs : List ℕ = spell_flow x ++ spell_ending e in
    let r : Begun fs role at (xs ++ spell_gaps gaps) (flow_value x) = begun_gaps gaps fs role at xs (flow_value x) h.3 (flow_reads x e place fs role least level at v h.0 f count deep h.1 h.2) in
    let P : List ℕ → Type 0 = λ zs. Stood (begin_run fs role at) at zs fs (flow_value x) low in
    subst P (append_assoc (spell_flow x) (spell_ending e) (spell_gaps gaps)) (begun_stood fs role at (xs ++ spell_gaps gaps) (flow_value x) low r)
leaf_reads (Scalars l None) place fs least level low role at v h f count deep shallow lows =
    let b : BlockText = record (no_lines l.folded) { chomp = l.chomp; leading = l.leading } in
    let P : List ℕ → Type 0 = λ zs. Stood (begin_run fs role at) at zs fs (a_text (block_text (text_of l))) low in
    subst P (sym (append-nil (spell_lines l)))
    (record { stand = OfText (text_of l); is = refl; passes = scalar_passes l.rows b least low refl h.0.2 lows; run = λ rest. lines_go l fs least role at rest v f deep h.0 })
leaf_reads (Scalars l (Some n)) place fs least level low role at v h f count deep shallow lows =
    let b : BlockText = record (no_lines l.folded) { chomp = l.chomp; leading = l.leading } in
    let t : BlockText = text_of l in
    let xs : List ℕ = spell_lines l in
    let s : ℕ = past at xs in
    let g : Front = front fs (AtTextLine s t) in
    let r : Reads g s (spell_ending (Noted n.indent n.text)) fs (a_text (block_text t))
    = note_reads n.indent n.text fs t s (beyond_spaced l.rows b least n.indent refl h.1.0) (beyond l.rows b fs least n.indent refl shallow h.1.0) h.1.1 in
    let q : Reads g s (spell_note (Some n)) fs (a_text (block_text t)) = with_gaps n.gaps g s (spell_ending (Noted n.indent n.text)) fs (a_text (block_text t)) h.1.2 r in
    stood_behind (begin_run fs role at) g at xs (spell_note (Some n)) fs (a_text (block_text t)) low (λ rest. lines_go l fs least role at (spell_note (Some n) ++ rest) v f deep h.0)
    (stood_of g s (spell_note (Some n)) fs (a_text (block_text t)) low q)
