-- How blocks of written files are read.
use Rattle.std.proofs.Common.{◌≡◌, ℕ, zero, suc, ◌+◌, ◌-◌, ◌<◌, Bool, true, false, List, [], ◌∷◌, ◌++◌, length, Option, Ok, refl, sym, ap, ◌∙◌, arith, append_assoc}
use Rattle.edt_base.specs.YamlData.{Value, null}
use Rattle.yaml_profile.specs.declared.front.Role.{Role}
use Rattle.yaml_profile.specs.declared.front.Role.TheVariants.{Either, Key as KeyOnly}
use Rattle.yaml_profile.specs.Signs.{ends_word}
use Rattle.yaml_profile.specs.Fronts.{Frame, InMap, InList, Waiting, Fresh, Nothing as NothingYet, Going, Whole, Innermost, AtLine, AtValue, front, value_so_far, is_flow, is_deeper, is_map_at}
use Rattle.yaml_profile.specs.Pieces.{begin_value, open_list}
use Rattle.yaml_profile.specs.Layout.{one_line_more, ended, is_fresh, block_line, value_on_line, begin_on_line, settle, next_entry, next_item, is_dash}
use Rattle.yaml_profile.specs.Reading.{taken}
use Rattle.yaml_profile.specs.Written.{spaces, Ending, Bare, Noted, spell_ending, IsEnding, IsApart, spell_gaps, AreGaps, Key, spell_key, IsKey, Node, Nothing, Beside, Below, Item, Of, MapOnLine, spell_node, spell_block, spell_item, IsNode, IsItem}
use Rattle.yaml_profile.proofs.WrittenTexts.{after_char}
use Rattle.yaml_profile.proofs.ReadSteps.{line_walk, past, past_append, with_returns}
use Rattle.yaml_profile.proofs.WrittenLines.{Reads, begin_run, gap_reads, nothing_reads}
use Rattle.yaml_profile.proofs.WrittenKeys.{lt_true, lt_false, eq_self, not_full, and_false, Content, dash_content, content_line, Starts, started_by, key_started, is_pending, pending_line, settle_line}
use Rattle.yaml_profile.proofs.WrittenOpen.{Over, settle_stays}

-- ---- places and columns

pub past_spaces : (n s : ℕ) → past s (spaces n) ≡ s + n
past_spaces zero s = omega arith
past_spaces (suc n) s = past_spaces n (s + 1) ∙ omega arith

pub column_is : (n s : ℕ) → past s (spaces n) - s ≡ n
column_is n s = rw (past_spaces n s) (omega arith)

-- ---- the front of a text after a dash or colon

pub ending_word : (e : Ending) (rest : List ℕ) → IsApart e → ends_word (with_returns (spell_ending e ++ rest)) ≡ true
ending_word (Bare zero) rest a = refl
ending_word (Bare (suc n)) rest a = refl
ending_word (Noted zero text) rest a = absurd (omega arith)
ending_word (Noted (suc n) text) rest a = refl

joined_word : (e : Ending) (ys rest : List ℕ) → IsApart e → ends_word (with_returns ((spell_ending e ++ ys) ++ rest)) ≡ true
joined_word e ys rest a = ap (λ zs. ends_word (with_returns zs)) (append_assoc (spell_ending e) ys rest) ∙ ending_word e (ys ++ rest) a

pub node_word : (x : Node) (column : ℕ) (in_map : Bool) (level : ℕ) (rest : List ℕ) → IsNode column in_map level x → ends_word (with_returns (spell_node x ++ rest)) ≡ true
node_word (Nothing e gaps) column in_map level rest h = joined_word e (spell_gaps gaps) rest h.1
node_word (Beside n l) column in_map level rest h = refl
node_word (Below e gaps b) column in_map level rest h = joined_word e (spell_gaps gaps ++ spell_block b) rest h.1

pub item_word : (i : Item) (column level : ℕ) (rest : List ℕ) → IsItem column level i → ends_word (with_returns (spell_item column i ++ rest)) ≡ true
item_word (Of x) column level rest h = node_word x column false level rest h
item_word (MapOnLine n es) column level rest h = refl

-- ---- lines without content

pub pending_so_far : (w : Waiting) (v : Value) → is_pending w ≡ true → value_so_far w ≡ null
pending_so_far Fresh v h = refl
pending_so_far NothingYet v h = refl
pending_so_far (Going t) v h = cc
pending_so_far (Whole u) v h = cc

pub record Kept (w : Waiting) (es : List Ending) (fs : List Frame) (s at : ℕ) : Type 0 where
  pub wait : Waiting
  pub pending : is_pending wait ≡ is_pending w
  pub fresh : is_fresh wait ≡ is_fresh w
  pub value : value_so_far wait ≡ value_so_far w
  pub run : (rest : List ℕ) → line_walk (front fs (AtLine s w)) at (spell_gaps es ++ rest) ≡ line_walk (front fs (AtLine (past at (spell_gaps es)) wait)) (past at (spell_gaps es)) rest

more_pending : (w : Waiting) → is_pending (one_line_more w) ≡ is_pending w
more_pending Fresh = refl
more_pending NothingYet = refl
more_pending (Going t) = refl
more_pending (Whole v) = refl

ended_pending : (w : Waiting) → is_pending (ended w) ≡ is_pending w
ended_pending Fresh = refl
ended_pending NothingYet = refl
ended_pending (Going t) = refl
ended_pending (Whole v) = refl

gap_pending : (e : Ending) (fs : List Frame) (s : ℕ) (w : Waiting) (at : ℕ) (h : IsEnding e) → is_pending (gap_reads e fs s w at h).wait ≡ is_pending w
unfolding gap_reads
gap_pending (Bare n) fs s w at h = more_pending w
gap_pending (Noted n text) fs s w at h = ended_pending w

more_fresh : (w : Waiting) → is_fresh (one_line_more w) ≡ is_fresh w
more_fresh Fresh = refl
more_fresh NothingYet = refl
more_fresh (Going t) = refl
more_fresh (Whole v) = refl

ended_fresh : (w : Waiting) → is_fresh (ended w) ≡ is_fresh w
ended_fresh Fresh = refl
ended_fresh NothingYet = refl
ended_fresh (Going t) = refl
ended_fresh (Whole v) = refl

gap_fresh : (e : Ending) (fs : List Frame) (s : ℕ) (w : Waiting) (at : ℕ) (h : IsEnding e) → is_fresh (gap_reads e fs s w at h).wait ≡ is_fresh w
unfolding gap_reads
gap_fresh (Bare n) fs s w at h = more_fresh w
gap_fresh (Noted n text) fs s w at h = ended_fresh w

pub gaps_wait : (es : List Ending) (fs : List Frame) (s : ℕ) (w : Waiting) (at : ℕ) → s ≡ at → AreGaps es → Kept w es fs s at
gaps_wait [] fs s w at same h = record { wait = w; pending = refl; fresh = refl; value = refl; run = λ rest. ap (λ m. line_walk (front fs (AtLine m w)) at rest) same }
gaps_wait (e ∷ es) fs s w at same h =
    let r : Reads (front fs (AtLine s w)) at (spell_ending e) fs (value_so_far w) = gap_reads e fs s w at h.0 in
    let m : ℕ = past at (spell_ending e) in
    let q : Kept r.wait es fs m m = gaps_wait es fs m r.wait m refl h.1 in
    record {
      wait = q.wait;
      pending = q.pending ∙ gap_pending e fs s w at h.0;
      fresh = q.fresh ∙ gap_fresh e fs s w at h.0;
      value = q.value ∙ r.is;
      run = λ rest. ap (λ zs. line_walk (front fs (AtLine s w)) at zs) (append_assoc (spell_ending e) (spell_gaps es) rest)
          ∙ (r.run (spell_gaps es ++ rest) ∙ (q.run rest ∙ ap (λ k. line_walk (front fs (AtLine k q.wait)) k rest) (sym (past_append (spell_ending e) (spell_gaps es) at))));
    }

nothing_wait : (e : Ending) (fs : List Frame) (s : ℕ) (m sp : Bool) (at : ℕ) (h : IsEnding e) (a : IsApart e) → (nothing_reads e fs s m sp at h a).wait ≡ NothingYet
unfolding nothing_reads
nothing_wait (Bare n) fs s m sp at h a = refl
nothing_wait (Noted zero text) fs s m sp at h a = absurd (omega arith)
nothing_wait (Noted (suc n) text) fs s m sp at h a = refl

-- after a key's colon, a dash, a bracket or a comma, up to the line of a value
pub record Down (fs : List Frame) (s : ℕ) (m sp : Bool) (at : ℕ) (xs : List ℕ) : Type 0 where
  pub wait : Waiting
  pub pending : is_pending wait ≡ true
  pub run : (rest : List ℕ) → line_walk (front fs (AtValue s m sp)) at (xs ++ rest) ≡ line_walk (front fs (AtLine (past at xs) wait)) (past at xs) rest

pub down : (e : Ending) (gaps : List Ending) (fs : List Frame) (s : ℕ) (m sp : Bool) (at : ℕ) → IsEnding e → IsApart e → AreGaps gaps → Down fs s m sp at (spell_ending e ++ spell_gaps gaps)
down e gaps fs s m sp at h a g =
    let r : Reads (front fs (AtValue s m sp)) at (spell_ending e) fs null = nothing_reads e fs s m sp at h a in
    let p : ℕ = past at (spell_ending e) in
    let k : Kept NothingYet gaps fs p p = gaps_wait gaps fs p NothingYet p refl g in
    record {
      wait = k.wait;
      pending = k.pending;
      run = λ rest. ap (λ zs. line_walk (front fs (AtValue s m sp)) at zs) (append_assoc (spell_ending e) (spell_gaps gaps) rest)
          ∙ (r.run (spell_gaps gaps ++ rest)
          ∙ (ap (λ (w : Waiting). line_walk (front fs (AtLine p w)) p (spell_gaps gaps ++ rest)) (nothing_wait e fs s m sp at h a)
          ∙ (k.run rest ∙ ap (λ q. line_walk (front fs (AtLine q k.wait)) q rest) (sym (past_append (spell_ending e) (spell_gaps gaps) at)))));
    }

-- ---- the frames that a node stands on

pub record Under (column : ℕ) (in_map : Bool) (level : ℕ) (fs : List Frame) : Type 0 where
  pub flow : is_flow fs ≡ false
  pub deep : (n : ℕ) → column < n → is_deeper n fs ≡ true
  pub shallow : (n : ℕ) → n < suc column → is_deeper n fs ≡ false
  pub count : length fs ≡ level
  pub same : in_map ≡ true → (is_deeper column fs ≡ false) × (is_map_at column fs ≡ true)

pub under_map : (own level : ℕ) (ks : List (List ℕ)) (vs : List Value) (fs : List Frame) → length fs ≡ level → Under own true (suc level) (InMap own ks vs ∷ fs)
under_map own level ks vs fs e = record { flow = refl; deep = λ n h. lt_true own n h; shallow = λ n h. lt_false own n (omega arith); count = omega arith; same = λ _. (lt_false own own (omega arith), eq_self own) }

pub under_list : (own level : ℕ) (vs : List Value) (fs : List Frame) → length fs ≡ level → Under own false (suc level) (InList own vs ∷ fs)
under_list own level vs fs e = record { flow = refl; deep = λ n h. lt_true own n h; shallow = λ n h. lt_false own n (omega arith); count = omega arith; same = λ q. cc }

-- ---- keys on a line

-- a key begins where something takes its first character as the beginning of a value
pub on_key : (k : Key) (place : Option ℕ) (fs : List Frame) (i : Innermost) (gs : List Frame) (role : Role) (at : ℕ) (rest : List ℕ) → IsKey place k
    → ((c : ℕ) (cs : List ℕ) → Starts place false c cs → taken fs i at c cs ≡ begin_value gs role at c cs)
    → line_walk (front fs i) at (spell_key k ++ 58 ∷ rest) ≡ begin_run gs role at (spell_key k ++ 58 ∷ rest)
on_key k place fs i gs role at rest h step = started_by place false false (spell_key k) (key_started k place h) fs gs i role at (58 ∷ rest) (after_char 58 rest false refl refl refl refl) step

-- the first key of a map, on a line of its own
pub first_on_line : (fs : List Frame) (w : Waiting) (s at n c : ℕ) (rest : List ℕ) → at - s ≡ n → is_flow fs ≡ false → is_pending w ≡ true → is_deeper n fs ≡ true → Content n c rest → is_dash c rest ≡ false
    → taken fs (AtLine s w) at c rest ≡ begin_value fs (Either n) at c rest
unfolding value_on_line begin_on_line
first_on_line fs w s at n c rest e f p d h k = content_line fs w s at n c rest e f h ∙ (pending_line fs w s at c rest p ∙ rw (e, d, k) refl)

-- a further key
key_entry : (own : ℕ) (ks : List (List ℕ)) (vs : List Value) (fs : List Frame) (v : Value) (s at c : ℕ) (rest : List ℕ) → at - s ≡ own
    → settle (InMap own ks vs ∷ fs) v s at c rest ≡ begin_value (InMap own ks (vs ++ v ∷ []) ∷ fs) KeyOnly at c rest
unfolding next_entry
key_entry own ks vs fs v s at c rest e =
    settle_stays (InMap own ks vs) fs v s at c rest (rw (e, lt_false own own (omega arith)) refl) ∙ rw (e, eq_self own) refl

pub further_on_line : (gs : List Frame) (i : Innermost) (w : Waiting) (own : ℕ) (ks : List (List ℕ)) (vs : List Value) (fs : List Frame) (u v : Value) (s at c : ℕ) (rest : List ℕ) → at - s ≡ own → Over own false gs
    → value_so_far w ≡ u → settle gs u s at c rest ≡ settle (InMap own ks vs ∷ fs) v s at c rest → taken gs i at c rest ≡ block_line gs w s at c rest → is_dash c rest ≡ false
    → taken gs i at c rest ≡ begin_value (InMap own ks (vs ++ v ∷ []) ∷ fs) KeyOnly at c rest
further_on_line gs i w own ks vs fs u v s at c rest e o is shut line d =
    line
    ∙ (settle_line gs w s at own c rest e o.shallow (rw d (and_false (is_map_at own gs)))
    ∙ (ap (λ (x : Value). settle gs x s at c rest) is ∙ (shut ∙ key_entry own ks vs fs v s at c rest e)))

-- ---- dashes on a line

list_begins : (fs : List Frame) (start column at level : ℕ) → length fs ≡ level → level < 32 → open_list fs start column at ≡ Ok (front (InList column [] ∷ fs) (AtValue start true false))
unfolding open_list
list_begins fs start column at level e h = rw (not_full fs level e h) refl

dash_is : (rest : List ℕ) → ends_word rest ≡ true → is_dash 45 rest ≡ true
dash_is rest h = h

pub deeper_dash : (fs : List Frame) (w : Waiting) (s at n : ℕ) (rest : List ℕ) (level : ℕ) → at - s ≡ n → is_flow fs ≡ false → is_pending w ≡ true → is_deeper n fs ≡ true → ends_word rest ≡ true
    → length fs ≡ level → level < 32 → taken fs (AtLine s w) at 45 rest ≡ Ok (front (InList n [] ∷ fs) (AtValue s true false))
unfolding value_on_line begin_on_line
deeper_dash fs w s at n rest level e f p d h count l =
    content_line fs w s at n 45 rest e f (dash_content n rest h) ∙ (pending_line fs w s at 45 rest p ∙ rw (e, d, h) (list_begins fs s n at level count l))

pub same_dash : (fs : List Frame) (w : Waiting) (s at n : ℕ) (rest : List ℕ) (level : ℕ) → at - s ≡ n → is_flow fs ≡ false → is_pending w ≡ true → is_deeper n fs ≡ false → is_map_at n fs ≡ true → ends_word rest ≡ true
    → length fs ≡ level → level < 32 → taken fs (AtLine s w) at 45 rest ≡ Ok (front (InList n [] ∷ fs) (AtValue s true false))
unfolding value_on_line
same_dash fs w s at n rest level e f p d m h count l =
    content_line fs w s at n 45 rest e f (dash_content n rest h) ∙ (pending_line fs w s at 45 rest p ∙ rw (e, d, m, h) (list_begins fs s n at level count l))

dash_entry : (own : ℕ) (vs : List Value) (fs : List Frame) (v : Value) (s at : ℕ) (rest : List ℕ) → at - s ≡ own → ends_word rest ≡ true
    → settle (InList own vs ∷ fs) v s at 45 rest ≡ Ok (front (InList own (vs ++ v ∷ []) ∷ fs) (AtValue s true false))
unfolding next_entry next_item
dash_entry own vs fs v s at rest e h =
    settle_stays (InList own vs) fs v s at 45 rest (rw (e, lt_false own own (omega arith), eq_self own, h) refl) ∙ rw (e, eq_self own, h) refl

pub further_dash : (gs : List Frame) (i : Innermost) (w : Waiting) (own : ℕ) (vs : List Value) (fs : List Frame) (u v : Value) (s at : ℕ) (rest : List ℕ) → at - s ≡ own → Over own true gs
    → value_so_far w ≡ u → settle gs u s at 45 rest ≡ settle (InList own vs ∷ fs) v s at 45 rest → taken gs i at 45 rest ≡ block_line gs w s at 45 rest → ends_word rest ≡ true
    → taken gs i at 45 rest ≡ Ok (front (InList own (vs ++ v ∷ []) ∷ fs) (AtValue s true false))
further_dash gs i w own vs fs u v s at rest e o is shut line h =
    line
    ∙ (settle_line gs w s at own 45 rest e o.shallow (rw (o.no_map refl) refl)
    ∙ (ap (λ (x : Value). settle gs x s at 45 rest) is ∙ (shut ∙ dash_entry own vs fs v s at rest e h)))
