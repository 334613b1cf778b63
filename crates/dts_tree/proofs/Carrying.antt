-- A statement that is carried out: the slots stand for what the definitions say is left.
use Rattle.std.proofs.Common.{◌≡◌, ◌∙◌, ◌+◌, ◌-◌, ◌<◌, ◌≤◌, ◌++◌, ◌⊎◌, ◌∷◌, [], ℕ, zero, suc, Bool, true, false, not, cond, List, Option, Some, None, Result, Ok, Err, length, map, get_or, take, refl, sym, ap, subst, inl, inr, arith, eqb}
use Rattle.std.specs.Prelude.{unwrap_or, nat_eq}
use Rattle.std.specs.Option.{option_map}
use Rattle.std.specs.List.{list_all, fold, slice_split}
use Rattle.std.proofs.lemmas.Bool.{true≢false, cases_lt, cases_eq, not_from_false, false_from_ne_true}
use Rattle.std.proofs.lemmas.List.{get_or_append_left, get_or_push, length_push, get_or-take, length-take-le, take-map, length-map, map_push, get_or-map}
use Rattle.std.proofs.lemmas.Option.{same_Some, none-some}
use Rattle.dts_parse.specs.StmtData.{ActData}
use Rattle.dts_parse.specs.declared.script.Target.{Target}
use Rattle.dts_parse.specs.declared.script.Target.TheVariants as target
use Rattle.dts_tree.specs.declared.spot.Step.{Step}
use Rattle.dts_tree.specs.declared.spot.Step.TheVariants.{Child}
use Rattle.dts_tree.specs.Places.{Place, one_below, place_of}
use Rattle.dts_tree.specs.Deeds.{Deed, deed}
use Rattle.dts_tree.specs.Live.{begins, is_there, labelled, last_of, node_of}
use Rattle.dts_tree.specs.Reading.{Before, live, here, closed}
use Rattle.dts_tree.specs.Inner.Arena.{ArenaData, is_gone, is_alive, child_of, spot, added, removed, root_arena, entered, entered_at, slot_at, entered_slot, last_slot, but_last, down, at_path, at_names}
use Rattle.dts_tree.specs.Inner.Machine.{EventData, event, LabelsData, ReaderData, no_labels, alive_in, stack_of, stack_at, trimmed_at, labels_after, named_slot, looked_up, here_slot, noted, entering, opened, opened_at, opening_slot, without, without_child, without_at, deleting_slot, noted_child, noted_at, marking_slot, labelling, carried, carried_on}
use Rattle.dts_tree.proofs.Lists.{Member, all_at, all_from, all_append, and_both, member_of_filter}
use Rattle.dts_tree.proofs.Shape.{IsShaped, IsSound, place_at, parent_at, step_at, there_within, child_stands}
use Rattle.dts_tree.proofs.Sweeping.{last_split, last_none}
use Rattle.dts_tree.proofs.SweepTurns.{last_push}
use Rattle.dts_tree.proofs.Trimming.{alive_trimmed, all_trimmed, last_of_map, last_member}
use Rattle.dts_tree.proofs.Tying.{IsTied, AreNumbered, NoLabel, there_slot, slot_there, none_there, tied_note, tied_label, tied_add, tied_remove, alive_false}

-- ---- open nodes

-- each open node stands in the one before it
abbrev pub IsChain : List Place → Type 0
IsChain within = (k : ℕ) → suc k < length within → length (get_or within (suc k) []) ≡ suc (length (get_or within k []))

pub record IsOpen (places : List Place) (a : ArenaData) (slots : List ℕ) (within : List Place) : Type 0 where
  pub same : map (place_at places) slots ≡ within
  pub open_slots : list_all (is_alive a.gone) slots ≡ true
  pub chain : IsChain within

pub record IsStanding (r : ReaderData) (b : Before) : Type 0 where
  pub places : List Place
  pub tied : IsTied places r.arena r.events r.labels (live b)
  pub opens : IsOpen places r.arena r.within b.within
  pub levels : length r.arena.spots ≤ suc (length b.deeds)

innermost : List Place → Place
innermost within = unwrap_or (last_slot within) []

here_by : (places : List Place) (a : ArenaData) (slots : List ℕ) (within : List Place) (o : Option ℕ) → IsShaped a.spots places → IsSound a → IsOpen places a slots within
    → last_slot slots ≡ o → (place_at places (unwrap_or o 0) ≡ unwrap_or (last_slot within) []) × (is_gone a.gone (unwrap_or o 0) ≡ false)
here_by places a slots within None shape sound op e =
    let none : slots ≡ [] = last_none slots e in
    let empty : within ≡ [] = sym op.same ∙ ap (map (place_at places)) none in
    (shape.root ∙ ap (λ w. unwrap_or (last_slot w) []) (sym empty), sound.root)
here_by places a slots within (Some i) shape sound op e =
    let whole : slots ≡ but_last slots ++ i ∷ [] = last_split slots i e in
    let shown : within ≡ map (place_at places) (but_last slots) ++ place_at places i ∷ [] = sym op.same ∙ (ap (map (place_at places)) whole ∙ map_push (place_at places) (but_last slots) i) in
    let last : last_slot within ≡ Some (place_at places i) = ap last_slot shown ∙ last_push (map (place_at places) (but_last slots)) (place_at places i) in
    let m : Member i slots = subst (λ xs. Member i xs) (sym whole) (Rattle.dts_tree.proofs.Lists.member_right i (but_last slots) (i ∷ []) (inl refl)) in
    (ap (λ o. unwrap_or o []) (sym last), alive_false a.gone i (all_at (is_alive a.gone) slots i op.open_slots m))

pub here_is : (r : ReaderData) (b : Before) (s : IsStanding r b) → (place_at s.places (here_slot r) ≡ here b) × (is_gone r.arena.gone (here_slot r) ≡ false)
here_is r b s = here_by s.places r.arena r.within b.within (last_slot r.within) s.tied.shape s.tied.sound s.opens refl

chain_up : (within : List Place) → IsChain within → (n k : ℕ) → k + n < length within → length (get_or within k []) ≤ length (get_or within (k + n) [])
chain_up within c zero k l = let e : k + 0 ≡ k = omega arith in subst (λ j. length (get_or within k []) ≤ length (get_or within j [])) (sym e) (omega arith)
chain_up within c (suc n) k l =
    let low : k + n < length within = omega arith in
    let next : suc (k + n) < length within = omega arith in
    let r : length (get_or within k []) ≤ length (get_or within (k + n) []) = chain_up within c n k low in
    let s : length (get_or within (suc (k + n)) []) ≡ suc (length (get_or within (k + n) [])) = c (k + n) next in
    let e : suc (k + n) ≡ k + suc n = omega arith in
    subst (λ j. length (get_or within k []) ≤ length (get_or within j [])) e (omega arith)

member_index : (xs : List Place) (x : Place) → Member x xs → (k : ℕ) × (k < length xs) × (get_or xs k [] ≡ x)
member_index [] x m = absurd m
member_index (y ∷ ys) x (inl e) = (0, omega arith, e)
member_index (y ∷ ys) x (inr m) = let r = member_index ys x m in (suc r.0, omega (arith, r.1), r.2)

last_or : (within : List Place) → 0 < length within → unwrap_or (last_slot within) [] ≡ get_or within (length within - 1) []
last_or within l = Rattle.std.proofs.lemmas.Option.unwrap_or-slice_get within (length within - 1) []

-- no open node stands deeper than the innermost
pub chain_short : (within : List Place) → IsChain within → (q : Place) → Member q within → length q ≤ length (unwrap_or (last_slot within) [])
chain_short within c q m =
    let r = member_index within q m in
    let k : ℕ = r.0 in
    let l : k < length within = r.1 in
    let n : ℕ = length within - 1 - k in
    let e : k + n ≡ length within - 1 = omega arith in
    let low : k + n < length within = omega arith in
    let up : length (get_or within k []) ≤ length (get_or within (k + n) []) = chain_up within c n k low in
    let at_end : length (get_or within (k + n) []) ≡ length (unwrap_or (last_slot within) []) = ap (λ j. length (get_or within j [])) e ∙ ap length (sym (last_or within (omega arith))) in
    let this : length (get_or within k []) ≡ length q = ap length r.2 in
    omega arith

chain_push : (within : List Place) (s : Step) → IsChain within → IsChain (within ++ (s ∷ unwrap_or (last_slot within) []) ∷ [])
chain_push within s c k l =
    let h : Place = unwrap_or (last_slot within) [] in
    let len : length (within ++ (s ∷ h) ∷ []) ≡ length within + 1 = length_push within (s ∷ h) in
    elim (cases_lt (suc k) (length within)) [
      | inl m ↦
          let a : get_or (within ++ (s ∷ h) ∷ []) (suc k) [] ≡ get_or within (suc k) [] = get_or_append_left within ((s ∷ h) ∷ []) [] (suc k) m in
          let b : get_or (within ++ (s ∷ h) ∷ []) k [] ≡ get_or within k [] = get_or_append_left within ((s ∷ h) ∷ []) [] k (omega arith) in
          ap length a ∙ (c k m ∙ ap (λ q. suc (length q)) (sym b))
      | inr m ↦
          let e : length within ≡ suc k = omega arith in
          let a : get_or (within ++ (s ∷ h) ∷ []) (suc k) [] ≡ s ∷ h = get_or_push within (s ∷ h) [] (suc k) e in
          let b : get_or (within ++ (s ∷ h) ∷ []) k [] ≡ get_or within k [] = get_or_append_left within ((s ∷ h) ∷ []) [] k (omega arith) in
          let f : length within - 1 ≡ k = omega arith in
          let g : h ≡ get_or within k [] = last_or within (omega arith) ∙ ap (λ j. get_or within j []) f in
          ap length a ∙ ap (λ q. suc (length q)) (g ∙ sym b)
    ]

chain_closed : (within : List Place) → IsChain within → IsChain (but_last within)
chain_closed within c k l =
    let len : length (but_last within) ≡ length within - 1 = length-take-le (length within - 1) within (omega arith) in
    let a : get_or (but_last within) (suc k) [] ≡ get_or within (suc k) [] = get_or-take (length within - 1) within (suc k) [] (omega arith) in
    let b : get_or (but_last within) k [] ≡ get_or within k [] = get_or-take (length within - 1) within k [] (omega arith) in
    ap length a ∙ (c k (omega arith) ∙ ap (λ q. suc (length q)) (sym b))

chain_one : (p : Place) → IsChain (p ∷ [])
chain_one p k l = absurd (omega arith)

chain_none : IsChain []
chain_none k l = absurd (omega arith)

pub open_none : (places : List Place) (a : ArenaData) → IsOpen places a [] []
open_none places a = record { same = refl; open_slots = refl; chain = chain_none }

pub open_one : (places : List Place) (a : ArenaData) (i : ℕ) (p : Place) → place_at places i ≡ p → is_gone a.gone i ≡ false → IsOpen places a (i ∷ []) (p ∷ [])
open_one places a i p e g = record {
  same = ap (λ q. q ∷ []) e;
  open_slots = and_both (is_alive a.gone i) true (not_from_false (is_gone a.gone i) g) refl;
  chain = chain_one p;
}

all_take : (f : ℕ → Bool) (n : ℕ) (xs : List ℕ) → list_all f xs ≡ true → list_all f (take n xs) ≡ true
all_take f zero xs h = refl
all_take f (suc n) [] h = refl
all_take f (suc n) (x ∷ xs) h = let r = Rattle.dts_tree.proofs.Lists.and_parts (f x) (list_all f xs) h in and_both (f x) (list_all f (take n xs)) r.0 (all_take f n xs r.1)

pub open_closed : (places : List Place) (a : ArenaData) (slots : List ℕ) (within : List Place) → IsOpen places a slots within → IsOpen places a (but_last slots) (closed within)
open_closed places a slots within op =
    let len : length within ≡ length slots = ap length (sym op.same) ∙ length-map slots (place_at places) in
    record {
      same = sym (take-map (place_at places) (length slots - 1) slots) ∙ (ap (take (length slots - 1)) op.same ∙ ap (λ n. take (n - 1) within) (sym len));
      open_slots = all_take (is_alive a.gone) (length slots - 1) slots op.open_slots;
      chain = chain_closed within op.chain;
    }

same_map : (places more : List Place) (slots : List ℕ) → ((i : ℕ) → Member i slots → place_at more i ≡ place_at places i) → map (place_at more) slots ≡ map (place_at places) slots
same_map places more [] h = refl
same_map places more (i ∷ is) h = ap (λ p. p ∷ map (place_at more) is) (h i (inl refl)) ∙ ap (λ t. place_at places i ∷ t) (same_map places more is (λ j m. h j (inr m)))

-- the open nodes stay where what is there stays
pub open_kept : (places more : List Place) (a new : ArenaData) (slots : List ℕ) (within : List Place)
    → ((i : ℕ) → is_gone a.gone i ≡ false → (is_gone new.gone i ≡ false) × (place_at more i ≡ place_at places i))
    → IsOpen places a slots within → IsOpen more new slots within
open_kept places more a new slots within kept op = record {
  same = same_map places more slots (λ i m. (kept i (alive_false a.gone i (all_at (is_alive a.gone) slots i op.open_slots m))).1) ∙ op.same;
  open_slots = all_from (is_alive new.gone) slots (λ i m. not_from_false (is_gone new.gone i) (kept i (alive_false a.gone i (all_at (is_alive a.gone) slots i op.open_slots m))).0);
  chain = op.chain;
}

pub open_push : (places more : List Place) (a new : ArenaData) (slots : List ℕ) (within : List Place) (s : Step) (i : ℕ)
    → ((i : ℕ) → is_gone a.gone i ≡ false → (is_gone new.gone i ≡ false) × (place_at more i ≡ place_at places i))
    → IsOpen places a slots within → place_at more i ≡ s ∷ unwrap_or (last_slot within) [] → is_gone new.gone i ≡ false
    → IsOpen more new (slots ++ i ∷ []) (within ++ (s ∷ unwrap_or (last_slot within) []) ∷ [])
open_push places more a new slots within s i kept op e g =
    let k = open_kept places more a new slots within kept op in
    record {
      same = map_push (place_at more) slots i ∙ (ap (λ xs. xs ++ place_at more i ∷ []) k.same ∙ ap (λ p. within ++ p ∷ []) e);
      open_slots = all_append (is_alive new.gone) slots (i ∷ []) k.open_slots (and_both (is_alive new.gone i) true (not_from_false (is_gone new.gone i) g) refl);
      chain = chain_push within s op.chain;
    }

-- ---- a step from a node

pub record HasEntered (places more : List Place) (a new : ArenaData) (slot : ℕ) (p : Place) : Type 0 where
  pub placed : place_at more slot ≡ p
  pub there : is_gone new.gone slot ≡ false
  pub kept : (i : ℕ) → is_gone a.gone i ≡ false → (is_gone new.gone i ≡ false) × (place_at more i ≡ place_at places i)
  pub size : length new.spots ≤ length a.spots + 1

pub record Entered (places : List Place) (a new : ArenaData) (es : List EventData) (l : LabelsData) (us : List Deed) (slot : ℕ) (p : Place) : Type 0 where
  pub more : List Place
  pub tied : IsTied more new es l us
  pub has : HasEntered places more a new slot p

pub tied_enter : (places : List Place) (a : ArenaData) (es : List EventData) (l : LabelsData) (us : List Deed) (at : ℕ) (s : Step) (act : ActData) (o : Option ℕ)
    → IsTied places a es l us → is_gone a.gone at ≡ false → begins act ≡ true → NoLabel act → child_of a at s ≡ o
    → Entered places a (entered_at a at s o) (es ++ event (slot_at a o) act ∷ []) l (us ++ deed (s ∷ place_at places at) act ∷ []) (slot_at a o) (s ∷ place_at places at)
tied_enter places a es l us at s act None t g b unlabelled e = record {
  more = places ++ (s ∷ place_at places at) ∷ [];
  tied = tied_add places a es l us at s act t g e b unlabelled;
  has = record {
    placed = get_or_push places (s ∷ place_at places at) [] (length a.spots) t.shape.sized;
    there = get_or_push a.gone false true (length a.spots) t.sound.gone;
    kept = λ i h.
        let w : i < length a.gone = there_within a.gone i h in
        let v : i < length places = subst (λ m. i < m) (t.sound.gone ∙ sym t.shape.sized) w in
        (get_or_append_left a.gone (false ∷ []) true i w ∙ h, get_or_append_left places ((s ∷ place_at places at) ∷ []) [] i v);
    size = let len : length (a.spots ++ spot s at ∷ []) ≡ length a.spots + 1 = length_push a.spots (spot s at) in omega arith;
  };
}
tied_enter places a es l us at s act (Some j) t g b unlabelled e =
    let w : at < length a.spots = subst (λ m. at < m) t.sound.gone (there_within a.gone at g) in
    let c = child_stands a places t.shape t.sound at j s w e in
    record {
      more = places;
      tied = subst (λ p. IsTied places a (es ++ event j act ∷ []) l (us ++ deed p act ∷ [])) c.1 (tied_note places a es l us j act t c.0 unlabelled);
      has = record { placed = c.1; there = c.0; kept = λ i h. (h, refl); size = omega arith };
    }

-- ---- references

trim_stacks : (gone : List Bool) (l : LabelsData) (o p : Option ℕ) → ((n : ℕ) → o ≡ Some n → n < length l.stacks)
    → (alive_in gone (stack_at (trimmed_at gone l o) p) ≡ alive_in gone (stack_at l p))
trim_stacks gone l None p low = refl
trim_stacks gone l (Some n) None low = refl
trim_stacks gone l (Some n) (Some m) low = elim (cases_eq m n) [
  | inl e ↦
      subst (λ x. alive_in gone (get_or (Rattle.std.proofs.Common.set l.stacks n (Rattle.dts_tree.specs.Inner.Machine.trimmed gone (get_or l.stacks n []))) x []) ≡ alive_in gone (get_or l.stacks x [])) (sym e)
      (ap (alive_in gone) (Rattle.std.proofs.lemmas.List.get_or-set_same l.stacks n (Rattle.dts_tree.specs.Inner.Machine.trimmed gone (get_or l.stacks n [])) [] (low n refl))
      ∙ alive_trimmed gone (get_or l.stacks n []))
  | inr d ↦ ap (alive_in gone) (Rattle.std.proofs.lemmas.List.get_or-set_other l.stacks n m (Rattle.dts_tree.specs.Inner.Machine.trimmed gone (get_or l.stacks n [])) [] d)
]

trim_bound : (gone : List Bool) (l : LabelsData) (o p : Option ℕ) (f : ℕ → Bool) → ((n : ℕ) → o ≡ Some n → n < length l.stacks)
    → ((q : Option ℕ) → (q ≡ p) ⊎ (q ≡ o) → list_all f (stack_at l q) ≡ true) → list_all f (stack_at (trimmed_at gone l o) p) ≡ true
trim_bound gone l None p f low h = h p (inl refl)
trim_bound gone l (Some n) None f low h = refl
trim_bound gone l (Some n) (Some m) f low h = elim (cases_eq m n) [
  | inl e ↦
      subst (λ x. list_all f (get_or (Rattle.std.proofs.Common.set l.stacks n (Rattle.dts_tree.specs.Inner.Machine.trimmed gone (get_or l.stacks n []))) x []) ≡ true) (sym e)
      (subst (λ xs. list_all f xs ≡ true) (sym (Rattle.std.proofs.lemmas.List.get_or-set_same l.stacks n (Rattle.dts_tree.specs.Inner.Machine.trimmed gone (get_or l.stacks n [])) [] (low n refl)))
      (all_trimmed gone f (get_or l.stacks n []) (h (Some n) (inr refl))))
  | inr d ↦ subst (λ xs. list_all f xs ≡ true) (sym (Rattle.std.proofs.lemmas.List.get_or-set_other l.stacks n m (Rattle.dts_tree.specs.Inner.Machine.trimmed gone (get_or l.stacks n [])) [] d)) (h (Some m) (inl refl))
]

trim_numbers : (gone : List Bool) (l : LabelsData) (o : Option ℕ) → ((trimmed_at gone l o).numbers ≡ l.numbers) × (length (trimmed_at gone l o).stacks ≡ length l.stacks)
trim_numbers gone l None = (refl, refl)
trim_numbers gone l (Some n) = (refl, Rattle.std.proofs.lemmas.List.length-set l.stacks n (Rattle.dts_tree.specs.Inner.Machine.trimmed gone (get_or l.stacks n [])))

tied_trim : (places : List Place) (a : ArenaData) (es : List EventData) (l : LabelsData) (us : List Deed) (k : List ℕ)
    → IsTied places a es l us → IsTied places a es (labels_after a.gone l k) us
tied_trim places a es l us k t =
    let o : Option ℕ = Rattle.dts_tree.specs.Inner.Arena.named k l.numbers in
    let low : (n : ℕ) → o ≡ Some n → n < length l.stacks = λ n h. t.numbered.low k n h in
    let same = trim_numbers a.gone l o in
    let at_name : (q : List ℕ) → stack_of (labels_after a.gone l k) q ≡ stack_at (trimmed_at a.gone l o) (Rattle.dts_tree.specs.Inner.Arena.named q l.numbers) = λ q.
    ap (λ ns. stack_at (trimmed_at a.gone l o) (Rattle.dts_tree.specs.Inner.Arena.named q ns)) same.0 in
    record {
      shape = t.shape;
      sound = t.sound;
      slots = t.slots;
      events = t.events;
      bound = t.bound;
      labels = λ q. ap (λ xs. map (place_at places) (alive_in a.gone xs)) (at_name q)
          ∙ (ap (map (place_at places)) (trim_stacks a.gone l o (Rattle.dts_tree.specs.Inner.Arena.named q l.numbers) low) ∙ t.labels q);
      stacked = λ q. subst (λ xs. list_all (Rattle.dts_tree.proofs.Tying.slot_below (length a.spots)) xs ≡ true) (sym (at_name q))
          (trim_bound a.gone l o (Rattle.dts_tree.specs.Inner.Arena.named q l.numbers) (Rattle.dts_tree.proofs.Tying.slot_below (length a.spots)) low
          (λ p h. elim h [
            | inl e ↦ subst (λ x. list_all (Rattle.dts_tree.proofs.Tying.slot_below (length a.spots)) (stack_at l x) ≡ true) (sym e) (t.stacked q)
            | inr e ↦ subst (λ x. list_all (Rattle.dts_tree.proofs.Tying.slot_below (length a.spots)) (stack_at l x) ≡ true) (sym e) (t.stacked k)
          ]));
      numbered = record {
        low = λ q n h. subst (λ m. n < m) (sym same.1) (t.numbered.low q n (subst (λ ns. Rattle.dts_tree.specs.Inner.Arena.named q ns ≡ Some n) same.0 h));
        one = λ q m n g h. t.numbered.one q m n (subst (λ ns. Rattle.dts_tree.specs.Inner.Arena.named q ns ≡ Some n) same.0 g) (subst (λ ns. Rattle.dts_tree.specs.Inner.Arena.named m ns ≡ Some n) same.0 h);
      };
    }

abbrev if_there : Bool → Place → Option Place
if_there b p = cond b (Some p) None

-- a slot that is found and the place that is named
abbrev pub Names : List Place → ArenaData → Option ℕ → Option Place → Type 0
Names places a None None = Unit {0}
Names places a None (Some p) = ⊥
Names places a (Some i) None = ⊥
Names places a (Some i) (Some p) = (is_gone a.gone i ≡ false) × (place_at places i ≡ p)

names_last : (places : List Place) (a : ArenaData) (o : Option ℕ) → ((i : ℕ) → o ≡ Some i → is_gone a.gone i ≡ false) → Names places a o (option_map (place_at places) o)
names_last places a None h = tt
names_last places a (Some i) h = (h i refl, refl)

-- the walk down a path: the slot that it came to stands for the place, or none does
abbrev IsDown : List Place → ArenaData → List Deed → Option ℕ → Place → Type 0
IsDown places a us None p = is_there us p ≡ false
IsDown places a us (Some i) p = (is_gone a.gone i ≡ false) × (place_at places i ≡ p)

none_below : (places : List Place) (a : ArenaData) (es : List EventData) (l : LabelsData) (us : List Deed) (p : Place) (s : Step) → IsTied places a es l us
    → is_there us p ≡ false → is_there us (s ∷ p) ≡ false
none_below places a es l us p s t h = false_from_ne_true (is_there us (s ∷ p)) (λ e.
    let r = there_slot places a es l us t (s ∷ p) e in
    let i : ℕ = r.0 in
    let w : i < length a.spots = subst (λ m. i < m) t.sound.gone (there_within a.gone i r.1) in
    elim (cases_eq i 0) [
      | inl z ↦
          let bad : [] ≡ s ∷ p = sym t.shape.root ∙ (ap (place_at places) (sym z) ∙ r.2) in
          absurd (cc)
      | inr n ↦
          let q : 0 < i = omega arith in
          let both : step_at a.spots i ∷ place_at places (parent_at a.spots i) ≡ s ∷ p = sym (t.shape.steps i q w) ∙ r.2 in
          let up : place_at places (parent_at a.spots i) ≡ p = cc in
          true≢false (sym (subst (λ x. is_there us x ≡ true) up (slot_there places a es l us t (parent_at a.spots i) (t.sound.parents i q r.1))) ∙ h)
    ])

step_down : (places : List Place) (a : ArenaData) (es : List EventData) (l : LabelsData) (us : List Deed) (i : ℕ) (p : Place) (s : Step) (o : Option ℕ)
    → IsTied places a es l us → is_gone a.gone i ≡ false → place_at places i ≡ p → child_of a i s ≡ o → IsDown places a us o (s ∷ p)
step_down places a es l us i p s None t g e h = subst (λ q. is_there us (s ∷ q) ≡ false) e (none_there places a es l us t i s g h)
step_down places a es l us i p s (Some j) t g e h =
    let w : i < length a.spots = subst (λ m. i < m) t.sound.gone (there_within a.gone i g) in
    let c = child_stands a places t.shape t.sound i j s w h in
    (c.0, c.1 ∙ ap (λ q. s ∷ q) e)

down_one : (places : List Place) (a : ArenaData) (es : List EventData) (l : LabelsData) (us : List Deed) (o : Option ℕ) (p : Place) (name : List ℕ) → IsTied places a es l us
    → IsDown places a us o p → IsDown places a us (down a o name) (one_below p name)
down_one places a es l us o p [] t h = h
down_one places a es l us None p (c ∷ cs) t h = none_below places a es l us p (Child (c ∷ cs)) t h
down_one places a es l us (Some i) p (c ∷ cs) t h = step_down places a es l us i p (Child (c ∷ cs)) (child_of a i (Child (c ∷ cs))) t h.0 h.1 refl

down_all : (places : List Place) (a : ArenaData) (es : List EventData) (l : LabelsData) (us : List Deed) (names : List (List ℕ)) (o : Option ℕ) (p : Place) → IsTied places a es l us
    → IsDown places a us o p → IsDown places a us (fold (down a) o names) (fold one_below p names)
down_all places a es l us [] o p t h = h
down_all places a es l us (n ∷ ns) o p t h = down_all places a es l us ns (down a o n) (one_below p n) t (down_one places a es l us o p n t h)

names_down : (places : List Place) (a : ArenaData) (es : List EventData) (l : LabelsData) (us : List Deed) (o : Option ℕ) (p : Place) → IsTied places a es l us
    → IsDown places a us o p → Names places a o (if_there (is_there us p) p)
names_down places a es l us None p t h = subst (λ b. Names places a None (if_there b p)) (sym h) tt
names_down places a es l us (Some i) p t h =
    let there : is_there us p ≡ true = subst (λ q. is_there us q ≡ true) h.1 (slot_there places a es l us t i h.0) in
    subst (λ b. Names places a (Some i) (if_there b p)) (sym there) h

-- a reference's slot is that of the node that it names
pub named_is : (places : List Place) (r : ReaderData) (us : List Deed) (x : Target) → IsTied places r.arena r.events r.labels us
    → Names places r.arena (named_slot r x) (node_of us x)
named_is places r us target.Root t = (t.sound.root, t.shape.root)
named_is places r us (target.Child n) t = tt
named_is places r us (target.ByLabel k) t =
    let xs : List ℕ = alive_in r.arena.gone (stack_of r.labels k) in
    let e : option_map (place_at places) (last_of xs) ≡ last_of (labelled us k) = sym (last_of_map (place_at places) xs) ∙ ap last_of (t.labels k) in
    subst (λ o. Names places r.arena (last_of xs) o) e
    (names_last places r.arena (last_of xs) (λ i h. alive_false r.arena.gone i (member_of_filter (is_alive r.arena.gone) (stack_of r.labels k) i (last_member xs i h)).1))
named_is places r us (target.ByPath text) t =
    names_down places r.arena r.events r.labels us (at_path r.arena text) (place_of text) t
    (down_all places r.arena r.events r.labels us (slice_split (λ b. nat_eq b 47) text) (Some 0) [] t (t.sound.root, t.shape.root))

-- looking it up keeps all
pub looked_up_tied : (places : List Place) (r : ReaderData) (us : List Deed) (x : Target) → IsTied places r.arena r.events r.labels us
    → IsTied places (looked_up r x).arena (looked_up r x).events (looked_up r x).labels us
looked_up_tied places r us target.Root t = t
looked_up_tied places r us (target.Child n) t = t
looked_up_tied places r us (target.ByLabel k) t = tied_trim places r.arena r.events r.labels us k t
looked_up_tied places r us (target.ByPath text) t = t

pub looked_up_arena : (r : ReaderData) (x : Target) → ((looked_up r x).arena ≡ r.arena) × ((looked_up r x).within ≡ r.within) × ((looked_up r x).events ≡ r.events)
looked_up_arena r target.Root = (refl, refl, refl)
looked_up_arena r (target.Child n) = (refl, refl, refl)
looked_up_arena r (target.ByLabel k) = (refl, refl, refl)
looked_up_arena r (target.ByPath text) = (refl, refl, refl)
