-- Statements that are carried out one after another follow the definitions.
use Rattle.std.proofs.Common.{◌≡◌, ◌∙◌, ◌+◌, ◌<◌, ◌≤◌, ◌++◌, ◌∷◌, [], ℕ, zero, suc, Bool, true, false, not, cond, List, Option, Some, None, Result, Ok, Err, length, refl, sym, ap, subst, arith, eqb}
use Rattle.std.specs.Prelude.{unwrap_or}
use Rattle.std.specs.List.{filter}
use Rattle.std.proofs.lemmas.Bool.{true≢false, not_from_false, eqb-true, eqb-false, false_from_ne_true}
use Rattle.std.proofs.lemmas.List.{length_push}
use Rattle.std.proofs.lemmas.Option.{none-some}
use Rattle.dts_parse.specs.StmtData.{ActData, StmtData, Open, Close, Label, Assign, DelProp, DelNode, Omit}
use Rattle.dts_parse.specs.declared.script.Target.{Target}
use Rattle.dts_parse.specs.declared.script.Target.TheVariants as target
use Rattle.dts_tree.specs.declared.spot.Step.{Step}
use Rattle.dts_tree.specs.declared.spot.Step.TheVariants.{Child, Prop}
use Rattle.dts_tree.specs.Places.{Place, is_within}
use Rattle.dts_tree.specs.Deeds.{Deed, deed, deletes, uncovered}
use Rattle.dts_tree.specs.Live.{begins, is_there, node_of}
use Rattle.dts_tree.specs.Reading.{Before, live, here, closed, done, done_if_there, done_at, opening, naming, after, read_on, read_all, Unnamed}
use Rattle.dts_tree.specs.Inner.Arena.{ArenaData, is_gone, is_alive, child_of, removed, root_arena, entered, entered_slot, last_slot}
use Rattle.dts_tree.specs.Inner.Machine.{EventData, event, LabelsData, ReaderData, no_labels, named_slot, looked_up, here_slot, noted, entering, opened, opened_at, opening_slot, without, without_child, without_at, deleting_slot, noted_child, noted_at, marking_slot, labelling, carried, carried_on, carried_all}
use Rattle.dts_tree.proofs.Lists.{Member, all_at, all_from, member_in_map}
use Rattle.dts_tree.proofs.PlaceLaws.{within_longer, within_more}
use Rattle.dts_tree.proofs.DeedLaws.{outside, uncovered_done, uncovered_deleted}
use Rattle.dts_tree.proofs.Shape.{IsShaped, IsSound, place_at, there_within, child_stands}
use Rattle.dts_tree.proofs.Sweeping.{swept, alive_after}
use Rattle.dts_tree.proofs.Tying.{IsTied, NoLabel, slot_there, none_there, tied_note, tied_label, tied_remove}
use Rattle.dts_tree.proofs.Carrying.{IsOpen, IsStanding, here_is, chain_short, open_none, open_one, open_closed, open_kept, open_push, Entered, tied_enter, Names, named_is, looked_up_tied, looked_up_arena}

abbrev pub Follows : Result ReaderData ℕ → Result Before ℕ → Type 0
Follows (Ok r) (Ok b) = IsStanding r b
Follows (Ok r) (Err y) = ⊥
Follows (Err x) (Ok b) = ⊥
Follows (Err x) (Err y) = x ≡ y

-- ---- opening a child and writing a property

entered_tied : (r : ReaderData) (b : Before) (s : IsStanding r b) (st : Step) (act : ActData) → begins act ≡ true → deletes act ≡ false → NoLabel act
    → Entered s.places r.arena (entered r.arena (here_slot r) st) (r.events ++ event (entered_slot r.arena (here_slot r) st) act ∷ []) r.labels
    (uncovered (b.deeds ++ deed (st ∷ here b) act ∷ [])) (entered_slot r.arena (here_slot r) st) (st ∷ here b)
entered_tied r b s st act g d unlabelled =
    let h = here_is r b s in
    let e = tied_enter s.places r.arena r.events r.labels (live b) (here_slot r) st act (child_of r.arena (here_slot r) st) s.tied h.1 g unlabelled refl in
    let f = subst (λ p. Entered s.places r.arena (entered r.arena (here_slot r) st) (r.events ++ event (entered_slot r.arena (here_slot r) st) act ∷ []) r.labels
    (live b ++ deed (st ∷ p) act ∷ []) (entered_slot r.arena (here_slot r) st) (st ∷ p)) h.0 e in
    subst (λ us. Entered s.places r.arena (entered r.arena (here_slot r) st) (r.events ++ event (entered_slot r.arena (here_slot r) st) act ∷ []) r.labels
    us (entered_slot r.arena (here_slot r) st) (st ∷ here b)) (sym (uncovered_done b.deeds (deed (st ∷ here b) act) d)) f

one_more : (b : Before) (p : Place) (act : ActData) → length (b.deeds ++ deed p act ∷ []) ≡ length b.deeds + 1
one_more b p act = length_push b.deeds (deed p act)

pub entering_stands : (r : ReaderData) (b : Before) → IsStanding r b → (st : Step) (act : ActData) → begins act ≡ true → deletes act ≡ false → NoLabel act
    → IsStanding (entering r st act) (done b (st ∷ here b) act)
entering_stands r b s st act g d unlabelled =
    let e = entered_tied r b s st act g d unlabelled in
    let n : length (b.deeds ++ deed (st ∷ here b) act ∷ []) ≡ length b.deeds + 1 = one_more b (st ∷ here b) act in
    let v : length r.arena.spots ≤ suc (length b.deeds) = s.levels in
    let z : length (entered r.arena (here_slot r) st).spots ≤ length r.arena.spots + 1 = e.has.size in
    record {
      places = e.more;
      tied = e.tied;
      opens = open_kept s.places e.more r.arena (entered r.arena (here_slot r) st) r.within b.within e.has.kept s.opens;
      levels = omega arith;
    }

pub opened_stands : (r : ReaderData) (b : Before) → IsStanding r b → (n : List ℕ) (act : ActData) → begins act ≡ true → deletes act ≡ false → NoLabel act
    → IsStanding (opened r n act) (record { deeds = b.deeds ++ deed (Child n ∷ here b) act ∷ []; within = b.within ++ (Child n ∷ here b) ∷ [] })
opened_stands r b s n act g d unlabelled =
    let e = entered_tied r b s (Child n) act g d unlabelled in
    let m : length (b.deeds ++ deed (Child n ∷ here b) act ∷ []) ≡ length b.deeds + 1 = one_more b (Child n ∷ here b) act in
    let v : length r.arena.spots ≤ suc (length b.deeds) = s.levels in
    let z : length (entered r.arena (here_slot r) (Child n)).spots ≤ length r.arena.spots + 1 = e.has.size in
    record {
      places = e.more;
      tied = e.tied;
      opens = open_push s.places e.more r.arena (entered r.arena (here_slot r) (Child n)) r.within b.within (Child n)
          (entered_slot r.arena (here_slot r) (Child n)) e.has.kept s.opens e.has.placed e.has.there;
      levels = omega arith;
    }

-- ---- a statement more at a node that is there

note_tied : (places : List Place) (a : ArenaData) (es : List EventData) (l : LabelsData) (ds : List Deed) (slot : ℕ) (p : Place) (act : ActData)
    → IsTied places a es l (uncovered ds) → is_gone a.gone slot ≡ false → place_at places slot ≡ p → deletes act ≡ false → NoLabel act
    → IsTied places a (es ++ event slot act ∷ []) l (uncovered (ds ++ deed p act ∷ []))
note_tied places a es l ds slot p act t g e d unlabelled =
    subst (λ us. IsTied places a (es ++ event slot act ∷ []) l us) (sym (uncovered_done ds (deed p act) d))
    (subst (λ q. IsTied places a (es ++ event slot act ∷ []) l (uncovered ds ++ deed q act ∷ [])) e (tied_note places a es l (uncovered ds) slot act t g unlabelled))

pub labelling_stands : (r : ReaderData) (b : Before) → IsStanding r b → (k : List ℕ) → IsStanding (labelling r k (Label k)) (done b (here b) (Label k))
labelling_stands r b s k =
    let h = here_is r b s in
    let n : length (b.deeds ++ deed (here b) (Label k) ∷ []) ≡ length b.deeds + 1 = one_more b (here b) (Label k) in
    let v : length r.arena.spots ≤ suc (length b.deeds) = s.levels in
    record {
      places = s.places;
      tied = subst (λ us. IsTied s.places r.arena (r.events ++ event (here_slot r) (Label k) ∷ []) (Rattle.dts_tree.specs.Inner.Machine.with_label r.labels k (here_slot r)) us)
          (sym (uncovered_done b.deeds (deed (here b) (Label k)) refl))
          (subst (λ p. IsTied s.places r.arena (r.events ++ event (here_slot r) (Label k) ∷ []) (Rattle.dts_tree.specs.Inner.Machine.with_label r.labels k (here_slot r))
          (live b ++ deed p (Label k) ∷ [])) h.0 (tied_label s.places r.arena r.events r.labels (live b) (here_slot r) k s.tied h.1));
      opens = s.opens;
      levels = omega arith;
    }

-- ---- what isn't there can't be deleted or marked

skipped : (b : Before) (p : Place) (act : ActData) → is_there (live b) p ≡ false → b ≡ done_if_there b p act
skipped b p act h = ap (λ t. cond t (done b p act) b) (sym h)

taken : (b : Before) (p : Place) (act : ActData) → is_there (live b) p ≡ true → done b p act ≡ done_if_there b p act
taken b p act h = ap (λ t. cond t (done b p act) b) (sym h)

not_there : (r : ReaderData) (b : Before) (s : IsStanding r b) (st : Step) → child_of r.arena (here_slot r) st ≡ None → is_there (live b) (st ∷ here b) ≡ false
not_there r b s st e =
    let h = here_is r b s in
    subst (λ p. is_there (live b) (st ∷ p) ≡ false) h.0 (none_there s.places r.arena r.events r.labels (live b) s.tied (here_slot r) st h.1 e)

child_there : (r : ReaderData) (b : Before) (s : IsStanding r b) (st : Step) (j : ℕ) → child_of r.arena (here_slot r) st ≡ Some j
    → (is_gone r.arena.gone j ≡ false) × (place_at s.places j ≡ st ∷ here b) × (0 < j) × (is_there (live b) (st ∷ here b) ≡ true)
child_there r b s st j e =
    let h = here_is r b s in
    let w : here_slot r < length r.arena.spots = subst (λ m. here_slot r < m) s.tied.sound.gone (there_within r.arena.gone (here_slot r) h.1) in
    let c = child_stands r.arena s.places s.tied.shape s.tied.sound (here_slot r) j st w e in
    let p : place_at s.places j ≡ st ∷ here b = c.1 ∙ ap (λ q. st ∷ q) h.0 in
    (c.0, p, c.2, subst (λ q. is_there (live b) q ≡ true) p (slot_there s.places r.arena r.events r.labels (live b) s.tied j c.0))

-- ---- taking away

remove_tied : (places : List Place) (a : ArenaData) (es : List EventData) (l : LabelsData) (ds : List Deed) (slot : ℕ) (p : Place) (act : ActData)
    → IsTied places a es l (uncovered ds) → is_gone a.gone slot ≡ false → 0 < slot → place_at places slot ≡ p → deletes act ≡ true
    → IsTied places (removed a slot) es l (uncovered (ds ++ deed p act ∷ []))
remove_tied places a es l ds slot p act t g q e d =
    subst (λ us. IsTied places (removed a slot) es l us) (sym (uncovered_deleted ds (deed p act) d))
    (subst (λ x. IsTied places (removed a slot) es l (filter (outside x) (uncovered ds))) e (tied_remove places a es l (uncovered ds) slot t q g))

removed_len : (places : List Place) (a : ArenaData) (slot : ℕ) → IsShaped a.spots places → IsSound a → 0 < slot → is_gone a.gone slot ≡ false
    → length (removed a slot).spots ≡ length a.spots
removed_len places a slot shape sound q g = ap length (swept places a slot shape sound q g).spots

open_stays : (places : List Place) (a : ArenaData) (slots : List ℕ) (within : List Place) (slot : ℕ) (st : Step) → IsShaped a.spots places → IsSound a
    → IsOpen places a slots within → 0 < slot → is_gone a.gone slot ≡ false → place_at places slot ≡ st ∷ unwrap_or (last_slot within) []
    → IsOpen places (removed a slot) slots within
open_stays places a slots within slot st shape sound op q g e = record {
  same = op.same;
  open_slots = all_from (is_alive (removed a slot).gone) slots (λ i m.
      let alive : is_alive a.gone i ≡ true = all_at (is_alive a.gone) slots i op.open_slots m in
      let in' : Member (place_at places i) within = subst (λ xs. Member (place_at places i) xs) op.same (member_in_map (place_at places) slots i m) in
      let short : length (place_at places i) ≤ length (unwrap_or (last_slot within) []) = chain_short within op.chain (place_at places i) in' in
      let long : length (place_at places slot) ≡ suc (length (unwrap_or (last_slot within) [])) = ap length e in
      let out : is_within (place_at places slot) (place_at places i) ≡ false =
      false_from_ne_true (is_within (place_at places slot) (place_at places i)) (λ w. absurd (omega (arith, within_longer (place_at places slot) (place_at places i) w))) in
      alive_after places a slot shape sound q g i
      ∙ Rattle.dts_tree.proofs.Lists.and_both (is_alive a.gone i) (not (is_within (place_at places slot) (place_at places i))) alive (not_from_false (is_within (place_at places slot) (place_at places i)) out));
  chain = op.chain;
}

without_child_stands : (r : ReaderData) (b : Before) (s : IsStanding r b) (st : Step) (act : ActData) (o : Option ℕ) → deletes act ≡ true
    → child_of r.arena (here_slot r) st ≡ o → IsStanding (without_child r o) (done_if_there b (st ∷ here b) act)
without_child_stands r b s st act None d e = subst (λ x. IsStanding r x) (skipped b (st ∷ here b) act (not_there r b s st e)) s
without_child_stands r b s st act (Some j) d e =
    let c = child_there r b s st j e in
    let n : length (b.deeds ++ deed (st ∷ here b) act ∷ []) ≡ length b.deeds + 1 = one_more b (st ∷ here b) act in
    let v : length r.arena.spots ≤ suc (length b.deeds) = s.levels in
    let z : length (removed r.arena j).spots ≡ length r.arena.spots = removed_len s.places r.arena j s.tied.shape s.tied.sound c.2 c.0 in
    let stands : IsStanding (without_child r (Some j)) (done b (st ∷ here b) act) = record {
      places = s.places;
      tied = remove_tied s.places r.arena r.events r.labels b.deeds j (st ∷ here b) act s.tied c.0 c.2 c.1 d;
      opens = open_stays s.places r.arena r.within b.within j st s.tied.shape s.tied.sound s.opens c.2 c.0 c.1;
      levels = omega arith;
    } in
    subst (λ x. IsStanding (without_child r (Some j)) x) (taken b (st ∷ here b) act c.3) stands

noted_child_stands : (r : ReaderData) (b : Before) (s : IsStanding r b) (st : Step) (act : ActData) (o : Option ℕ) → deletes act ≡ false → NoLabel act
    → child_of r.arena (here_slot r) st ≡ o → IsStanding (noted_child r o act) (done_if_there b (st ∷ here b) act)
noted_child_stands r b s st act None d unlabelled e = subst (λ x. IsStanding r x) (skipped b (st ∷ here b) act (not_there r b s st e)) s
noted_child_stands r b s st act (Some j) d unlabelled e =
    let c = child_there r b s st j e in
    let n : length (b.deeds ++ deed (st ∷ here b) act ∷ []) ≡ length b.deeds + 1 = one_more b (st ∷ here b) act in
    let v : length r.arena.spots ≤ suc (length b.deeds) = s.levels in
    let stands : IsStanding (noted_child r (Some j) act) (done b (st ∷ here b) act) = record {
      places = s.places;
      tied = note_tied s.places r.arena r.events r.labels b.deeds j (st ∷ here b) act s.tied c.0 c.1 d unlabelled;
      opens = s.opens;
      levels = omega arith;
    } in
    subst (λ x. IsStanding (noted_child r (Some j) act) x) (taken b (st ∷ here b) act c.3) stands

-- ---- references

-- what stands after a look-up
record IsLooked (r left : ReaderData) (b : Before) (x : Target) : Type 0 where
  places : List Place
  tied : IsTied places left.arena left.events left.labels (live b)
  levels : length left.arena.spots ≤ suc (length b.deeds)
  names : Names places left.arena (named_slot r x) (node_of (live b) x)

looked : (r : ReaderData) (b : Before) (s : IsStanding r b) (x : Target) → IsLooked r (looked_up r x) b x
looked r b s x =
    let same = looked_up_arena r x in
    record {
      places = s.places;
      tied = looked_up_tied s.places r (live b) x s.tied;
      levels = subst (λ a. length a.spots ≤ suc (length b.deeds)) (sym same.0) s.levels;
      names = subst (λ a. Names s.places a (named_slot r x) (node_of (live b) x)) (sym same.0) (named_is s.places r (live b) x s.tied);
    }

opened_at_stands : (r left : ReaderData) (b : Before) (x : Target) (k : IsLooked r left b x) (at : ℕ) (act : ActData) (o : Option ℕ) (p : Option Place) → Names k.places left.arena o p
    → deletes act ≡ false → NoLabel act → Follows (opened_at r at left o act) (done_at b at act p (λ q. q ∷ []))
opened_at_stands r left b x k at act None None n d unlabelled = refl
opened_at_stands r left b x k at act None (Some q) n d unlabelled = n
opened_at_stands r left b x k at act (Some i) None n d unlabelled = n
opened_at_stands r left b x k at act (Some i) (Some q) n d unlabelled =
    let m : length (b.deeds ++ deed q act ∷ []) ≡ length b.deeds + 1 = one_more b q act in
    let v : length left.arena.spots ≤ suc (length b.deeds) = k.levels in
    record {
      places = k.places;
      tied = note_tied k.places left.arena left.events left.labels b.deeds i q act k.tied n.0 n.1 d unlabelled;
      opens = open_one k.places left.arena i q n.1 n.0;
      levels = omega arith;
    }

noted_at_stands : (r left : ReaderData) (b : Before) (x : Target) (k : IsLooked r left b x) (at : ℕ) (act : ActData) (o : Option ℕ) (p : Option Place) → Names k.places left.arena o p
    → deletes act ≡ false → NoLabel act → Follows (noted_at at left o act) (done_at b at act p (λ _. []))
noted_at_stands r left b x k at act None None n d unlabelled = refl
noted_at_stands r left b x k at act None (Some q) n d unlabelled = n
noted_at_stands r left b x k at act (Some i) None n d unlabelled = n
noted_at_stands r left b x k at act (Some i) (Some q) n d unlabelled =
    let m : length (b.deeds ++ deed q act ∷ []) ≡ length b.deeds + 1 = one_more b q act in
    let v : length left.arena.spots ≤ suc (length b.deeds) = k.levels in
    record {
      places = k.places;
      tied = note_tied k.places left.arena left.events left.labels b.deeds i q act k.tied n.0 n.1 d unlabelled;
      opens = open_none k.places left.arena;
      levels = omega arith;
    }

root_covers : (q : Place) → is_within [] q ≡ true
root_covers [] = refl
root_covers (s ∷ q) = within_more [] s q (root_covers q)

none_outside : (us : List Deed) → filter (outside []) us ≡ []
none_outside [] = refl
none_outside (d ∷ us) = ap (λ b. cond (not b) (d ∷ filter (outside []) us) (filter (outside []) us)) (root_covers d.at) ∙ none_outside us

root_shaped : IsShaped root_arena.spots ([] ∷ [])
root_shaped = record {
  some = omega arith;
  sized = refl;
  root = refl;
  parents = λ i p l. absurd (omega arith);
  steps = λ i p l. absurd (omega arith);
}

root_only : (i : ℕ) → 0 < i → is_gone root_arena.gone i ≡ false → ⊥
root_only zero p h = omega arith
root_only (suc i) p h = true≢false h

root_below : (i c : ℕ) → Member c (Rattle.dts_tree.proofs.Shape.below_at root_arena i) → ⊥
root_below zero c m = m
root_below (suc i) c m = m

no_lead : (t : Step) (j : ℕ) → Rattle.dts_tree.specs.Inner.Arena.lead_of Rattle.dts_tree.specs.Inner.Arena.no_leads t ≡ Some j → ⊥
no_lead (Child n) j h = none-some j h
no_lead (Prop n) j h = none-some j h

root_leads : (i j : ℕ) (t : Step) → Rattle.dts_tree.proofs.Shape.lead_at root_arena i t ≡ Some j → ⊥
root_leads zero j t h = no_lead t j h
root_leads (suc i) j t h = no_lead t j h

root_sound : IsSound root_arena
root_sound = record {
  gone = refl;
  below = refl;
  leads = refl;
  root = refl;
  parents = λ i p h. absurd (root_only i p h);
  listed = λ i p h. absurd (root_only i p h);
  lists = λ i c m. absurd (root_below i c m);
  led = λ i p h. absurd (root_only i p h);
  leads_right = λ i j t h. absurd (root_leads i j t h);
}

pub root_tied : IsTied ([] ∷ []) root_arena [] no_labels []
root_tied = record {
  shape = root_shaped;
  sound = root_sound;
  slots = refl;
  events = refl;
  bound = refl;
  labels = λ k. refl;
  stacked = λ k. refl;
  numbered = record { low = λ k n h. absurd (none-some n h); one = λ k m n g h. absurd (none-some n g) };
}

without_stands : (r : ReaderData) (b : Before) (places : List Place) (slot : ℕ) (q : Place) (act : ActData) (c : Bool) → IsTied places r.arena r.events r.labels (live b)
    → length r.arena.spots ≤ suc (length b.deeds) → is_gone r.arena.gone slot ≡ false → place_at places slot ≡ q → deletes act ≡ true → eqb slot 0 ≡ c
    → IsStanding (cond c (record r { arena = root_arena; events = []; labels = no_labels; within = [] }) (record r { arena = removed r.arena slot; within = [] }))
    (record { deeds = b.deeds ++ deed q act ∷ []; within = [] })
without_stands r b places slot q act true t v g e d z =
    let zero' : slot ≡ 0 = eqb-true slot 0 z in
    let root : q ≡ [] = sym e ∙ (ap (place_at places) zero' ∙ t.shape.root) in
    let none : uncovered (b.deeds ++ deed q act ∷ []) ≡ [] = uncovered_deleted b.deeds (deed q act) d ∙ (ap (λ p. filter (outside p) (live b)) root ∙ none_outside (live b)) in
    record {
      places = [] ∷ [];
      tied = subst (λ us. IsTied ([] ∷ []) root_arena [] no_labels us) (sym none) root_tied;
      opens = open_none ([] ∷ []) root_arena;
      levels = omega arith;
    }
without_stands r b places slot q act false t v g e d z =
    let p : 0 < slot = let n : slot ≡ 0 → ⊥ = eqb-false slot 0 z in omega arith in
    let m : length (b.deeds ++ deed q act ∷ []) ≡ length b.deeds + 1 = one_more b q act in
    let l : length (removed r.arena slot).spots ≡ length r.arena.spots = removed_len places r.arena slot t.shape t.sound p g in
    record {
      places = places;
      tied = remove_tied places r.arena r.events r.labels b.deeds slot q act t g p e d;
      opens = open_none places (removed r.arena slot);
      levels = omega arith;
    }

without_at_stands : (r left : ReaderData) (b : Before) (x : Target) (k : IsLooked r left b x) (at : ℕ) (act : ActData) (o : Option ℕ) (p : Option Place) → Names k.places left.arena o p
    → deletes act ≡ true → Follows (without_at at left o) (done_at b at act p (λ _. []))
without_at_stands r left b x k at act None None n d = refl
without_at_stands r left b x k at act None (Some q) n d = n
without_at_stands r left b x k at act (Some i) None n d = n
without_at_stands r left b x k at act (Some i) (Some q) n d =
    without_stands left b k.places i q act (eqb i 0) k.tied k.levels n.0 n.1 d refl

opened_at_by : (r : ReaderData) (b : Before) (s : IsStanding r b) (x : Target) (at : ℕ) (act : ActData) → deletes act ≡ false → NoLabel act
    → Follows (opened_at r at (looked_up r x) (named_slot r x) act) (done_at b at act (node_of (live b) x) (λ q. q ∷ []))
opened_at_by r b s x at act d u =
    let k : IsLooked r (looked_up r x) b x = looked r b s x in
    opened_at_stands r (looked_up r x) b x k at act (named_slot r x) (node_of (live b) x) k.names d u

noted_at_by : (r : ReaderData) (b : Before) (s : IsStanding r b) (x : Target) (at : ℕ) (act : ActData) → deletes act ≡ false → NoLabel act
    → Follows (noted_at at (looked_up r x) (named_slot r x) act) (done_at b at act (node_of (live b) x) (λ _. []))
noted_at_by r b s x at act d u =
    let k : IsLooked r (looked_up r x) b x = looked r b s x in
    noted_at_stands r (looked_up r x) b x k at act (named_slot r x) (node_of (live b) x) k.names d u

without_at_by : (r : ReaderData) (b : Before) (s : IsStanding r b) (x : Target) (at : ℕ) (act : ActData) → deletes act ≡ true
    → Follows (without_at at (looked_up r x) (named_slot r x)) (done_at b at act (node_of (live b) x) (λ _. []))
without_at_by r b s x at act d =
    let k : IsLooked r (looked_up r x) b x = looked r b s x in
    without_at_stands r (looked_up r x) b x k at act (named_slot r x) (node_of (live b) x) k.names d

-- ---- a statement

opening_follows : (r : ReaderData) (b : Before) (s : IsStanding r b) (at : ℕ) (act : ActData) (x : Target) → begins act ≡ true → deletes act ≡ false → NoLabel act
    → Follows (opening_slot r at act x) (opening b at act x)
opening_follows r b s at act target.Root g d u = opened_at_by r b s target.Root at act d u
opening_follows r b s at act (target.Child n) g d u = opened_stands r b s n act g d u
opening_follows r b s at act (target.ByLabel k) g d u = opened_at_by r b s (target.ByLabel k) at act d u
opening_follows r b s at act (target.ByPath t) g d u = opened_at_by r b s (target.ByPath t) at act d u

deleting_follows : (r : ReaderData) (b : Before) (s : IsStanding r b) (at : ℕ) (act : ActData) (x : Target) → deletes act ≡ true
    → Follows (deleting_slot r at x) (naming b at act x)
deleting_follows r b s at act target.Root d = without_at_by r b s target.Root at act d
deleting_follows r b s at act (target.Child n) d = without_child_stands r b s (Child n) act (child_of r.arena (here_slot r) (Child n)) d refl
deleting_follows r b s at act (target.ByLabel k) d = without_at_by r b s (target.ByLabel k) at act d
deleting_follows r b s at act (target.ByPath t) d = without_at_by r b s (target.ByPath t) at act d

marking_follows : (r : ReaderData) (b : Before) (s : IsStanding r b) (at : ℕ) (act : ActData) (x : Target) → deletes act ≡ false → NoLabel act
    → Follows (marking_slot r at act x) (naming b at act x)
marking_follows r b s at act target.Root d u = noted_at_by r b s target.Root at act d u
marking_follows r b s at act (target.Child n) d u = noted_child_stands r b s (Child n) act (child_of r.arena (here_slot r) (Child n)) d u refl
marking_follows r b s at act (target.ByLabel k) d u = noted_at_by r b s (target.ByLabel k) at act d u
marking_follows r b s at act (target.ByPath t) d u = noted_at_by r b s (target.ByPath t) at act d u

closing_stands : (r : ReaderData) (b : Before) → IsStanding r b → IsStanding (record r { within = Rattle.dts_tree.specs.Inner.Arena.but_last r.within }) (record b { within = closed b.within })
closing_stands r b s = record {
  places = s.places;
  tied = s.tied;
  opens = open_closed s.places r.arena r.within b.within s.opens;
  levels = s.levels;
}

pub carried_follows : (r : ReaderData) (b : Before) → IsStanding r b → (at : ℕ) (act : ActData) → Follows (carried r at act) (after b at act)
carried_follows r b s at (Open t) = opening_follows r b s at (Open t) t refl refl (λ k p. refl)
carried_follows r b s at Close = closing_stands r b s
carried_follows r b s at (Label k) = labelling_stands r b s k
carried_follows r b s at (Assign n v) = entering_stands r b s (Prop n) (Assign n v) refl refl (λ k p. refl)
carried_follows r b s at (DelProp n) = without_child_stands r b s (Prop n) (DelProp n) (child_of r.arena (here_slot r) (Prop n)) refl refl
carried_follows r b s at (DelNode t) = deleting_follows r b s at (DelNode t) t refl
carried_follows r b s at (Omit t) = marking_follows r b s at (Omit t) t refl (λ k p. refl)

follows_on : (x : Result ReaderData ℕ) (y : Result Before ℕ) (rest : List StmtData) → Follows x y
    → ((r : ReaderData) (b : Before) → IsStanding r b → Follows (carried_on r rest) (read_on b rest))
    → Follows (elim x [ Ok next ↦ carried_on next rest | Err at ↦ Err at ]) (elim y [ Ok next ↦ read_on next rest | Err at ↦ Err at ])
follows_on (Ok r) (Ok b) rest f go = go r b f
follows_on (Ok r) (Err y) rest f go = absurd f
follows_on (Err x) (Ok b) rest f go = absurd f
follows_on (Err x) (Err y) rest f go = f

pub carried_on_follows : (stmts : List StmtData) (r : ReaderData) (b : Before) → IsStanding r b → Follows (carried_on r stmts) (read_on b stmts)
carried_on_follows [] r b s = s
carried_on_follows (x ∷ rest) r b s = follows_on (carried r x.at x.act) (after b x.at x.act) rest (carried_follows r b s x.at x.act) (λ q c t. carried_on_follows rest q c t)

-- ---- sources

pub start_stands : IsStanding Rattle.dts_tree.specs.Inner.Machine.reader_start Rattle.dts_tree.specs.Reading.start
start_stands = record {
  places = [] ∷ [];
  tied = root_tied;
  opens = open_none ([] ∷ []) root_arena;
  levels = omega arith;
}

closed_stands : (r : ReaderData) (b : Before) → IsStanding r b → IsStanding (record r { within = [] }) (record b { within = [] })
closed_stands r b s = record {
  places = s.places;
  tied = s.tied;
  opens = open_none s.places r.arena;
  levels = s.levels;
}

abbrev pub FollowsAll : Result ReaderData Unnamed → Result Before Unnamed → Type 0
FollowsAll (Ok r) (Ok b) = IsStanding r b
FollowsAll (Ok r) (Err y) = ⊥
FollowsAll (Err x) (Ok b) = ⊥
FollowsAll (Err x) (Err y) = x ≡ y

follows_source : (x : Result ReaderData ℕ) (y : Result Before ℕ) (first : ℕ) (rest : List (List StmtData)) → Follows x y
    → ((r : ReaderData) (b : Before) → IsStanding r b → FollowsAll (carried_all (first + 1) r rest) (read_all (first + 1) b rest))
    → FollowsAll (elim x [ Ok next ↦ carried_all (first + 1) next rest | Err at ↦ Err (record { source = first; at = at }) ])
    (elim y [ Ok next ↦ read_all (first + 1) next rest | Err at ↦ Err (record { source = first; at = at }) ])
follows_source (Ok r) (Ok b) first rest f go = go r b f
follows_source (Ok r) (Err y) first rest f go = absurd f
follows_source (Err x) (Ok b) first rest f go = absurd f
follows_source (Err x) (Err y) first rest f go = let u : ℕ → Unnamed = λ at. record { source = first; at = at } in ap u f

pub all_follow : (scripts : List (List StmtData)) (first : ℕ) (r : ReaderData) (b : Before) → IsStanding r b → FollowsAll (carried_all first r scripts) (read_all first b scripts)
all_follow [] first r b s = s
all_follow (x ∷ rest) first r b s =
    follows_source (carried_on (record r { within = [] }) x) (read_on (record b { within = [] }) x) first rest
    (carried_on_follows x (record r { within = [] }) (record b { within = [] }) (closed_stands r b s)) (λ q c t. all_follow rest (first + 1) q c t)
