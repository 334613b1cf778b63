-- How the slots stand for the tree of the deeds, and what each deed leaves of it.
use Rattle.std.proofs.Common.{◌≡◌, ◌∙◌, ◌+◌, ◌<◌, ◌++◌, ◌⊎◌, ◌∷◌, [], ℕ, Bool, true, false, not, cond, ◌&&◌, List, Option, Some, None, length, map, get_or, refl, sym, ap, subst, inl, inr, arith, ltb}
use Rattle.std.specs.List.{list_any, list_all, filter, filter_map, range_with_len, cons_option}
use Rattle.std.specs.Map.{lookup}
use Rattle.std.proofs.lemmas.Bool.{true≢false, cases_Bool, lt-ltb, ltb-true, not_from_false, false_from_ne_true, cond-true, cond-false}
use Rattle.std.proofs.lemmas.List.{get_or_append_left, get_or_push, get_or-set_same, get_or-set_other, length-set, length_push, map-append, append-nil}
use Rattle.std.proofs.lemmas.List.Elements.{filter_map-append}
use Rattle.std.proofs.lemmas.Option.{same_Some, none-some}
use Rattle.dts_parse.specs.StmtData.{ActData, Open, Close, Label, Assign, DelProp, DelNode, Omit}
use Rattle.dts_tree.specs.declared.spot.Step.{Step}
use Rattle.dts_tree.specs.Places.{Place, place_eq, is_within}
use Rattle.dts_tree.specs.Deeds.{Deed, deed}
use Rattle.dts_tree.specs.Live.{begins, spots, is_there, labelled, labelled_in}
use Rattle.dts_tree.specs.Inner.Arena.{ArenaData, is_gone, is_alive, child_of, spot, added, removed, named, with_name}
use Rattle.dts_tree.specs.Inner.Machine.{EventData, event, LabelsData, with_label, put_at, alive_in, stack_of, stack_at}
use Rattle.dts_tree.proofs.Lists.{Member, any_find, any_give, all_at, all_from, all_append, not_true, member_of_filter, member_in_filter, member_in_map, member_of_map, member_in_range, member_of_range, range_more, filter_push, filter_drop, filter_shown, filter_alike, kept}
use Rattle.dts_tree.proofs.PlaceLaws.{same_place, place_is, same_bytes, bytes_self}
use Rattle.dts_tree.proofs.NameLaws.{named_same, named_other}
use Rattle.dts_tree.proofs.DeedLaws.{outside, spots_begun, spots_other, spots_kept}
use Rattle.dts_tree.proofs.Shape.{IsShaped, IsSound, place_at, there_within, child_found}
use Rattle.dts_tree.proofs.Adding.{shaped_more, sound_more}
use Rattle.dts_tree.proofs.Sweeping.{alive_after, sound_after, swept}

abbrev pub deed_of : List Place → EventData → Deed
deed_of places e = deed (place_at places e.slot) e.act

abbrev pub slots_of : ArenaData → List ℕ
slots_of a = filter (is_alive a.gone) (range_with_len 0 (length a.spots))

abbrev pub event_alive : List Bool → EventData → Bool
event_alive gone e = is_alive gone e.slot

abbrev pub event_below : ℕ → EventData → Bool
event_below n e = ltb e.slot n

abbrev pub slot_below : ℕ → ℕ → Bool
slot_below n i = ltb i n

-- numbers lead to stacks, and no two labels have one
pub record AreNumbered (l : LabelsData) : Type 0 where
  pub low : (k : List ℕ) (n : ℕ) → named k l.numbers ≡ Some n → n < length l.stacks
  pub one : (k m : List ℕ) (n : ℕ) → named k l.numbers ≡ Some n → named m l.numbers ≡ Some n → k ≡ m

-- the slots, statements and labels stand for these uncovered deeds
pub record IsTied (places : List Place) (a : ArenaData) (es : List EventData) (l : LabelsData) (us : List Deed) : Type 0 where
  pub shape : IsShaped a.spots places
  pub sound : IsSound a
  pub slots : map (place_at places) (slots_of a) ≡ spots us
  pub events : map (deed_of places) (filter (event_alive a.gone) es) ≡ us
  pub bound : list_all (event_below (length a.spots)) es ≡ true
  pub labels : (k : List ℕ) → map (place_at places) (alive_in a.gone (stack_of l k)) ≡ labelled us k
  pub stacked : (k : List ℕ) → list_all (slot_below (length a.spots)) (stack_of l k) ≡ true
  pub numbered : AreNumbered l

pub alive_false : (gone : List Bool) (i : ℕ) → is_alive gone i ≡ true → is_gone gone i ≡ false
alive_false gone i h = not_true (is_gone gone i) h

-- ---- what is there

pub there_slot : (places : List Place) (a : ArenaData) (events : List EventData) (l : LabelsData) (us : List Deed) → IsTied places a events l us
    → (p : Place) → is_there us p ≡ true → (i : ℕ) × (is_gone a.gone i ≡ false) × (place_at places i ≡ p)
there_slot places a events l us t p h =
    let found = any_find (place_eq p) (spots us) h in
    let m : Member found.0 (map (place_at places) (slots_of a)) = subst (λ xs. Member found.0 xs) (sym t.slots) found.1 in
    let r = member_of_map (place_at places) (slots_of a) found.0 m in
    let s = member_of_filter (is_alive a.gone) (range_with_len 0 (length a.spots)) r.0 r.1 in
    (r.0, alive_false a.gone r.0 s.1, r.2 ∙ sym (same_place p found.0 found.2))

pub slot_there : (places : List Place) (a : ArenaData) (events : List EventData) (l : LabelsData) (us : List Deed) → IsTied places a events l us
    → (i : ℕ) → is_gone a.gone i ≡ false → is_there us (place_at places i) ≡ true
slot_there places a events l us t i h =
    let w : i < length a.spots = subst (λ m. i < m) t.sound.gone (there_within a.gone i h) in
    let r : Member i (range_with_len 0 (length a.spots)) = member_in_range i 0 (length a.spots) (omega arith) (omega arith) in
    let s : Member i (slots_of a) = member_in_filter (is_alive a.gone) (range_with_len 0 (length a.spots)) i r (not_from_false (is_gone a.gone i) h) in
    let m : Member (place_at places i) (spots us) = subst (λ xs. Member (place_at places i) xs) t.slots (member_in_map (place_at places) (slots_of a) i s) in
    any_give (place_eq (place_at places i)) (spots us) (place_at places i) m (place_is (place_at places i) (place_at places i) refl)

child_is : (places : List Place) (a : ArenaData) (events : List EventData) (l : LabelsData) (us : List Deed) (o : Option ℕ) → IsTied places a events l us
    → (at : ℕ) (s : Step) → is_gone a.gone at ≡ false → child_of a at s ≡ o → is_there us (s ∷ place_at places at) ≡ true → (i : ℕ) × (o ≡ Some i)
child_is places a events l us o t at s g e h =
    let r = there_slot places a events l us t (s ∷ place_at places at) h in
    (r.0, sym e ∙ child_found a places t.shape t.sound at r.0 s g r.1 r.2)

pub none_there : (places : List Place) (a : ArenaData) (events : List EventData) (l : LabelsData) (us : List Deed) → IsTied places a events l us
    → (at : ℕ) (s : Step) → is_gone a.gone at ≡ false → child_of a at s ≡ None → is_there us (s ∷ place_at places at) ≡ false
none_there places a events l us t at s g e = false_from_ne_true (is_there us (s ∷ place_at places at))
    (λ h. let r = child_is places a events l us None t at s g e h in none-some r.0 r.1)

-- ---- one statement more at a slot that is there

no_more : (us : List Deed) (d : Deed) (k : List ℕ) → labelled_in k d.at d.act ≡ None → labelled (us ++ d ∷ []) k ≡ labelled us k
no_more us d k h =
    filter_map-append (λ (x : Deed). labelled_in k x.at x.act) us (d ∷ [])
    ∙ (ap (λ o. labelled us k ++ cons_option o []) h ∙ append-nil (labelled us k))

abbrev pub NoLabel : ActData → Type 0
NoLabel act = (k : List ℕ) (at : Place) → labelled_in k at act ≡ None

-- what is there already isn't new
pub there_stays : (us : List Deed) (d : Deed) → begins d.act ≡ true → is_there us d.at ≡ true → spots (us ++ d ∷ []) ≡ spots us
there_stays us d b h = spots_begun us d b ∙ cond-true (list_any (place_eq d.at) (spots us)) (spots us) (spots us ++ d.at ∷ []) h

pub spots_same : (places : List Place) (a : ArenaData) (events : List EventData) (l : LabelsData) (us : List Deed) (slot : ℕ) (act : ActData) → IsTied places a events l us
    → is_gone a.gone slot ≡ false → spots (us ++ deed (place_at places slot) act ∷ []) ≡ spots us
spots_same places a events l us slot act t g = elim (cases_Bool (begins act)) [
  | inl b ↦ there_stays us (deed (place_at places slot) act) b (slot_there places a events l us t slot g)
  | inr b ↦ spots_other us (deed (place_at places slot) act) b
]

events_more : (places : List Place) (a : ArenaData) (events : List EventData) (us : List Deed) (slot : ℕ) (act : ActData)
    → map (deed_of places) (filter (event_alive a.gone) events) ≡ us → is_gone a.gone slot ≡ false
    → map (deed_of places) (filter (event_alive a.gone) (events ++ event slot act ∷ [])) ≡ us ++ deed (place_at places slot) act ∷ []
events_more places a events us slot act e g =
    ap (map (deed_of places)) (filter_push (event_alive a.gone) events (event slot act) (not_from_false (is_gone a.gone slot) g))
    ∙ (map-append (deed_of places) (filter (event_alive a.gone) events) (event slot act ∷ []) ∙ ap (λ xs. xs ++ deed (place_at places slot) act ∷ []) e)

bound_more : (a : ArenaData) (events : List EventData) (slot : ℕ) (act : ActData) → IsSound a → list_all (event_below (length a.spots)) events ≡ true
    → is_gone a.gone slot ≡ false → list_all (event_below (length a.spots)) (events ++ event slot act ∷ []) ≡ true
bound_more a events slot act sound b g =
    let w : slot < length a.spots = subst (λ m. slot < m) sound.gone (there_within a.gone slot g) in
    all_append (event_below (length a.spots)) events (event slot act ∷ []) b
    (Rattle.dts_tree.proofs.Lists.and_both (event_below (length a.spots) (event slot act)) true (lt-ltb slot (length a.spots) w) refl)

pub tied_note : (places : List Place) (a : ArenaData) (events : List EventData) (l : LabelsData) (us : List Deed) (slot : ℕ) (act : ActData)
    → IsTied places a events l us → is_gone a.gone slot ≡ false → NoLabel act
    → IsTied places a (events ++ event slot act ∷ []) l (us ++ deed (place_at places slot) act ∷ [])
tied_note places a events l us slot act t g none = record {
  shape = t.shape;
  sound = t.sound;
  slots = t.slots ∙ sym (spots_same places a events l us slot act t g);
  events = events_more places a events us slot act t.events g;
  bound = bound_more a events slot act t.sound t.bound g;
  labels = λ k. t.labels k ∙ sym (no_more us (deed (place_at places slot) act) k (none k (place_at places slot)));
  stacked = t.stacked;
  numbered = t.numbered;
}

-- ---- a label

stack_push : (l : LabelsData) (k : List ℕ) (slot : ℕ) (o : Option ℕ) → AreNumbered l → named k l.numbers ≡ o → stack_of (put_at l k slot o) k ≡ stack_of l k ++ slot ∷ []
stack_push l k slot None num e =
    ap (stack_at (put_at l k slot None)) (named_same l.numbers k (length l.stacks))
    ∙ (get_or_push l.stacks (slot ∷ []) [] (length l.stacks) refl ∙ ap (λ o. stack_at l o ++ slot ∷ []) (sym e))
stack_push l k slot (Some n) num e =
    ap (stack_at (put_at l k slot (Some n))) e
    ∙ (get_or-set_same l.stacks n (get_or l.stacks n [] ++ slot ∷ []) [] (num.low k n e) ∙ ap (λ o. stack_at l o ++ slot ∷ []) (sym e))

other_by : (l : LabelsData) (k q : List ℕ) (slot : ℕ) (p : Option ℕ) → AreNumbered l → named k l.numbers ≡ None → named q l.numbers ≡ p
    → stack_at (put_at l k slot None) p ≡ stack_at l p
other_by l k q slot None num e f = refl
other_by l k q slot (Some n) num e f = get_or_append_left l.stacks ((slot ∷ []) ∷ []) [] n (num.low q n f)

known_by : (l : LabelsData) (k q : List ℕ) (slot n : ℕ) (p : Option ℕ) → AreNumbered l → named k l.numbers ≡ Some n → named q l.numbers ≡ p → (q ≡ k → ⊥)
    → stack_at (put_at l k slot (Some n)) p ≡ stack_at l p
known_by l k q slot n None num e f d = refl
known_by l k q slot n (Some m) num e f d =
    get_or-set_other l.stacks n m (get_or l.stacks n [] ++ slot ∷ []) [] (λ h. d (num.one q k n (f ∙ ap Some h) e))

stack_stays : (l : LabelsData) (k q : List ℕ) (slot : ℕ) (o : Option ℕ) → AreNumbered l → named k l.numbers ≡ o → (q ≡ k → ⊥)
    → stack_of (put_at l k slot o) q ≡ stack_of l q
stack_stays l k q slot None num e d =
    ap (stack_at (put_at l k slot None)) (named_other l.numbers q k (length l.stacks) d) ∙ other_by l k q slot (named q l.numbers) num e refl
stack_stays l k q slot (Some n) num e d = known_by l k q slot n (named q l.numbers) num e refl d

same_or_not : (a b : List ℕ) → (a ≡ b) ⊎ (a ≡ b → ⊥)
same_or_not a b = elim (cases_Bool (Rattle.std.specs.Str.bytes_eq a b)) [
  | inl e ↦ inl (same_bytes a b e)
  | inr e ↦ inr (λ h. true≢false (sym (subst (λ u. Rattle.std.specs.Str.bytes_eq a u ≡ true) h (bytes_self a)) ∙ e))
]

new_low : (l : LabelsData) (k q : List ℕ) (n : ℕ) → AreNumbered l → named q (with_name l.numbers k (length l.stacks)) ≡ Some n
    → ((q ≡ k) × (n ≡ length l.stacks)) ⊎ (named q l.numbers ≡ Some n)
new_low l k q n num h = elim (same_or_not q k) [
  | inl e ↦ inl (e, same_Some n (length l.stacks) (sym h ∙ (ap (λ x. named x (with_name l.numbers k (length l.stacks))) e ∙ named_same l.numbers k (length l.stacks))))
  | inr d ↦ inr (sym (named_other l.numbers q k (length l.stacks) d) ∙ h)
]

numbered_put : (l : LabelsData) (k : List ℕ) (slot : ℕ) (o : Option ℕ) → AreNumbered l → named k l.numbers ≡ o → AreNumbered (put_at l k slot o)
numbered_put l k slot None num e =
    let more : length (l.stacks ++ (slot ∷ []) ∷ []) ≡ length l.stacks + 1 = length_push l.stacks (slot ∷ []) in
    record {
      low = λ q n h. elim (new_low l k q n num h) [
        | inl r ↦ omega (arith, r.1)
        | inr r ↦ omega (arith, num.low q n r)
      ];
      one = λ q m n g h. elim (new_low l k q n num g) [
        | inl r ↦ elim (new_low l k m n num h) [
          | inl s ↦ r.0 ∙ sym s.0
          | inr s ↦ absurd (omega (arith, r.1, num.low m n s))
        ]
        | inr r ↦ elim (new_low l k m n num h) [
          | inl s ↦ absurd (omega (arith, s.1, num.low q n r))
          | inr s ↦ num.one q m n r s
        ]
      ];
    }
numbered_put l k slot (Some n) num e = record {
  low = λ q m h. subst (λ x. m < x) (sym (length-set l.stacks n (get_or l.stacks n [] ++ slot ∷ []))) (num.low q m h);
  one = num.one;
}

labelled_same : (us : List Deed) (p : Place) (k : List ℕ) → labelled (us ++ deed p (Label k) ∷ []) k ≡ labelled us k ++ p ∷ []
labelled_same us p k =
    filter_map-append (λ (x : Deed). labelled_in k x.at x.act) us (deed p (Label k) ∷ [])
    ∙ ap (λ b. labelled us k ++ cons_option (cond b (Some p) None) []) (bytes_self k)

labelled_other : (us : List Deed) (p : Place) (k q : List ℕ) → (q ≡ k → ⊥) → labelled (us ++ deed p (Label k) ∷ []) q ≡ labelled us q
labelled_other us p k q d = no_more us (deed p (Label k)) q
    (cond-false (Rattle.std.specs.Str.bytes_eq q k) (Some p) None (false_from_ne_true (Rattle.std.specs.Str.bytes_eq q k) (λ e. d (same_bytes q k e))))

pub tied_label : (places : List Place) (a : ArenaData) (events : List EventData) (l : LabelsData) (us : List Deed) (slot : ℕ) (k : List ℕ)
    → IsTied places a events l us → is_gone a.gone slot ≡ false
    → IsTied places a (events ++ event slot (Label k) ∷ []) (with_label l k slot) (us ++ deed (place_at places slot) (Label k) ∷ [])
tied_label places a events l us slot k t g =
    let w : slot < length a.spots = subst (λ m. slot < m) t.sound.gone (there_within a.gone slot g) in
    let push : stack_of (with_label l k slot) k ≡ stack_of l k ++ slot ∷ [] = stack_push l k slot (named k l.numbers) t.numbered refl in
    let stays : (q : List ℕ) → (q ≡ k → ⊥) → stack_of (with_label l k slot) q ≡ stack_of l q = λ q d. stack_stays l k q slot (named k l.numbers) t.numbered refl d in
    record {
      shape = t.shape;
      sound = t.sound;
      slots = t.slots ∙ sym (spots_same places a events l us slot (Label k) t g);
      events = events_more places a events us slot (Label k) t.events g;
      bound = bound_more a events slot (Label k) t.sound t.bound g;
      labels = λ q. elim (same_or_not q k) [
        | inl e ↦ subst (λ x. map (place_at places) (alive_in a.gone (stack_of (with_label l k slot) x)) ≡ labelled (us ++ deed (place_at places slot) (Label k) ∷ []) x) (sym e)
            (ap (λ xs. map (place_at places) (alive_in a.gone xs)) push
            ∙ (ap (map (place_at places)) (filter_push (is_alive a.gone) (stack_of l k) slot (not_from_false (is_gone a.gone slot) g))
            ∙ (map-append (place_at places) (alive_in a.gone (stack_of l k)) (slot ∷ [])
            ∙ (ap (λ xs. xs ++ place_at places slot ∷ []) (t.labels k) ∙ sym (labelled_same us (place_at places slot) k)))))
        | inr d ↦ ap (λ xs. map (place_at places) (alive_in a.gone xs)) (stays q d) ∙ (t.labels q ∙ sym (labelled_other us (place_at places slot) k q d))
      ];
      stacked = λ q. elim (same_or_not q k) [
        | inl e ↦ subst (λ x. list_all (slot_below (length a.spots)) (stack_of (with_label l k slot) x) ≡ true) (sym e)
            (subst (λ xs. list_all (slot_below (length a.spots)) xs ≡ true) (sym push)
            (all_append (slot_below (length a.spots)) (stack_of l k) (slot ∷ []) (t.stacked k)
            (Rattle.dts_tree.proofs.Lists.and_both (slot_below (length a.spots) slot) true (lt-ltb slot (length a.spots) w) refl)))
        | inr d ↦ subst (λ xs. list_all (slot_below (length a.spots)) xs ≡ true) (sym (stays q d)) (t.stacked q)
      ];
      numbered = numbered_put l k slot (named k l.numbers) t.numbered refl;
    }

-- ---- a slot that is begun

pub tied_add : (places : List Place) (a : ArenaData) (events : List EventData) (l : LabelsData) (us : List Deed) (at : ℕ) (s : Step) (act : ActData)
    → IsTied places a events l us → is_gone a.gone at ≡ false → child_of a at s ≡ None → begins act ≡ true → NoLabel act
    → IsTied (places ++ (s ∷ place_at places at) ∷ []) (added a at s) (events ++ event (length a.spots) act ∷ []) l (us ++ deed (s ∷ place_at places at) act ∷ [])
tied_add places a events l us at s act t g none b unlabelled =
    let n : ℕ = length a.spots in
    let new : ArenaData = added a at s in
    let p : Place = s ∷ place_at places at in
    let more : List Place = places ++ p ∷ [] in
    let w : at < n = subst (λ m. at < m) t.sound.gone (there_within a.gone at g) in
    let len : length new.spots ≡ n + 1 = length_push a.spots (spot s at) in
    let alive_old : (i : ℕ) → i < n → is_alive new.gone i ≡ is_alive a.gone i = λ i h.
    ap not (get_or_append_left a.gone (false ∷ []) true i (subst (λ m. i < m) (sym t.sound.gone) h)) in
    let alive_new : is_alive new.gone n ≡ true = ap not (get_or_push a.gone false true n t.sound.gone) in
    let placed : (i : ℕ) → i < n → place_at more i ≡ place_at places i = λ i h.
    get_or_append_left places (p ∷ []) [] i (subst (λ m. i < m) (sym t.shape.sized) h) in
    let placed_new : place_at more n ≡ p = get_or_push places p [] n t.shape.sized in
    let shown : (xs : List ℕ) → ((i : ℕ) → Member i xs → i < n) → map (place_at more) (alive_in new.gone xs) ≡ map (place_at places) (alive_in a.gone xs) = λ xs low.
    filter_alike (is_alive a.gone) (is_alive new.gone) (place_at places) (place_at more) xs (λ i m. (alive_old i (low i m), placed i (low i m))) in
    let event_new : event_alive new.gone (event n act) ≡ true = alive_new in
    record {
      shape = shaped_more a.spots places at s t.shape w;
      sound = sound_more a places at s t.shape t.sound g none;
      slots =
          ap (λ m. map (place_at more) (filter (is_alive new.gone) (range_with_len 0 m))) len
          ∙ (ap (λ xs. map (place_at more) (filter (is_alive new.gone) xs)) (range_more 0 n)
          ∙ (ap (map (place_at more)) (filter_push (is_alive new.gone) (range_with_len 0 n) (0 + n) (let z : 0 + n ≡ n = omega arith in ap (is_alive new.gone) z ∙ alive_new))
          ∙ (map-append (place_at more) (filter (is_alive new.gone) (range_with_len 0 n)) ((0 + n) ∷ [])
          ∙ (ap (λ xs. xs ++ place_at more (0 + n) ∷ []) (shown (range_with_len 0 n) (λ i m. let r = member_of_range i 0 n m in omega (arith, r.1)) ∙ t.slots)
          ∙ (ap (λ q. spots us ++ q ∷ []) (let z : 0 + n ≡ n = omega arith in ap (place_at more) z ∙ placed_new)
          ∙ sym (spots_begun us (deed p act) b ∙ cond-false (list_any (place_eq p) (spots us)) (spots us) (spots us ++ p ∷ []) (none_there places a events l us t at s g none)))))));
      events =
          ap (map (deed_of more)) (filter_push (event_alive new.gone) events (event n act) event_new)
          ∙ (map-append (deed_of more) (filter (event_alive new.gone) events) (event n act ∷ [])
          ∙ (ap (λ xs. xs ++ deed_of more (event n act) ∷ [])
          (filter_alike (event_alive a.gone) (event_alive new.gone) (deed_of places) (deed_of more) events
          (λ e m. let low : e.slot < n = ltb-true e.slot n (all_at (event_below n) events e t.bound m) in
          (alive_old e.slot low, ap (λ q. deed q e.act) (placed e.slot low)))
          ∙ t.events)
          ∙ ap (λ q. us ++ deed q act ∷ []) placed_new));
      bound = subst (λ m. list_all (event_below m) (events ++ event n act ∷ []) ≡ true) (sym len)
          (all_append (event_below (n + 1)) events (event n act ∷ [])
          (all_from (event_below (n + 1)) events (λ e m.
          let low : e.slot < n = ltb-true e.slot n (all_at (event_below n) events e t.bound m) in
          lt-ltb e.slot (n + 1) (omega arith)))
          (Rattle.dts_tree.proofs.Lists.and_both (event_below (n + 1) (event n act)) true (lt-ltb n (n + 1) (omega arith)) refl));
      labels = λ k. shown (stack_of l k) (λ i m. ltb-true i n (all_at (slot_below n) (stack_of l k) i (t.stacked k) m))
          ∙ (t.labels k ∙ sym (no_more us (deed p act) k (unlabelled k p)));
      stacked = λ k. subst (λ m. list_all (slot_below m) (stack_of l k) ≡ true) (sym len)
          (all_from (slot_below (n + 1)) (stack_of l k) (λ i m.
          let low : i < n = ltb-true i n (all_at (slot_below n) (stack_of l k) i (t.stacked k) m) in
          lt-ltb i (n + 1) (omega arith)));
      numbered = t.numbered;
    }

labelled_if : (b : Bool) (p q : Place) → cond b (Some p) None ≡ Some q → p ≡ q
labelled_if true p q h = cc
labelled_if false p q h = cc

labelled_at : (n : List ℕ) (p : Place) (act : ActData) (q : Place) → labelled_in n p act ≡ Some q → p ≡ q
labelled_at n p (Open t) q h = cc
labelled_at n p Close q h = cc
labelled_at n p (Label k) q h = labelled_if (Rattle.std.specs.Str.bytes_eq n k) p q h
labelled_at n p (Assign k v) q h = cc
labelled_at n p (DelProp k) q h = cc
labelled_at n p (DelNode t) q h = cc
labelled_at n p (Omit t) q h = cc

-- ---- a slot that is taken away

pub tied_remove : (places : List Place) (a : ArenaData) (events : List EventData) (l : LabelsData) (us : List Deed) (first : ℕ)
    → IsTied places a events l us → 0 < first → is_gone a.gone first ≡ false
    → IsTied places (removed a first) events l (filter (outside (place_at places first)) us)
tied_remove places a events l us first t q g =
    let new : ArenaData = removed a first in
    let f : Place = place_at places first in
    let k : Place → Bool = λ p. not (is_within f p) in
    let s = swept places a first t.shape t.sound q g in
    let same : length new.spots ≡ length a.spots = ap length s.spots in
    let w : first < length a.spots = subst (λ m. first < m) t.sound.gone (there_within a.gone first g) in
    let root : k [] ≡ true = ap (λ p. not (is_within p [])) (t.shape.steps first q w) in
    let alive : (i : ℕ) → is_alive new.gone i ≡ (is_alive a.gone i && k (place_at places i)) = alive_after places a first t.shape t.sound q g in
    record {
      shape = subst (λ sp. IsShaped sp places) (sym s.spots) t.shape;
      sound = sound_after places a first t.shape t.sound q g;
      slots =
          ap (λ m. map (place_at places) (filter (is_alive new.gone) (range_with_len 0 m))) same
          ∙ (filter_shown (is_alive a.gone) (is_alive new.gone) (place_at places) k alive (range_with_len 0 (length a.spots))
          ∙ (ap (filter k) t.slots ∙ sym (spots_kept k us root)));
      events =
          filter_shown (event_alive a.gone) (event_alive new.gone) (deed_of places) (λ (d : Deed). k d.at) (λ e. alive e.slot) events
          ∙ ap (filter (λ (d : Deed). k d.at)) t.events;
      bound = subst (λ m. list_all (event_below m) events ≡ true) (sym same) t.bound;
      labels = λ n.
          filter_shown (is_alive a.gone) (is_alive new.gone) (place_at places) k alive (stack_of l n)
          ∙ (ap (filter k) (t.labels n)
          ∙ sym (kept (λ (d : Deed). labelled_in n d.at d.act) (λ (d : Deed). k d.at) k (λ d y h. ap k (labelled_at n d.at d.act y h)) us));
      stacked = λ n. subst (λ m. list_all (slot_below m) (stack_of l n) ≡ true) (sym same) (t.stacked n);
      numbered = t.numbered;
    }
