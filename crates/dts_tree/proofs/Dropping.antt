-- Which nodes stay, by slots and by places.
use Rattle.std.proofs.Common.{◌≡◌, ◌∙◌, ◌+◌, ◌<◌, ◌≤◌, ◌++◌, ◌∷◌, [], ℕ, zero, suc, Bool, true, false, not, ◌&&◌, ◌||◌, List, Option, Some, None, length, map, get_or, set, replicate, refl, sym, ap, subst, inl, inr, arith, eqb}
use Rattle.std.specs.Option.{option_map_or}
use Rattle.std.specs.List.{list_any, filter_map, flat_map, fold, range_with_len, cons_option}
use Rattle.std.proofs.lemmas.Bool.{cases_eq, cases_lt, eq-eqb, ne_eqb}
use Rattle.std.proofs.lemmas.List.{get_or-set_same, get_or-set_other, get_or_past, length-set, length-map, length-replicate, get_or-replicate}
use Rattle.std.proofs.lemmas.List.FromFn.{get_or-map-range_with_len}
use Rattle.std.proofs.lemmas.List.Sums.{fold-append}
use Rattle.dts_parse.specs.StmtData.{PartData}
use Rattle.dts_parse.specs.declared.script.Target.{Target}
use Rattle.dts_tree.specs.Places.{Place, place_eq}
use Rattle.dts_tree.specs.Deeds.{Deed}
use Rattle.dts_tree.specs.Live.{value, node_of, is_marked}
use Rattle.dts_tree.specs.Reading.{Before, live}
use Rattle.dts_tree.specs.Whole.{part_targets, node_targets, wanted, stays, always, whole}
use Rattle.dts_tree.specs.Inner.Arena.{ArenaData, is_gone, is_alive}
use Rattle.dts_tree.specs.Inner.Machine.{ReaderData, named_slot}
use Rattle.dts_tree.specs.Inner.Grown.{GrownData, grown_of, value_at, below_in, alive_list, wants, wanted_parts, wanted_by, wanted_from, stays_at}
use Rattle.dts_tree.specs.Inner.Left.{keep_of, whole_slots, prop_lists, wanted_slots, staying}
use Rattle.dts_tree.proofs.Lists.{Member}
use Rattle.dts_tree.proofs.Shape.{IsShaped, IsSound, place_at, there_within}
use Rattle.dts_tree.proofs.Tying.{IsTied, alive_false}
use Rattle.dts_tree.proofs.Carrying.{Names, named_is}
use Rattle.dts_tree.proofs.Gathering.{same_slot, value_is, mark_is}
use Rattle.dts_tree.proofs.Ordering.{Keeps, props_are, kid_alive, alive_keeps, order_is, order_alive}

-- ---- the references of slots as one list

abbrev value_targets : GrownData → ℕ → List Target
value_targets g q = flat_map part_targets (value_at g q)

abbrev slot_targets : GrownData → List (List ℕ) → ℕ → List Target
slot_targets g lists i = flat_map (value_targets g) (below_in lists i)

parts_flat : (r : ReaderData) (ps : List PartData) (marks : List Bool) → wanted_parts r marks ps ≡ fold (wants r) marks (flat_map part_targets ps)
parts_flat r [] marks = refl
parts_flat r (p ∷ ps) marks =
    parts_flat r ps (fold (wants r) marks (part_targets p)) ∙ sym (fold-append (wants r) marks (part_targets p) (flat_map part_targets ps))

props_flat : (r : ReaderData) (g : GrownData) (qs : List ℕ) (marks : List Bool) → fold (wanted_by r g) marks qs ≡ fold (wants r) marks (flat_map (value_targets g) qs)
props_flat r g [] marks = refl
props_flat r g (q ∷ qs) marks =
    props_flat r g qs (wanted_by r g marks q)
    ∙ (ap (λ m. fold (wants r) m (flat_map (value_targets g) qs)) (parts_flat r (value_at g q) marks)
    ∙ sym (fold-append (wants r) marks (value_targets g q) (flat_map (value_targets g) qs)))

nodes_flat : (r : ReaderData) (g : GrownData) (lists : List (List ℕ)) (is : List ℕ) (marks : List Bool)
    → wanted_from r g lists marks is ≡ fold (wants r) marks (flat_map (slot_targets g lists) is)
nodes_flat r g lists [] marks = refl
nodes_flat r g lists (i ∷ is) marks =
    nodes_flat r g lists is (fold (wanted_by r g) marks (below_in lists i))
    ∙ (ap (λ m. fold (wants r) m (flat_map (slot_targets g lists) is)) (props_flat r g (below_in lists i) marks)
    ∙ sym (fold-append (wants r) marks (slot_targets g lists i) (flat_map (slot_targets g lists) is)))

pub flat_shown : {Y : Type 0} (places : List Place) (f : ℕ → List Y) (h : Place → List Y) (is : List ℕ) → ((i : ℕ) → Member i is → f i ≡ h (place_at places i))
    → flat_map f is ≡ flat_map h (map (place_at places) is)
flat_shown places f h [] same = refl
flat_shown places f h (i ∷ is) same =
    ap (λ t. t ++ flat_map f is) (same i (inl refl)) ∙ ap (λ t. h (place_at places i) ++ t) (flat_shown places f h is (λ j m. same j (inr m)))

-- the references of a slot's values are those of its place
targets_are : (places : List Place) (r : ReaderData) (us : List Deed) → IsTied places r.arena r.events r.labels us → (i : ℕ) → is_gone r.arena.gone i ≡ false
    → slot_targets (grown_of r) (prop_lists r) i ≡ node_targets us (place_at places i)
targets_are places r us t i g =
    flat_shown places (value_targets (grown_of r)) (λ q. flat_map part_targets (value us q)) (below_in (prop_lists r) i) (λ q m.
    let alive = kid_alive places r.arena (alive_list r.arena.gone) (λ p. true) false (alive_keeps places r.arena) i q m in
    ap (flat_map part_targets) (value_is places r.arena r.events r.labels us t q alive))
    ∙ ap (flat_map (λ q. flat_map part_targets (value us q))) (props_are places r.arena r.events r.labels us (alive_list r.arena.gone) t (alive_keeps places r.arena) i g)

-- ---- which slots are wanted

abbrev hits : Place → Option Place → Bool
hits p o = option_map_or (place_eq p) o false

or_none : (b : Bool) → b ≡ (b || false)
or_none true = refl
or_none false = refl

or_yes : (b : Bool) → true ≡ (b || true)
or_yes true = refl
or_yes false = refl

or_assoc : (a b c : Bool) → ((a || b) || c) ≡ (a || (b || c))
or_assoc true b c = refl
or_assoc false b c = refl

want_by : (places : List Place) (a : ArenaData) (marks : List Bool) (j : ℕ) (o : Option ℕ) (p : Option Place) → IsShaped a.spots places → IsSound a → Names places a o p
    → is_gone a.gone j ≡ false → j < length marks → get_or (option_map_or (λ i. set marks i true) o marks) j false ≡ (get_or marks j false || hits (place_at places j) p)
want_by places a marks j None None shape sound n g l = or_none (get_or marks j false)
want_by places a marks j None (Some q) shape sound n g l = absurd n
want_by places a marks j (Some i) None shape sound n g l = absurd n
want_by places a marks j (Some i) (Some q) shape sound n g l =
    let same : place_eq (place_at places j) q ≡ eqb j i = ap (place_eq (place_at places j)) (sym n.1) ∙ same_slot a places shape sound j i g n.0 in
    elim (cases_eq j i) [
      | inl e ↦
          subst (λ k. get_or (set marks k true) j false ≡ (get_or marks j false || true)) e (get_or-set_same marks j true false l ∙ or_yes (get_or marks j false))
          ∙ ap (λ b. get_or marks j false || b) (sym (same ∙ eq-eqb j i e))
      | inr d ↦
          get_or-set_other marks i j true false d ∙ (or_none (get_or marks j false) ∙ ap (λ b. get_or marks j false || b) (sym (same ∙ ne_eqb j i d)))
    ]

want_len : (o : Option ℕ) (marks : List Bool) → length (option_map_or (λ i. set marks i true) o marks) ≡ length marks
want_len None marks = refl
want_len (Some i) marks = length-set marks i true

any_cons : (f : Place → Bool) (o : Option Place) (ps : List Place) → (option_map_or f o false || list_any f ps) ≡ list_any f (cons_option o ps)
any_cons f None ps = refl
any_cons f (Some p) ps = refl

wants_all : (places : List Place) (r : ReaderData) (us : List Deed) (ts : List Target) (marks : List Bool) (j : ℕ) → IsTied places r.arena r.events r.labels us
    → is_gone r.arena.gone j ≡ false → j < length marks
    → get_or (fold (wants r) marks ts) j false ≡ (get_or marks j false || list_any (place_eq (place_at places j)) (filter_map (node_of us) ts))
wants_all places r us [] marks j t g l = or_none (get_or marks j false)
wants_all places r us (x ∷ ts) marks j t g l =
    let P : Place → Bool = place_eq (place_at places j) in
    wants_all places r us ts (wants r marks x) j t g (subst (λ n. j < n) (sym (want_len (named_slot r x) marks)) l)
    ∙ (ap (λ b. b || list_any P (filter_map (node_of us) ts)) (want_by places r.arena marks j (named_slot r x) (node_of us x) t.shape t.sound (named_is places r us x t) g l)
    ∙ (or_assoc (get_or marks j false) (hits (place_at places j) (node_of us x)) (list_any P (filter_map (node_of us) ts))
    ∙ ap (λ b. get_or marks j false || b) (any_cons P (node_of us x) (filter_map (node_of us) ts))))

-- ---- the slots of all nodes

pub whole_are : (places : List Place) (r : ReaderData) (b : Before) → IsTied places r.arena r.events r.labels (live b) → length r.arena.spots ≤ suc (length b.deeds)
    → map (place_at places) (whole_slots r) ≡ whole b
whole_are places r b t levels = order_is places r b (alive_list r.arena.gone) always t levels (alive_keeps places r.arena)

pub whole_alive : (places : List Place) (r : ReaderData) (us : List Deed) → IsTied places r.arena r.events r.labels us → (j : ℕ) → Member j (whole_slots r) → is_gone r.arena.gone j ≡ false
whole_alive places r us t j m = order_alive places r.arena (alive_list r.arena.gone) always (alive_keeps places r.arena) t.sound.root j m

wanted_is : (places : List Place) (r : ReaderData) (b : Before) → IsTied places r.arena r.events r.labels (live b) → length r.arena.spots ≤ suc (length b.deeds)
    → (j : ℕ) → is_gone r.arena.gone j ≡ false → get_or (wanted_slots r) j false ≡ list_any (place_eq (place_at places j)) (wanted b)
wanted_is places r b t levels j g =
    let n : ℕ = length r.arena.spots in
    let w : j < n = subst (λ m. j < m) t.sound.gone (there_within r.arena.gone j g) in
    let none : List Bool = replicate n false in
    let P : Place → Bool = place_eq (place_at places j) in
    let same : flat_map (slot_targets (grown_of r) (prop_lists r)) (whole_slots r) ≡ flat_map (node_targets (live b)) (whole b) =
    flat_shown places (slot_targets (grown_of r) (prop_lists r)) (node_targets (live b)) (whole_slots r) (λ i m. targets_are places r (live b) t i (whole_alive places r (live b) t i m))
    ∙ ap (flat_map (node_targets (live b))) (whole_are places r b t levels) in
    ap (λ ms. get_or ms j false) (nodes_flat r (grown_of r) (prop_lists r) (whole_slots r) none)
    ∙ (wants_all places r (live b) (flat_map (slot_targets (grown_of r) (prop_lists r)) (whole_slots r)) none j t g (subst (λ m. j < m) (sym (length-replicate n false)) w)
    ∙ (ap (λ c. c || list_any P (filter_map (node_of (live b)) (flat_map (slot_targets (grown_of r) (prop_lists r)) (whole_slots r)))) (get_or-replicate n j false false w)
    ∙ ap (λ ts. list_any P (filter_map (node_of (live b)) ts)) same))

-- ---- which slots stay

stays_by : (c : Bool) (places : List Place) (r : ReaderData) (b : Before) (j : ℕ) → IsTied places r.arena r.events r.labels (live b) → length r.arena.spots ≤ suc (length b.deeds)
    → is_alive r.arena.gone j ≡ c → stays_at (keep_of r) (grown_of r).marks (wanted_slots r) j ≡ (c && stays b (place_at places j))
stays_by false places r b j t levels h =
    ap (λ k. k && not (get_or (grown_of r).marks j false && not (get_or (wanted_slots r) j false))) (alive_keeps places r.arena j ∙ ap (λ k. k && true) h)
stays_by true places r b j t levels h =
    let g : is_gone r.arena.gone j ≡ false = alive_false r.arena.gone j h in
    ap (λ k. k && not (get_or (grown_of r).marks j false && not (get_or (wanted_slots r) j false))) (alive_keeps places r.arena j ∙ ap (λ k. k && true) h)
    ∙ (ap (λ m. true && not (m && not (get_or (wanted_slots r) j false))) (mark_is places r.arena r.events r.labels (live b) t j g)
    ∙ ap (λ w. true && not (is_marked (live b) (place_at places j) && not w)) (wanted_is places r b t levels j g))

-- the slots that stay are those of the nodes that stay
pub stays_keeps : (places : List Place) (r : ReaderData) (b : Before) → IsTied places r.arena r.events r.labels (live b) → length r.arena.spots ≤ suc (length b.deeds)
    → Keeps places r.arena (staying r) (stays b)
stays_keeps places r b t levels j =
    let keep : List Bool = keep_of r in
    let f : ℕ → Bool = stays_at keep (grown_of r).marks (wanted_slots r) in
    let len : length keep ≡ length r.arena.gone = length-map r.arena.gone not in
    elim (cases_lt j (length keep)) [
      | inl l ↦
          get_or-map-range_with_len f 0 (length keep) j j false l (let z : 0 + j ≡ j = omega arith in z)
          ∙ stays_by (is_alive r.arena.gone j) places r b j t levels refl
      | inr l ↦
          let past : is_gone r.arena.gone j ≡ true = get_or_past r.arena.gone j true (subst (λ m. m ≤ j) len l) in
          let size : length (staying r) ≡ length keep = length-map (range_with_len 0 (length keep)) f ∙ length_range (length keep) 0 in
          get_or_past (staying r) j false (subst (λ m. m ≤ j) (sym size) l) ∙ ap (λ g. not g && stays b (place_at places j)) (sym past)
    ]
  where
    length_range : (n a : ℕ) → length (range_with_len a n) ≡ n
    length_range zero a = refl
    length_range (suc n) a = ap suc (length_range n (a + 1))
