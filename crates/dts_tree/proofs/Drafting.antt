-- The drafts of the slots that stay are those of their places.
use Rattle.std.proofs.Common.{◌≡◌, ◌∙◌, ◌+◌, ◌<◌, ◌≤◌, ◌++◌, ◌∷◌, [], ℕ, zero, suc, true, false, cond, List, Option, Some, None, length, map, get_or, set, replicate, codes, refl, sym, ap, subst, inl, inr, arith, eqb}
use Rattle.std.specs.Prelude.{slice_get}
use Rattle.std.specs.Option.{option_map_or, option_and_then}
use Rattle.std.specs.List.{position_from}
use Rattle.std.proofs.lemmas.Bool.{cases_eq, eq-eqb, ne_eqb}
use Rattle.std.proofs.lemmas.List.{get_or-set_same, get_or-set_other, length-set, length-replicate, get_or-replicate}
use Rattle.std.proofs.lemmas.Iterator.Adapters.{position_from-zero}
use Rattle.std.proofs.lemmas.Option.{slice_get-get_or}
use Rattle.dts_parse.specs.StmtData.{PartData, Plain, Cells, Path}
use Rattle.dts_parse.specs.declared.script.RawCell.{RawCell}
use Rattle.dts_parse.specs.declared.script.RawCell.TheVariants as cell
use Rattle.dts_parse.specs.declared.script.Target.{Target}
use Rattle.dts_tree.specs.declared.draft.DraftCell.TheVariants as draft
use Rattle.dts_tree.specs.declared.spot.Step.TheVariants.{Child}
use Rattle.dts_tree.specs.declared.spot.Spot.{Spot}
use Rattle.dts_tree.specs.Places.{Place, place_eq, name_of, step_name, below_text, path_text}
use Rattle.dts_tree.specs.Deeds.{Deed}
use Rattle.dts_tree.specs.Live.{value, props, labels, node_of}
use Rattle.dts_tree.specs.Reading.{Before, live}
use Rattle.dts_tree.specs.Whole.{kept, stays}
use Rattle.dts_tree.specs.Drafts.{DraftPartData, DraftData, Mixed, PathTo, number_in, number_of, cell_draft, part_draft, prop_draft, parent_number, node_draft, drafts_of, drafts}
use Rattle.dts_tree.specs.Inner.Arena.{ArenaData, is_gone, spot}
use Rattle.dts_tree.specs.Inner.Machine.{ReaderData, named_slot}
use Rattle.dts_tree.specs.Inner.Grown.{grown_of, value_at, labels_at, below_in, alive_list, slot_name, slot_parent, with_slash, slot_text, text_of}
use Rattle.dts_tree.specs.Inner.Left.{placed_from, places_of, placed_at, slot_number, slot_cell, slot_part, slot_prop, or_slash, node_name, node_parent, slot_draft, prop_lists, staying, kept_slots, drafts_left}
use Rattle.dts_tree.proofs.Lists.{Member}
use Rattle.dts_tree.proofs.Shape.{IsShaped, IsSound, place_at, parent_at, spot_at, there_within}
use Rattle.dts_tree.proofs.Tying.{IsTied}
use Rattle.dts_tree.proofs.Carrying.{Names, named_is}
use Rattle.dts_tree.proofs.Gathering.{same_slot, value_is, labels_are}
use Rattle.dts_tree.proofs.Ordering.{Keeps, props_are, kid_alive, kid_positive, alive_keeps, order_is, order_alive}
use Rattle.dts_tree.proofs.Apart.{Apart, apart_shown}
use Rattle.dts_tree.proofs.WalkLaws.{walk_apart}
use Rattle.dts_tree.proofs.Dropping.{stays_keeps}

-- ---- the place of a slot among those that stay

abbrev over : Option ℕ → Option ℕ → Option ℕ
over None d = d
over (Some x) d = Some x

over_none : (o : Option ℕ) → over o None ≡ o
over_none None = refl
over_none (Some x) = refl

none_from : (j : ℕ) (is : List ℕ) (first : ℕ) → (Member j is → ⊥) → position_from (eqb j) first is ≡ None
none_from j [] first n = refl
none_from j (i ∷ is) first n =
    ap (λ b. cond b (Some first) (position_from (eqb j) (first + 1) is)) (ne_eqb j i (λ e. n (inl (sym e)))) ∙ none_from j is (first + 1) (λ m. n (inr m))

placed_all : (slots : List ℕ) (ps : List (Option ℕ)) (first j : ℕ) → Apart slots → j < length ps
    → get_or (placed_from ps first slots) j None ≡ over (position_from (eqb j) first slots) (get_or ps j None)
placed_all [] ps first j a l = refl
placed_all (i ∷ is) ps first j a l =
    placed_all is (set ps i (Some first)) (first + 1) j a.1 (subst (λ n. j < n) (sym (length-set ps i (Some first))) l)
    ∙ elim (cases_eq j i) [
      | inl e ↦
          let none : position_from (eqb j) (first + 1) is ≡ None = none_from j is (first + 1) (λ m. a.0 (subst (λ k. Member k is) e m)) in
          let here : get_or (set ps i (Some first)) j None ≡ Some first =
          subst (λ k. get_or (set ps k (Some first)) j None ≡ Some first) e (get_or-set_same ps j (Some first) None l) in
          ap (λ o. over o (get_or (set ps i (Some first)) j None)) none
          ∙ (here ∙ ap (λ b. over (cond b (Some first) (position_from (eqb j) (first + 1) is)) (get_or ps j None)) (sym (eq-eqb j i e)))
      | inr d ↦
          ap (over (position_from (eqb j) (first + 1) is)) (get_or-set_other ps i j (Some first) None d)
          ∙ ap (λ b. over (cond b (Some first) (position_from (eqb j) (first + 1) is)) (get_or ps j None)) (sym (ne_eqb j i d))
    ]

shown_from : (places : List Place) (a : ArenaData) → IsShaped a.spots places → IsSound a → (j : ℕ) → is_gone a.gone j ≡ false → (is : List ℕ) (first : ℕ)
    → ((i : ℕ) → Member i is → is_gone a.gone i ≡ false) → position_from (eqb j) first is ≡ position_from (place_eq (place_at places j)) first (map (place_at places) is)
shown_from places a shape sound j g [] first alive = refl
shown_from places a shape sound j g (i ∷ is) first alive =
    ap (λ o. cond (eqb j i) (Some first) o) (shown_from places a shape sound j g is (first + 1) (λ k m. alive k (inr m)))
    ∙ ap (λ b. cond b (Some first) (position_from (place_eq (place_at places j)) (first + 1) (map (place_at places) is)))
    (sym (same_slot a places shape sound j i g (alive i (inl refl))))

-- the numbers of slots are those of their places
placed_is : (places : List Place) (a : ArenaData) → IsShaped a.spots places → IsSound a → (slots : List ℕ) → Apart slots
    → ((i : ℕ) → Member i slots → is_gone a.gone i ≡ false) → (j : ℕ) → is_gone a.gone j ≡ false
    → placed_at (places_of (length a.spots) slots) j ≡ number_in (map (place_at places) slots) (place_at places j)
placed_is places a shape sound slots apart alive j g =
    let n : ℕ = length a.spots in
    let w : j < n = subst (λ m. j < m) sound.gone (there_within a.gone j g) in
    placed_all slots (replicate n None) 0 j apart (subst (λ m. j < m) (sym (length-replicate n None)) w)
    ∙ (ap (over (position_from (eqb j) 0 slots)) (get_or-replicate n j None None w)
    ∙ (over_none (position_from (eqb j) 0 slots)
    ∙ (shown_from places a shape sound j g slots 0 alive ∙ sym (position_from-zero (place_eq (place_at places j)) (map (place_at places) slots)))))

-- ---- values

map_shown : {Y : Type 0} (places : List Place) (f : ℕ → Y) (h : Place → Y) (is : List ℕ) → ((i : ℕ) → Member i is → f i ≡ h (place_at places i)) → map f is ≡ map h (map (place_at places) is)
map_shown places f h [] same = refl
map_shown places f h (i ∷ is) same =
    ap (λ y. y ∷ map f is) (same i (inl refl)) ∙ ap (λ t. h (place_at places i) ∷ t) (map_shown places f h is (λ j m. same j (inr m)))

map_alike : {X Y : Type 0} (f h : X → Y) (xs : List X) → ((x : X) → f x ≡ h x) → map f xs ≡ map h xs
map_alike f h [] same = refl
map_alike f h (x ∷ xs) same = ap (λ y. y ∷ map f xs) (same x) ∙ ap (λ t. h x ∷ t) (map_alike f h xs same)

-- slots and places number references alike
abbrev SameNumbers : ReaderData → List Deed → List (Option ℕ) → List Place → Type 0
SameNumbers r us numbers ps = (x : Target) → slot_number r numbers x ≡ number_of us ps x

numbers_by : (places : List Place) (a : ArenaData) (numbers : List (Option ℕ)) (ps : List Place)
    → ((j : ℕ) → is_gone a.gone j ≡ false → placed_at numbers j ≡ number_in ps (place_at places j)) → (o : Option ℕ) (p : Option Place) → Names places a o p
    → option_and_then (placed_at numbers) o ≡ option_and_then (number_in ps) p
numbers_by places a numbers ps h None None n = refl
numbers_by places a numbers ps h None (Some q) n = absurd n
numbers_by places a numbers ps h (Some i) None n = absurd n
numbers_by places a numbers ps h (Some i) (Some q) n = h i n.0 ∙ ap (number_in ps) n.1

cells_alike : (r : ReaderData) (us : List Deed) (numbers : List (Option ℕ)) (ps : List Place) → SameNumbers r us numbers ps → (c : RawCell) → slot_cell r numbers c ≡ cell_draft us ps c
cells_alike r us numbers ps same (cell.Num n) = refl
cells_alike r us numbers ps same (cell.Ref x) = ap draft.Ref (same x)

parts_alike : (r : ReaderData) (us : List Deed) (numbers : List (Option ℕ)) (ps : List Place) → SameNumbers r us numbers ps → (p : PartData) → slot_part r numbers p ≡ part_draft us ps p
parts_alike r us numbers ps same (Plain p) = refl
parts_alike r us numbers ps same (Cells cells) = ap Mixed (map_alike (slot_cell r numbers) (cell_draft us ps) cells (cells_alike r us numbers ps same))
parts_alike r us numbers ps same (Path x) = ap PathTo (same x)

-- ---- names, parents and texts

got_spot : (spots : List Spot) (i : ℕ) → i < length spots → slice_get spots i ≡ Some (spot_at spots i)
got_spot spots i l = slice_get-get_or spots i (spot (Child []) 0) l

named_slot_is : (spots : List Spot) (places : List Place) → IsShaped spots places → (i : ℕ) → 0 < i → i < length spots → slot_name spots i ≡ name_of (place_at places i)
named_slot_is spots places shape i p l =
    ap (λ o. option_map_or (λ (s : Spot). step_name s.step) o []) (got_spot spots i l) ∙ ap name_of (sym (shape.steps i p l))

parent_is : (spots : List Spot) (i : ℕ) → i < length spots → slot_parent spots i ≡ parent_at spots i
parent_is spots i l = ap (λ o. option_map_or (λ (s : Spot). s.parent) o 0) (got_spot spots i l)

text_by : (n : ℕ) (spots : List Spot) (places : List Place) → IsShaped spots places → (i : ℕ) → i < n → i < length spots → slot_text n spots i ≡ below_text (place_at places i)
text_by zero spots places shape i m l = absurd (omega arith)
text_by (suc n) spots places shape i m l = elim (cases_eq i 0) [
  | inl z ↦
      ap (λ b. cond b [] (with_slash spots (slot_text n spots (slot_parent spots i)) i)) (eq-eqb i 0 z)
      ∙ ap below_text (sym (ap (place_at places) z ∙ shape.root))
  | inr d ↦
      let p : 0 < i = omega arith in
      let up : parent_at spots i < i = shape.parents i p l in
      let rest : slot_text n spots (slot_parent spots i) ≡ below_text (place_at places (parent_at spots i)) =
      ap (slot_text n spots) (parent_is spots i l) ∙ text_by n spots places shape (parent_at spots i) (omega arith) (omega arith) in
      ap (λ b. cond b [] (with_slash spots (slot_text n spots (slot_parent spots i)) i)) (ne_eqb i 0 d)
      ∙ (ap (λ t. with_slash spots t i) rest
      ∙ (ap (λ x. below_text (place_at places (parent_at spots i)) ++ codes "/" ++ x) (ap (λ o. option_map_or (λ (s : Spot). step_name s.step) o []) (got_spot spots i l))
      ∙ ap below_text (sym (shape.steps i p l))))
]

slash_some : (xs : List ℕ) (b : ℕ) (zs : List ℕ) → or_slash ((xs ++ b ∷ []) ++ zs) ≡ (xs ++ b ∷ []) ++ zs
slash_some [] b zs = refl
slash_some (x ∷ xs) b zs = refl

or_slash_is : (p : Place) → or_slash (below_text p) ≡ path_text p
or_slash_is [] = refl
or_slash_is (s ∷ p) = slash_some (below_text p) 47 (step_name s)

pub path_is : (spots : List Spot) (places : List Place) → IsShaped spots places → (i : ℕ) → i < length spots → or_slash (text_of spots i) ≡ path_text (place_at places i)
path_is spots places shape i l = ap or_slash (text_by (length spots) spots places shape i l l) ∙ or_slash_is (place_at places i)

name_is : (spots : List Spot) (places : List Place) → IsShaped spots places → (i : ℕ) → i < length spots → node_name spots i ≡ name_of (place_at places i)
name_is spots places shape i l = elim (cases_eq i 0) [
  | inl z ↦ ap (λ b. cond b (codes "/") (slot_name spots i)) (eq-eqb i 0 z) ∙ ap name_of (sym (ap (place_at places) z ∙ shape.root))
  | inr d ↦ let p : 0 < i = omega arith in
      ap (λ b. cond b (codes "/") (slot_name spots i)) (ne_eqb i 0 d) ∙ named_slot_is spots places shape i p l
]

-- ---- a draft

pair_same : {A B : Type 0} (a c : A) (b d : B) → a ≡ c → b ≡ d → ◌≡◌ {A = A × B} (a, b) (c, d)
pair_same a c b d e f = cc

abbrev draft_by : List ℕ → List ℕ → Option ℕ → List (List ℕ) → List (List ℕ × List DraftPartData) → DraftData
draft_by n p u l s = record { name = n; path = p; parent = u; labels = l; props = s }

draft_same : (n m p q : List ℕ) (u v : Option ℕ) (l k : List (List ℕ)) (s t : List (List ℕ × List DraftPartData)) → n ≡ m → p ≡ q → u ≡ v → l ≡ k → s ≡ t
    → draft_by n p u l s ≡ draft_by m q v k t
draft_same n m p q u v l k s t a b c d e =
    ap (λ x. draft_by x p u l s) a ∙ (ap (λ x. draft_by m x u l s) b ∙ (ap (λ x. draft_by m q x l s) c ∙ (ap (λ x. draft_by m q v x s) d ∙ ap (λ x. draft_by m q v k x) e)))

-- what is needed of the slots and places that stay
record AreNumbers (places : List Place) (a : ArenaData) (numbers : List (Option ℕ)) (ps : List Place) : Type 0 where
  at : (j : ℕ) → is_gone a.gone j ≡ false → placed_at numbers j ≡ number_in ps (place_at places j)

props_alike : (places : List Place) (r : ReaderData) (us : List Deed) (numbers : List (Option ℕ)) (ps : List Place) → IsTied places r.arena r.events r.labels us
    → SameNumbers r us numbers ps → (i : ℕ) → is_gone r.arena.gone i ≡ false
    → map (slot_prop r (grown_of r) numbers) (below_in (prop_lists r) i) ≡ map (prop_draft us ps) (props us (place_at places i))
props_alike places r us numbers ps t same i g =
    map_shown places (slot_prop r (grown_of r) numbers) (prop_draft us ps) (below_in (prop_lists r) i) (λ q m.
    let alive : is_gone r.arena.gone q ≡ false = kid_alive places r.arena (alive_list r.arena.gone) (λ p. true) false (alive_keeps places r.arena) i q m in
    let low : q < length r.arena.spots = subst (λ n. q < n) t.sound.gone (there_within r.arena.gone q alive) in
    let some : 0 < q = kid_positive r.arena.spots (alive_list r.arena.gone) false i q m in
    pair_same (slot_name r.arena.spots q) (name_of (place_at places q)) (map (slot_part r numbers) (value_at (grown_of r) q)) (map (part_draft us ps) (value us (place_at places q)))
    (named_slot_is r.arena.spots places t.shape q some low)
    (map_alike (slot_part r numbers) (part_draft us ps) (value_at (grown_of r) q) (parts_alike r us numbers ps same)
    ∙ ap (map (part_draft us ps)) (value_is places r.arena r.events r.labels us t q alive)))
    ∙ ap (map (prop_draft us ps)) (props_are places r.arena r.events r.labels us (alive_list r.arena.gone) t (alive_keeps places r.arena) i g)

up_is : (places : List Place) (a : ArenaData) (numbers : List (Option ℕ)) (ps : List Place) → IsShaped a.spots places → IsSound a → AreNumbers places a numbers ps
    → (i : ℕ) → is_gone a.gone i ≡ false → i < length a.spots → node_parent a.spots numbers i ≡ parent_number ps (place_at places i)
up_is places a numbers ps shape sound h i g l = elim (cases_eq i 0) [
  | inl z ↦ ap (λ b. cond b None (placed_at numbers (slot_parent a.spots i))) (eq-eqb i 0 z) ∙ ap (parent_number ps) (sym (ap (place_at places) z ∙ shape.root))
  | inr d ↦ let p : 0 < i = omega arith in
      ap (λ b. cond b None (placed_at numbers (slot_parent a.spots i))) (ne_eqb i 0 d)
      ∙ (ap (placed_at numbers) (parent_is a.spots i l)
      ∙ (h.at (parent_at a.spots i) (sound.parents i p g) ∙ ap (parent_number ps) (sym (shape.steps i p l))))
]

draft_is : (places : List Place) (r : ReaderData) (us : List Deed) (numbers : List (Option ℕ)) (ps : List Place) → IsTied places r.arena r.events r.labels us
    → AreNumbers places r.arena numbers ps → SameNumbers r us numbers ps → (i : ℕ) → is_gone r.arena.gone i ≡ false
    → slot_draft r (grown_of r) (prop_lists r) numbers i ≡ node_draft us ps (place_at places i)
draft_is places r us numbers ps t h same i g =
    let low : i < length r.arena.spots = subst (λ n. i < n) t.sound.gone (there_within r.arena.gone i g) in
    draft_same (node_name r.arena.spots i) (name_of (place_at places i)) (or_slash (text_of r.arena.spots i)) (path_text (place_at places i))
    (node_parent r.arena.spots numbers i) (parent_number ps (place_at places i)) (labels_at (grown_of r) i) (labels us (place_at places i))
    (map (slot_prop r (grown_of r) numbers) (below_in (prop_lists r) i)) (map (prop_draft us ps) (props us (place_at places i)))
    (name_is r.arena.spots places t.shape i low) (path_is r.arena.spots places t.shape i low)
    (up_is places r.arena numbers ps t.shape t.sound h i g low) (labels_are places r.arena r.events r.labels us t i g)
    (props_alike places r us numbers ps t same i g)

-- ---- all drafts

kept_are : (places : List Place) (r : ReaderData) (b : Before) → IsTied places r.arena r.events r.labels (live b) → length r.arena.spots ≤ suc (length b.deeds)
    → map (place_at places) (kept_slots r) ≡ kept b
kept_are places r b t levels = order_is places r b (staying r) (stays b) t levels (stays_keeps places r b t levels)

pub drafts_are : (places : List Place) (r : ReaderData) (b : Before) → IsTied places r.arena r.events r.labels (live b) → length r.arena.spots ≤ suc (length b.deeds)
    → drafts_left r ≡ drafts b
drafts_are places r b t levels =
    let us : List Deed = live b in
    let slots : List ℕ = kept_slots r in
    let ps : List Place = map (place_at places) slots in
    let numbers : List (Option ℕ) = places_of (length r.arena.spots) slots in
    let keeps : Keeps places r.arena (staying r) (stays b) = stays_keeps places r b t levels in
    let alive : (j : ℕ) → Member j slots → is_gone r.arena.gone j ≡ false = λ j m. order_alive places r.arena (staying r) (stays b) keeps t.sound.root j m in
    let shown : ps ≡ kept b = kept_are places r b t levels in
    let apart : Apart slots = apart_shown (place_at places) slots (subst (λ xs. Apart xs) (sym shown) (walk_apart (suc (length b.deeds)) us (stays b) [])) in
    let are : AreNumbers places r.arena numbers ps = record { at = λ j g. placed_is places r.arena t.shape t.sound slots apart alive j g } in
    let same : SameNumbers r us numbers ps = λ x. numbers_by places r.arena numbers ps are.at (named_slot r x) (node_of us x) (named_is places r us x t) in
    map_shown places (slot_draft r (grown_of r) (prop_lists r) numbers) (node_draft us ps) slots (λ i m. draft_is places r us numbers ps t are same i (alive i m))
    ∙ ap (λ xs. drafts_of us xs) shown
