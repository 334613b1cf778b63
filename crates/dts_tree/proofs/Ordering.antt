-- What stands below each slot, and the order of the slots, are those of their places.
use Rattle.std.proofs.Common.{◌≡◌, ◌∙◌, ◌+◌, ◌<◌, ◌≤◌, ◌++◌, ◌∷◌, [], ℕ, zero, suc, Bool, true, false, not, cond, ◌&&◌, List, length, map, get_or, set, replicate, refl, sym, ap, subst, inl, inr, arith, eqb, ltb}
use Rattle.std.specs.List.{filter, flat_map, range_with_len}
use Rattle.std.proofs.lemmas.Bool.{cases_eq, cases_lt, eqb-true, eq-eqb, ne_eqb, lt-ltb, ltb-true}
use Rattle.std.proofs.lemmas.List.{get_or-set_same, get_or-set_other, get_or_past, get_or_at, length-set, length-replicate, get_or-replicate, append_assoc, append-nil, length-append, map-append}
use Rattle.std.proofs.lemmas.Option.{slice_get-get_or}
use Rattle.dts_tree.specs.declared.spot.Step.{Step}
use Rattle.dts_tree.specs.declared.spot.Step.TheVariants.{Child, Prop}
use Rattle.dts_tree.specs.declared.spot.Spot.{Spot}
use Rattle.dts_tree.specs.Places.{Place, place_eq, is_child_of, is_prop_of}
use Rattle.dts_tree.specs.Deeds.{Deed}
use Rattle.dts_tree.specs.Live.{spots, props}
use Rattle.dts_tree.specs.Reading.{Before, live}
use Rattle.dts_tree.specs.Whole.{walk, kept_children, preorder}
use Rattle.dts_tree.specs.Inner.Arena.{ArenaData, is_gone, is_alive, spot}
use Rattle.dts_tree.specs.Inner.Slots.{is_node}
use Rattle.dts_tree.specs.Inner.Machine.{EventData, LabelsData, ReaderData}
use Rattle.dts_tree.specs.Inner.Grown.{is_kid, with_kid, kids_from, kids_of, alive_list, below_in, AreRising, ParentsRise, order_of}
use Rattle.dts_tree.proofs.Lists.{Member, member_of_filter, member_of_range, member_cases, filter_shown, and_parts, all_from}
use Rattle.dts_tree.proofs.Shape.{IsShaped, IsSound, place_at, parent_at, step_at, spot_at, there_within}
use Rattle.dts_tree.proofs.Gathering.{same_slot}
use Rattle.dts_tree.proofs.Tying.{IsTied, alive_false}
use Rattle.dts_tree.proofs.Walking.{walk_enough}

-- ---- the lists of slots below slots

abbrev pub kid_test : List Spot → List Bool → Bool → ℕ → ℕ → Bool
kid_test spots keep node i j = is_kid keep node j (spot_at spots j) && eqb (parent_at spots j) i

-- those from a place on, for one slot
abbrev kid_slots : List Bool → Bool → ℕ → ℕ → List Spot → List ℕ
kid_slots keep node i first [] = []
kid_slots keep node i first (s ∷ ss) = cond (is_kid keep node first s && eqb s.parent i) (first ∷ kid_slots keep node i (first + 1) ss) (kid_slots keep node i (first + 1) ss)

with_len : (b : Bool) (ls : List (List ℕ)) (p j : ℕ) → length (cond b (set ls p (get_or ls p [] ++ j ∷ [])) ls) ≡ length ls
with_len true ls p j = length-set ls p (get_or ls p [] ++ j ∷ [])
with_len false ls p j = refl

kid_at : (b : Bool) (ls : List (List ℕ)) (p i j : ℕ) (rest : List ℕ) → i < length ls
    → get_or (cond b (set ls p (get_or ls p [] ++ j ∷ [])) ls) i [] ++ rest ≡ get_or ls i [] ++ cond (b && eqb p i) (j ∷ rest) rest
kid_at false ls p i j rest l = refl
kid_at true ls p i j rest l = elim (cases_eq p i) [
  | inl e ↦
      subst (λ k. get_or (set ls k (get_or ls k [] ++ j ∷ [])) i [] ++ rest ≡ get_or ls i [] ++ cond (eqb k i) (j ∷ rest) rest) (sym e)
      (ap (λ t. t ++ rest) (get_or-set_same ls i (get_or ls i [] ++ j ∷ []) [] l)
      ∙ (append_assoc (get_or ls i []) (j ∷ []) rest ∙ ap (λ b. get_or ls i [] ++ cond b (j ∷ rest) rest) (sym (eq-eqb i i refl))))
  | inr n ↦
      let d : i ≡ p → ⊥ = λ e. n (sym e) in
      ap (λ t. t ++ rest) (get_or-set_other ls p i (get_or ls p [] ++ j ∷ []) [] d)
      ∙ ap (λ b. get_or ls i [] ++ cond b (j ∷ rest) rest) (sym (ne_eqb p i n))
]

kids_at : (keep : List Bool) (node : Bool) (i first : ℕ) (ss : List Spot) (ls : List (List ℕ)) → i < length ls
    → below_in (kids_from keep node first ls ss) i ≡ get_or ls i [] ++ kid_slots keep node i first ss
kids_at keep node i first [] ls l = sym (append-nil (get_or ls i []))
kids_at keep node i first (s ∷ ss) ls l =
    let len : length (with_kid keep node ls first s) ≡ length ls = with_len (is_kid keep node first s) ls s.parent first in
    kids_at keep node i (first + 1) ss (with_kid keep node ls first s) (subst (λ m. i < m) (sym len) l)
    ∙ kid_at (is_kid keep node first s) ls s.parent i first (kid_slots keep node i (first + 1) ss) l

kids_len : (keep : List Bool) (node : Bool) (first : ℕ) (ss : List Spot) (ls : List (List ℕ)) → length (kids_from keep node first ls ss) ≡ length ls
kids_len keep node first [] ls = refl
kids_len keep node first (s ∷ ss) ls = kids_len keep node (first + 1) ss (with_kid keep node ls first s) ∙ with_len (is_kid keep node first s) ls s.parent first

pub kids_length : (spots : List Spot) (keep : List Bool) (node : Bool) → length (kids_of spots keep node) ≡ length spots
kids_length spots keep node = kids_len keep node 0 spots (replicate (length spots) []) ∙ length-replicate (length spots) []

slots_ranged : (spots : List Spot) (keep : List Bool) (node : Bool) (i : ℕ) (ss pre : List Spot) → spots ≡ pre ++ ss
    → kid_slots keep node i (length pre) ss ≡ filter (kid_test spots keep node i) (range_with_len (length pre) (length ss))
slots_ranged spots keep node i [] pre e = refl
slots_ranged spots keep node i (s ∷ ss) pre e =
    let here : spot_at spots (length pre) ≡ s = ap (λ xs. spot_at xs (length pre)) e ∙ get_or_at pre s ss (spot (Child []) 0) (length pre) refl in
    let same : kid_test spots keep node i (length pre) ≡ (is_kid keep node (length pre) s && eqb s.parent i) =
    ap (λ (x : Spot). is_kid keep node (length pre) x && eqb x.parent i) here in
    let more : length (pre ++ s ∷ []) ≡ length pre + 1 = length-append pre (s ∷ []) in
    let whole : spots ≡ (pre ++ s ∷ []) ++ ss = e ∙ sym (append_assoc pre (s ∷ []) ss) in
    let rest : kid_slots keep node i (length pre + 1) ss ≡ filter (kid_test spots keep node i) (range_with_len (length pre + 1) (length ss)) =
    subst (λ m. kid_slots keep node i m ss ≡ filter (kid_test spots keep node i) (range_with_len m (length ss))) more (slots_ranged spots keep node i ss (pre ++ s ∷ []) whole) in
    ap (λ b. cond b (length pre ∷ kid_slots keep node i (length pre + 1) ss) (kid_slots keep node i (length pre + 1) ss)) (sym same)
    ∙ ap (λ t. cond (kid_test spots keep node i (length pre)) (length pre ∷ t) t) rest

-- the slots below one are those that pass
pub kids_are : (spots : List Spot) (keep : List Bool) (node : Bool) (i : ℕ) → i < length spots
    → below_in (kids_of spots keep node) i ≡ filter (kid_test spots keep node i) (range_with_len 0 (length spots))
kids_are spots keep node i l =
    kids_at keep node i 0 spots (replicate (length spots) []) (subst (λ m. i < m) (sym (length-replicate (length spots) [])) l)
    ∙ (ap (λ t. t ++ kid_slots keep node i 0 spots) (get_or-replicate (length spots) i [] [] l)
    ∙ slots_ranged spots keep node i spots [] refl)

pub kids_past : (spots : List Spot) (keep : List Bool) (node : Bool) (i : ℕ) → length spots ≤ i → below_in (kids_of spots keep node) i ≡ []
kids_past spots keep node i l = get_or_past (kids_of spots keep node) i [] (subst (λ m. m ≤ i) (sym (kids_length spots keep node)) l)

-- what is known of a slot below another
kid_known : (spots : List Spot) (keep : List Bool) (node : Bool) (i j : ℕ) → Member j (below_in (kids_of spots keep node) i)
    → (get_or keep j false ≡ true) × (0 < j) × (j < length spots) × (parent_at spots j ≡ i)
kid_known spots keep node i j m = elim (cases_lt i (length spots)) [
  | inl l ↦
      let r = member_of_filter (kid_test spots keep node i) (range_with_len 0 (length spots)) j (subst (λ xs. Member j xs) (kids_are spots keep node i l) m) in
      let low = member_of_range j 0 (length spots) r.0 in
      let t = and_parts (is_kid keep node j (spot_at spots j)) (eqb (parent_at spots j) i) r.1 in
      let k = and_parts (get_or keep j false) (ltb 0 j && cond (is_node (spot_at spots j)) node (not node)) t.0 in
      let p = and_parts (ltb 0 j) (cond (is_node (spot_at spots j)) node (not node)) k.1 in
      (k.0, ltb-true 0 j p.0, omega (arith, low.1), eqb-true (parent_at spots j) i t.1)
  | inr l ↦ absurd (subst (λ xs. Member j xs) (kids_past spots keep node i l) m)
]

-- slots below stand behind
pub kids_rising : (spots : List Spot) (keep : List Bool) (node : Bool) → ((j : ℕ) → 0 < j → j < length spots → parent_at spots j < j) → AreRising (kids_of spots keep node)
kids_rising spots keep node rise = record {
  above = λ i. all_from (ltb i) (below_in (kids_of spots keep node) i) (λ j m.
      let k = kid_known spots keep node i j m in
      let up : parent_at spots j < j = rise j k.1 k.2 in
      lt-ltb i j (subst (λ p. p < j) k.3 up));
  within = λ i. all_from (λ j. ltb j (length (kids_of spots keep node))) (below_in (kids_of spots keep node) i) (λ j m.
      let k = kid_known spots keep node i j m in
      lt-ltb j (length (kids_of spots keep node)) (subst (λ n. j < n) (sym (kids_length spots keep node)) k.2));
}

-- the same of spots whose parents stand before them
pub rising_kids : (spots : List Spot) (keep : List Bool) (node : Bool) → ParentsRise spots → AreRising (kids_of spots keep node)
rising_kids spots keep node rise = kids_rising spots keep node (λ j p l. rise.before j (spot_at spots j) (slice_get-get_or spots j (spot (Child []) 0) l) p)

pub some_kids : (spots : List Spot) (keep : List Bool) (node : Bool) → ParentsRise spots → 0 < length (kids_of spots keep node)
some_kids spots keep node rise = subst (λ n. 0 < n) (sym (kids_length spots keep node)) rise.some

-- ---- against the places

-- a list of marks that says of each slot that it is there and that its place passes
abbrev pub Keeps : List Place → ArenaData → List Bool → (Place → Bool) → Type 0
Keeps places a keep test = (j : ℕ) → get_or keep j false ≡ (is_alive a.gone j && test (place_at places j))

node_if : (b : Bool) → cond b true (not true) ≡ b
node_if true = refl
node_if false = refl

prop_if : (b : Bool) → cond b false (not false) ≡ not b
prop_if true = refl
prop_if false = refl

and_false : (b : Bool) → (b && false) ≡ false
and_false true = refl
and_false false = refl

zero_child : (p : Place) (t : Bool) → (is_child_of p [] && t) ≡ false
zero_child p t = refl

-- whether a place stands below another, by its last step
child_step : (s : Step) (p q : Place) (up : ℕ) (c : Bool) → place_eq p q ≡ c → is_child_of p (s ∷ q) ≡ (Rattle.dts_tree.specs.Inner.Slots.is_node_step s && c)
child_step (Child n) p q up c e = e
child_step (Prop n) p q up c e = refl

prop_step : (s : Step) (p q : Place) (up : ℕ) (c : Bool) → place_eq p q ≡ c → is_prop_of p (s ∷ q) ≡ (not (Rattle.dts_tree.specs.Inner.Slots.is_node_step s) && c)
prop_step (Child n) p q up c e = refl
prop_step (Prop n) p q up c e = e

eqb_sym : (x y : ℕ) → eqb x y ≡ eqb y x
eqb_sym x y = elim (cases_eq x y) [ inl e ↦ eq-eqb x y e ∙ sym (eq-eqb y x (sym e)) | inr n ↦ ne_eqb x y n ∙ sym (ne_eqb y x (λ e. n (sym e))) ]

shuffle : (k n c : Bool) → ((true && k && (true && n)) && c) ≡ (true && (n && c && k))
shuffle true true true = refl
shuffle true true false = refl
shuffle true false c = refl
shuffle false true true = refl
shuffle false true false = refl
shuffle false false c = refl

test_by : (b : Bool) (places : List Place) (a : ArenaData) (keep : List Bool) (test : Place → Bool) (i j : ℕ) → IsShaped a.spots places → IsSound a → Keeps places a keep test
    → is_gone a.gone i ≡ false → is_alive a.gone j ≡ b
    → kid_test a.spots keep true i j ≡ (b && (is_child_of (place_at places i) (place_at places j) && test (place_at places j)))
test_by false places a keep test i j shape sound keeps g h =
    ap (λ k. (k && (ltb 0 j && cond (is_node (spot_at a.spots j)) true (not true))) && eqb (parent_at a.spots j) i) (keeps j ∙ ap (λ b. b && test (place_at places j)) h)
test_by true places a keep test i j shape sound keeps g h =
    let gj : is_gone a.gone j ≡ false = alive_false a.gone j h in
    let w : j < length a.spots = subst (λ m. j < m) sound.gone (there_within a.gone j gj) in
    let kept : get_or keep j false ≡ (true && test (place_at places j)) = keeps j ∙ ap (λ b. b && test (place_at places j)) h in
    elim (cases_eq j 0) [
      | inl z ↦
          let low : ltb 0 j ≡ false = ap (ltb 0) z in
          let root : place_at places j ≡ [] = ap (place_at places) z ∙ shape.root in
          ap (λ k. (get_or keep j false && (k && cond (is_node (spot_at a.spots j)) true (not true))) && eqb (parent_at a.spots j) i) low
          ∙ (ap (λ k. k && eqb (parent_at a.spots j) i) (and_false (get_or keep j false))
          ∙ ap (λ p. is_child_of (place_at places i) p && test p) (sym root))
      | inr n ↦
          let p : 0 < j = omega arith in
          let step = shape.steps j p w in
          let same : place_eq (place_at places i) (place_at places (parent_at a.spots j)) ≡ eqb (parent_at a.spots j) i =
          same_slot a places shape sound i (parent_at a.spots j) g (sound.parents j p gj) ∙ eqb_sym i (parent_at a.spots j) in
          let child : is_child_of (place_at places i) (place_at places j) ≡ (is_node (spot_at a.spots j) && eqb (parent_at a.spots j) i) =
          ap (is_child_of (place_at places i)) step ∙ child_step (step_at a.spots j) (place_at places i) (place_at places (parent_at a.spots j)) j (eqb (parent_at a.spots j) i) same in
          ap (λ k. (k && (ltb 0 j && cond (is_node (spot_at a.spots j)) true (not true))) && eqb (parent_at a.spots j) i) kept
          ∙ (ap (λ k. ((true && test (place_at places j)) && (k && cond (is_node (spot_at a.spots j)) true (not true))) && eqb (parent_at a.spots j) i) (lt-ltb 0 j p)
          ∙ (ap (λ k. ((true && test (place_at places j)) && (true && k)) && eqb (parent_at a.spots j) i) (node_if (is_node (spot_at a.spots j)))
          ∙ (shuffle (test (place_at places j)) (is_node (spot_at a.spots j)) (eqb (parent_at a.spots j) i)
          ∙ ap (λ c. true && (c && test (place_at places j))) (sym child))))
    ]

prop_by : (b : Bool) (places : List Place) (a : ArenaData) (keep : List Bool) (test : Place → Bool) (i j : ℕ) → IsShaped a.spots places → IsSound a → Keeps places a keep test
    → is_gone a.gone i ≡ false → is_alive a.gone j ≡ b
    → kid_test a.spots keep false i j ≡ (b && (is_prop_of (place_at places i) (place_at places j) && test (place_at places j)))
prop_by false places a keep test i j shape sound keeps g h =
    ap (λ k. (k && (ltb 0 j && cond (is_node (spot_at a.spots j)) false (not false))) && eqb (parent_at a.spots j) i) (keeps j ∙ ap (λ b. b && test (place_at places j)) h)
prop_by true places a keep test i j shape sound keeps g h =
    let gj : is_gone a.gone j ≡ false = alive_false a.gone j h in
    let w : j < length a.spots = subst (λ m. j < m) sound.gone (there_within a.gone j gj) in
    let kept : get_or keep j false ≡ (true && test (place_at places j)) = keeps j ∙ ap (λ b. b && test (place_at places j)) h in
    elim (cases_eq j 0) [
      | inl z ↦
          let low : ltb 0 j ≡ false = ap (ltb 0) z in
          let root : place_at places j ≡ [] = ap (place_at places) z ∙ shape.root in
          ap (λ k. (get_or keep j false && (k && cond (is_node (spot_at a.spots j)) false (not false))) && eqb (parent_at a.spots j) i) low
          ∙ (ap (λ k. k && eqb (parent_at a.spots j) i) (and_false (get_or keep j false))
          ∙ ap (λ p. is_prop_of (place_at places i) p && test p) (sym root))
      | inr n ↦
          let p : 0 < j = omega arith in
          let step = shape.steps j p w in
          let same : place_eq (place_at places i) (place_at places (parent_at a.spots j)) ≡ eqb (parent_at a.spots j) i =
          same_slot a places shape sound i (parent_at a.spots j) g (sound.parents j p gj) ∙ eqb_sym i (parent_at a.spots j) in
          let child : is_prop_of (place_at places i) (place_at places j) ≡ (not (is_node (spot_at a.spots j)) && eqb (parent_at a.spots j) i) =
          ap (is_prop_of (place_at places i)) step ∙ prop_step (step_at a.spots j) (place_at places i) (place_at places (parent_at a.spots j)) j (eqb (parent_at a.spots j) i) same in
          ap (λ k. (k && (ltb 0 j && cond (is_node (spot_at a.spots j)) false (not false))) && eqb (parent_at a.spots j) i) kept
          ∙ (ap (λ k. ((true && test (place_at places j)) && (k && cond (is_node (spot_at a.spots j)) false (not false))) && eqb (parent_at a.spots j) i) (lt-ltb 0 j p)
          ∙ (ap (λ k. ((true && test (place_at places j)) && (true && k)) && eqb (parent_at a.spots j) i) (prop_if (is_node (spot_at a.spots j)))
          ∙ (shuffle (test (place_at places j)) (not (is_node (spot_at a.spots j))) (eqb (parent_at a.spots j) i)
          ∙ ap (λ c. true && (c && test (place_at places j))) (sym child))))
    ]

twice_by : (b c : Bool) (k m : Place → Bool) (p : Place) (ps : List Place) → k p ≡ b → m p ≡ c → filter (λ q. k q && m q) ps ≡ filter m (filter k ps)
    → cond (b && c) (p ∷ filter (λ q. k q && m q) ps) (filter (λ q. k q && m q) ps) ≡ filter m (cond b (p ∷ filter k ps) (filter k ps))
twice_by true true k m p ps e f h = ap (λ t. p ∷ t) h ∙ ap (λ b. cond b (p ∷ filter m (filter k ps)) (filter m (filter k ps))) (sym f)
twice_by true false k m p ps e f h = h ∙ ap (λ b. cond b (p ∷ filter m (filter k ps)) (filter m (filter k ps))) (sym f)
twice_by false c k m p ps e f h = h

filter_twice : (k m : Place → Bool) (ps : List Place) → filter (λ q. k q && m q) ps ≡ filter m (filter k ps)
filter_twice k m [] = refl
filter_twice k m (p ∷ ps) = twice_by (k p) (m p) k m p ps refl refl (filter_twice k m ps)

pub kid_positive : (spots : List Spot) (keep : List Bool) (node : Bool) (i j : ℕ) → Member j (below_in (kids_of spots keep node) i) → 0 < j
kid_positive spots keep node i j m = (kid_known spots keep node i j m).1

-- the kept children of a node
pub children_are : (places : List Place) (a : ArenaData) (es : List EventData) (l : LabelsData) (us : List Deed) (keep : List Bool) (test : Place → Bool) → IsTied places a es l us
    → Keeps places a keep test → (i : ℕ) → is_gone a.gone i ≡ false
    → map (place_at places) (below_in (kids_of a.spots keep true) i) ≡ kept_children us test (place_at places i)
children_are places a es l us keep test t keeps i g =
    let w : i < length a.spots = subst (λ m. i < m) t.sound.gone (there_within a.gone i g) in
    ap (map (place_at places)) (kids_are a.spots keep true i w)
    ∙ (filter_shown (is_alive a.gone) (kid_test a.spots keep true i) (place_at places) (λ p. is_child_of (place_at places i) p && test p)
    (λ j. test_by (is_alive a.gone j) places a keep test i j t.shape t.sound keeps g refl) (range_with_len 0 (length a.spots))
    ∙ (ap (filter (λ p. is_child_of (place_at places i) p && test p)) t.slots ∙ filter_twice (is_child_of (place_at places i)) test (spots us)))

filter_always : (ps : List Place) → filter (λ p. true) ps ≡ ps
filter_always [] = refl
filter_always (p ∷ ps) = ap (λ t. p ∷ t) (filter_always ps)

-- the properties of a node
pub props_are : (places : List Place) (a : ArenaData) (es : List EventData) (l : LabelsData) (us : List Deed) (keep : List Bool) → IsTied places a es l us
    → Keeps places a keep (λ p. true) → (i : ℕ) → is_gone a.gone i ≡ false
    → map (place_at places) (below_in (kids_of a.spots keep false) i) ≡ props us (place_at places i)
props_are places a es l us keep t keeps i g =
    let w : i < length a.spots = subst (λ m. i < m) t.sound.gone (there_within a.gone i g) in
    ap (map (place_at places)) (kids_are a.spots keep false i w)
    ∙ (filter_shown (is_alive a.gone) (kid_test a.spots keep false i) (place_at places) (λ p. is_prop_of (place_at places i) p && true)
    (λ j. prop_by (is_alive a.gone j) places a keep (λ p. true) i j t.shape t.sound keeps g refl) (range_with_len 0 (length a.spots))
    ∙ (ap (filter (λ p. is_prop_of (place_at places i) p && true)) t.slots
    ∙ (filter_twice (is_prop_of (place_at places i)) (λ p. true) (spots us) ∙ filter_always (props us (place_at places i)))))

-- what is below a slot that is there is there
pub kid_alive : (places : List Place) (a : ArenaData) (keep : List Bool) (test : Place → Bool) (node : Bool) → Keeps places a keep test → (i j : ℕ)
    → Member j (below_in (kids_of a.spots keep node) i) → is_gone a.gone j ≡ false
kid_alive places a keep test node keeps i j m =
    let k = kid_known a.spots keep node i j m in
    alive_false a.gone j (and_parts (is_alive a.gone j) (test (place_at places j)) (sym (keeps j) ∙ k.0)).0

map_flat : (places : List Place) (f : ℕ → List ℕ) (g : Place → List Place) (is : List ℕ) → ((i : ℕ) → Member i is → map (place_at places) (f i) ≡ g (place_at places i))
    → map (place_at places) (flat_map f is) ≡ flat_map g (map (place_at places) is)
map_flat places f g [] h = refl
map_flat places f g (i ∷ is) h =
    map-append (place_at places) (f i) (flat_map f is)
    ∙ (ap (λ t. t ++ map (place_at places) (flat_map f is)) (h i (inl refl)) ∙ ap (λ t. g (place_at places i) ++ t) (map_flat places f g is (λ j m. h j (inr m))))

-- the walk over slots is the walk over their places
walks_same : (m : ℕ) (places : List Place) (a : ArenaData) (es : List EventData) (l : LabelsData) (us : List Deed) (keep : List Bool) (test : Place → Bool) → IsTied places a es l us
    → Keeps places a keep test → (i : ℕ) → is_gone a.gone i ≡ false
    → map (place_at places) (walk m (below_in (kids_of a.spots keep true)) i) ≡ walk m (kept_children us test) (place_at places i)
walks_same zero places a es l us keep test t keeps i g = refl
walks_same (suc m) places a es l us keep test t keeps i g =
    ap (λ x. place_at places i ∷ x)
    (map_flat places (walk m (below_in (kids_of a.spots keep true))) (walk m (kept_children us test)) (below_in (kids_of a.spots keep true) i)
    (λ j k. walks_same m places a es l us keep test t keeps j (kid_alive places a keep test true keeps i j k))
    ∙ ap (flat_map (walk m (kept_children us test))) (children_are places a es l us keep test t keeps i g))

pub shape_rises : (spots : List Spot) (places : List Place) → IsShaped spots places → (j : ℕ) → 0 < j → j < length spots → parent_at spots j < j
shape_rises spots places shape j p l = shape.parents j p l

-- the order of the kept slots is that of the kept nodes
pub order_is : (places : List Place) (r : ReaderData) (b : Before) (keep : List Bool) (test : Place → Bool) → IsTied places r.arena r.events r.labels (live b)
    → length r.arena.spots ≤ suc (length b.deeds) → Keeps places r.arena keep test
    → map (place_at places) (order_of (kids_of r.arena.spots keep true)) ≡ preorder b test
order_is places r b keep test t levels keeps =
    let lists : List (List ℕ) = kids_of r.arena.spots keep true in
    let len : length lists ≡ length r.arena.spots = kids_length r.arena.spots keep true in
    let rising : AreRising lists = kids_rising r.arena.spots keep true (shape_rises r.arena.spots places t.shape) in
    let some : 0 < length r.arena.spots = t.shape.some in
    let enough : order_of lists ≡ walk (suc (length b.deeds)) (below_in lists) 0 =
    walk_enough (length lists) (suc (length b.deeds)) lists rising 0 (omega arith) (omega arith) (omega arith) in
    ap (map (place_at places)) enough
    ∙ (walks_same (suc (length b.deeds)) places r.arena r.events r.labels (live b) keep test t keeps 0 t.sound.root
    ∙ ap (walk (suc (length b.deeds)) (kept_children (live b) test)) t.shape.root)

flat_member : (f : ℕ → List ℕ) (is : List ℕ) (j : ℕ) → Member j (flat_map f is) → (i : ℕ) × Member i is × Member j (f i)
flat_member f [] j m = absurd m
flat_member f (i ∷ is) j m = elim (member_cases j (f i) (flat_map f is) m) [
  | inl n ↦ (i, inl refl, n)
  | inr n ↦ let r = flat_member f is j n in (r.0, inr r.1, r.2)
]

walk_alive : (m : ℕ) (places : List Place) (a : ArenaData) (keep : List Bool) (test : Place → Bool) → Keeps places a keep test → (i j : ℕ) → is_gone a.gone i ≡ false
    → Member j (walk m (below_in (kids_of a.spots keep true)) i) → is_gone a.gone j ≡ false
walk_alive zero places a keep test keeps i j g m = absurd m
walk_alive (suc k) places a keep test keeps i j g (inl e) = subst (λ x. is_gone a.gone x ≡ false) e g
walk_alive (suc k) places a keep test keeps i j g (inr m) =
    let r = flat_member (walk k (below_in (kids_of a.spots keep true))) (below_in (kids_of a.spots keep true) i) j m in
    walk_alive k places a keep test keeps r.0 j (kid_alive places a keep test true keeps i r.0 r.1) r.2

pub order_alive : (places : List Place) (a : ArenaData) (keep : List Bool) (test : Place → Bool) → Keeps places a keep test → is_gone a.gone 0 ≡ false → (j : ℕ)
    → Member j (order_of (kids_of a.spots keep true)) → is_gone a.gone j ≡ false
order_alive places a keep test keeps g j m = walk_alive (length (kids_of a.spots keep true)) places a keep test keeps 0 j g m

-- the slots that are there are marked so
alive_marked : (gone : List Bool) (j : ℕ) → get_or (alive_list gone) j false ≡ is_alive gone j
alive_marked [] j = refl
alive_marked (b ∷ bs) zero = refl
alive_marked (b ∷ bs) (suc j) = alive_marked bs j

and_true : (b : Bool) → b ≡ (b && true)
and_true true = refl
and_true false = refl

pub alive_keeps : (places : List Place) (a : ArenaData) → Keeps places a (alive_list a.gone) (λ p. true)
alive_keeps places a j = alive_marked a.gone j ∙ and_true (is_alive a.gone j)
