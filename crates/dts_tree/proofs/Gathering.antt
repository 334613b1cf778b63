-- What each slot has is what the definitions say of its place.
use Rattle.std.proofs.Common.{◌≡◌, ◌∙◌, ◌<◌, ◌∷◌, [], ℕ, Bool, true, false, not, cond, ◌&&◌, ◌||◌, List, Option, Some, None, length, map, get_or, set, refl, sym, ap, subst, inl, inr, eqb}
use Rattle.std.specs.Prelude.{unwrap_or}
use Rattle.std.specs.List.{list_any, filter, filter_map, fold, cons_option}
use Rattle.std.specs.Str.{bytes_eq}
use Rattle.std.proofs.lemmas.Bool.{cases_eq, eq-eqb, ne_eqb, false_from_ne_true}
use Rattle.std.proofs.lemmas.List.{get_or-set_same, get_or-set_other, length-set, length-replicate, get_or-replicate}
use Rattle.dts_parse.specs.StmtData.{ActData, PartData, Open, Close, Label, Assign, DelProp, DelNode, Omit}
use Rattle.dts_tree.specs.Places.{Place, place_eq}
use Rattle.dts_tree.specs.Deeds.{Deed}
use Rattle.dts_tree.specs.Live.{with_new, firsts, last_of, value, value_in, labels, label_in, is_marked, marks}
use Rattle.dts_tree.specs.Inner.Arena.{ArenaData, is_gone}
use Rattle.dts_tree.specs.Inner.Machine.{EventData, LabelsData}
use Rattle.dts_tree.specs.Inner.Grown.{GrownData, no_grown, with_act, taken, grown_from, value_at, labels_at}
use Rattle.dts_tree.proofs.Lists.{Member}
use Rattle.dts_tree.proofs.PlaceLaws.{same_place, place_is}
use Rattle.dts_tree.proofs.Shape.{IsShaped, IsSound, place_at, there_within, apart}
use Rattle.dts_tree.proofs.Tying.{IsTied, deed_of, event_alive, alive_false}

-- slots that are there are the same where their places are
pub same_slot : (a : ArenaData) (places : List Place) → IsShaped a.spots places → IsSound a → (i j : ℕ) → is_gone a.gone i ≡ false → is_gone a.gone j ≡ false
    → place_eq (place_at places i) (place_at places j) ≡ eqb i j
same_slot a places shape sound i j g h = elim (cases_eq i j) [
  | inl e ↦ place_is (place_at places i) (place_at places j) (ap (place_at places) e) ∙ sym (eq-eqb i j e)
  | inr n ↦ false_from_ne_true (place_eq (place_at places i) (place_at places j)) (λ e. n (apart a places shape sound i j g h (same_place (place_at places i) (place_at places j) e))) ∙ sym (ne_eqb i j n)
]

-- ---- what events give a slot

abbrev value_act : ActData → Option (List PartData)
value_act (Open t) = None
value_act Close = None
value_act (Label l) = None
value_act (Assign n v) = Some v
value_act (DelProp n) = None
value_act (DelNode t) = None
value_act (Omit t) = None

abbrev label_act : ActData → Option (List ℕ)
label_act (Open t) = None
label_act Close = None
label_act (Label l) = Some l
label_act (Assign n v) = None
label_act (DelProp n) = None
label_act (DelNode t) = None
label_act (Omit t) = None

abbrev mark_act : ActData → Bool
mark_act (Open t) = false
mark_act Close = false
mark_act (Label l) = false
mark_act (Assign n v) = false
mark_act (DelProp n) = false
mark_act (DelNode t) = false
mark_act (Omit t) = true

abbrev if_same : {X : Type 0} → Bool → Option X → Option X
if_same b o = cond b o None

value_if : (p at : Place) (act : ActData) → value_in p at act ≡ if_same (place_eq p at) (value_act act)
value_if p at (Open t) = elim (place_eq p at) as (λ b. None ≡ if_same {X = List PartData} b None) [ true ↦ refl | false ↦ refl ]
value_if p at Close = elim (place_eq p at) as (λ b. None ≡ if_same {X = List PartData} b None) [ true ↦ refl | false ↦ refl ]
value_if p at (Label l) = elim (place_eq p at) as (λ b. None ≡ if_same {X = List PartData} b None) [ true ↦ refl | false ↦ refl ]
value_if p at (Assign n v) = refl
value_if p at (DelProp n) = elim (place_eq p at) as (λ b. None ≡ if_same {X = List PartData} b None) [ true ↦ refl | false ↦ refl ]
value_if p at (DelNode t) = elim (place_eq p at) as (λ b. None ≡ if_same {X = List PartData} b None) [ true ↦ refl | false ↦ refl ]
value_if p at (Omit t) = elim (place_eq p at) as (λ b. None ≡ if_same {X = List PartData} b None) [ true ↦ refl | false ↦ refl ]

label_if : (p at : Place) (act : ActData) → label_in p at act ≡ if_same (place_eq p at) (label_act act)
label_if p at (Open t) = elim (place_eq p at) as (λ b. None ≡ if_same {X = List ℕ} b None) [ true ↦ refl | false ↦ refl ]
label_if p at Close = elim (place_eq p at) as (λ b. None ≡ if_same {X = List ℕ} b None) [ true ↦ refl | false ↦ refl ]
label_if p at (Label l) = refl
label_if p at (Assign n v) = elim (place_eq p at) as (λ b. None ≡ if_same {X = List ℕ} b None) [ true ↦ refl | false ↦ refl ]
label_if p at (DelProp n) = elim (place_eq p at) as (λ b. None ≡ if_same {X = List ℕ} b None) [ true ↦ refl | false ↦ refl ]
label_if p at (DelNode t) = elim (place_eq p at) as (λ b. None ≡ if_same {X = List ℕ} b None) [ true ↦ refl | false ↦ refl ]
label_if p at (Omit t) = elim (place_eq p at) as (λ b. None ≡ if_same {X = List ℕ} b None) [ true ↦ refl | false ↦ refl ]

mark_if : (p at : Place) (act : ActData) → marks p at act ≡ (place_eq p at && mark_act act)
mark_if p at (Open t) = elim (place_eq p at) as (λ b. false ≡ (b && false)) [ true ↦ refl | false ↦ refl ]
mark_if p at Close = elim (place_eq p at) as (λ b. false ≡ (b && false)) [ true ↦ refl | false ↦ refl ]
mark_if p at (Label l) = elim (place_eq p at) as (λ b. false ≡ (b && false)) [ true ↦ refl | false ↦ refl ]
mark_if p at (Assign n v) = elim (place_eq p at) as (λ b. false ≡ (b && false)) [ true ↦ refl | false ↦ refl ]
mark_if p at (DelProp n) = elim (place_eq p at) as (λ b. false ≡ (b && false)) [ true ↦ refl | false ↦ refl ]
mark_if p at (DelNode t) = elim (place_eq p at) as (λ b. false ≡ (b && false)) [ true ↦ refl | false ↦ refl ]
mark_if p at (Omit t) = elim (place_eq p at) as (λ b. b ≡ (b && true)) [ true ↦ refl | false ↦ refl ]

-- the same of slots
abbrev slot_value : ℕ → EventData → Option (List PartData)
slot_value i e = if_same (eqb i e.slot) (value_act e.act)

abbrev slot_label : ℕ → EventData → Option (List ℕ)
slot_label i e = if_same (eqb i e.slot) (label_act e.act)

abbrev slot_mark : ℕ → EventData → Bool
slot_mark i e = eqb i e.slot && mark_act e.act

abbrev over : {X : Type 0} → Option X → X → X
over None d = d
over (Some x) d = x

abbrev noted : Option (List ℕ) → List (List ℕ) → List (List ℕ)
noted None ls = ls
noted (Some l) ls = with_new bytes_eq ls l

-- ---- one event

record Sizes (n : ℕ) (g : GrownData) : Type 0 where
  values : length g.values ≡ n
  marks : length g.marks ≡ n
  labels : length g.labels ≡ n

sizes_act : (n : ℕ) (g : GrownData) (i : ℕ) (act : ActData) → Sizes n g → Sizes n (with_act g i act)
sizes_act n g i (Open t) s = s
sizes_act n g i Close s = s
sizes_act n g i (Label l) s = record { values = s.values; marks = s.marks; labels = length-set g.labels i (with_new bytes_eq (get_or g.labels i []) l) ∙ s.labels }
sizes_act n g i (Assign k v) s = record { values = length-set g.values i v ∙ s.values; marks = s.marks; labels = s.labels }
sizes_act n g i (DelProp k) s = s
sizes_act n g i (DelNode t) s = s
sizes_act n g i (Omit t) s = record { values = s.values; marks = length-set g.marks i true ∙ s.marks; labels = s.labels }

none_over : (b : Bool) (v : List PartData) → v ≡ over (if_same b None) v
none_over true v = refl
none_over false v = refl

none_noted : (b : Bool) (v : List (List ℕ)) → v ≡ noted (if_same b None) v
none_noted true v = refl
none_noted false v = refl

none_marked : (b m : Bool) → m ≡ (m || (b && false))
none_marked true true = refl
none_marked true false = refl
none_marked false true = refl
none_marked false false = refl

value_set : (n : ℕ) (g : GrownData) (i j : ℕ) (v : List PartData) → Sizes n g → i < n → get_or (set g.values j v) i [] ≡ over (if_same (eqb i j) (Some v)) (get_or g.values i [])
value_set n g i j v s l = elim (cases_eq i j) [
  | inl e ↦ subst (λ k. get_or (set g.values k v) i [] ≡ over (if_same (eqb i k) (Some v)) (get_or g.values i [])) e
      (get_or-set_same g.values i v [] (subst (λ m. i < m) (sym s.values) l) ∙ ap (λ b. over (if_same b (Some v)) (get_or g.values i [])) (sym (eq-eqb i i refl)))
  | inr d ↦ get_or-set_other g.values j i v [] d ∙ ap (λ b. over (if_same b (Some v)) (get_or g.values i [])) (sym (ne_eqb i j d))
]

value_act_at : (n : ℕ) (g : GrownData) (i j : ℕ) (act : ActData) → Sizes n g → i < n → value_at (with_act g j act) i ≡ over (if_same (eqb i j) (value_act act)) (value_at g i)
value_act_at n g i j (Open t) s l = none_over (eqb i j) (value_at g i)
value_act_at n g i j Close s l = none_over (eqb i j) (value_at g i)
value_act_at n g i j (Label k) s l = none_over (eqb i j) (value_at g i)
value_act_at n g i j (Assign k v) s l = value_set n g i j v s l
value_act_at n g i j (DelProp k) s l = none_over (eqb i j) (value_at g i)
value_act_at n g i j (DelNode t) s l = none_over (eqb i j) (value_at g i)
value_act_at n g i j (Omit t) s l = none_over (eqb i j) (value_at g i)

label_set : (n : ℕ) (g : GrownData) (i j : ℕ) (k : List ℕ) → Sizes n g → i < n
    → get_or (set g.labels j (with_new bytes_eq (get_or g.labels j []) k)) i [] ≡ noted (if_same (eqb i j) (Some k)) (get_or g.labels i [])
label_set n g i j k s l = elim (cases_eq i j) [
  | inl e ↦ subst (λ m. get_or (set g.labels m (with_new bytes_eq (get_or g.labels m []) k)) i [] ≡ noted (if_same (eqb i m) (Some k)) (get_or g.labels i [])) e
      (get_or-set_same g.labels i (with_new bytes_eq (get_or g.labels i []) k) [] (subst (λ m. i < m) (sym s.labels) l)
      ∙ ap (λ b. noted (if_same b (Some k)) (get_or g.labels i [])) (sym (eq-eqb i i refl)))
  | inr d ↦ get_or-set_other g.labels j i (with_new bytes_eq (get_or g.labels j []) k) [] d ∙ ap (λ b. noted (if_same b (Some k)) (get_or g.labels i [])) (sym (ne_eqb i j d))
]

label_act_at : (n : ℕ) (g : GrownData) (i j : ℕ) (act : ActData) → Sizes n g → i < n → labels_at (with_act g j act) i ≡ noted (if_same (eqb i j) (label_act act)) (labels_at g i)
label_act_at n g i j (Open t) s l = none_noted (eqb i j) (labels_at g i)
label_act_at n g i j Close s l = none_noted (eqb i j) (labels_at g i)
label_act_at n g i j (Label k) s l = label_set n g i j k s l
label_act_at n g i j (Assign k v) s l = none_noted (eqb i j) (labels_at g i)
label_act_at n g i j (DelProp k) s l = none_noted (eqb i j) (labels_at g i)
label_act_at n g i j (DelNode t) s l = none_noted (eqb i j) (labels_at g i)
label_act_at n g i j (Omit t) s l = none_noted (eqb i j) (labels_at g i)

or_true : (m : Bool) → true ≡ (m || (true && true))
or_true true = refl
or_true false = refl

or_none : (m : Bool) → m ≡ (m || (false && true))
or_none true = refl
or_none false = refl

mark_set : (n : ℕ) (g : GrownData) (i j : ℕ) → Sizes n g → i < n → get_or (set g.marks j true) i false ≡ (get_or g.marks i false || (eqb i j && true))
mark_set n g i j s l = elim (cases_eq i j) [
  | inl e ↦ subst (λ m. get_or (set g.marks m true) i false ≡ (get_or g.marks i false || (eqb i m && true))) e
      (get_or-set_same g.marks i true false (subst (λ m. i < m) (sym s.marks) l)
      ∙ (or_true (get_or g.marks i false) ∙ ap (λ b. get_or g.marks i false || (b && true)) (sym (eq-eqb i i refl))))
  | inr d ↦ get_or-set_other g.marks j i true false d ∙ (or_none (get_or g.marks i false) ∙ ap (λ b. get_or g.marks i false || (b && true)) (sym (ne_eqb i j d)))
]

mark_act_at : (n : ℕ) (g : GrownData) (i j : ℕ) (act : ActData) → Sizes n g → i < n
    → get_or (with_act g j act).marks i false ≡ (get_or g.marks i false || (eqb i j && mark_act act))
mark_act_at n g i j (Open t) s l = none_marked (eqb i j) (get_or g.marks i false)
mark_act_at n g i j Close s l = none_marked (eqb i j) (get_or g.marks i false)
mark_act_at n g i j (Label k) s l = none_marked (eqb i j) (get_or g.marks i false)
mark_act_at n g i j (Assign k v) s l = none_marked (eqb i j) (get_or g.marks i false)
mark_act_at n g i j (DelProp k) s l = none_marked (eqb i j) (get_or g.marks i false)
mark_act_at n g i j (DelNode t) s l = none_marked (eqb i j) (get_or g.marks i false)
mark_act_at n g i j (Omit t) s l = mark_set n g i j s l

-- ---- all events

sizes_taken : (b : Bool) (n : ℕ) (g : GrownData) (e : EventData) → Sizes n g → Sizes n (cond b g (with_act g e.slot e.act))
sizes_taken true n g e s = s
sizes_taken false n g e s = sizes_act n g e.slot e.act s

abbrev overs : List PartData → List (List PartData) → List PartData
overs d vs = fold (λ _ v. v) d vs

values_by : (b : Bool) (gone : List Bool) (n i : ℕ) (g : GrownData) (e : EventData) (es : List EventData) → Sizes n g → i < n
    → value_at (grown_from gone (cond b g (with_act g e.slot e.act)) es) i
    ≡ overs (value_at (cond b g (with_act g e.slot e.act)) i) (filter_map (slot_value i) (filter (event_alive gone) es))
    → value_at (grown_from gone (cond b g (with_act g e.slot e.act)) es) i
    ≡ overs (value_at g i) (filter_map (slot_value i) (cond (not b) (e ∷ filter (event_alive gone) es) (filter (event_alive gone) es)))
values_by true gone n i g e es s l h = h
values_by false gone n i g e es s l h =
    h ∙ (ap (λ v. overs v (filter_map (slot_value i) (filter (event_alive gone) es))) (value_act_at n g i e.slot e.act s l)
    ∙ over_cons (slot_value i e) (value_at g i) (filter_map (slot_value i) (filter (event_alive gone) es)))
  where
    over_cons : (o : Option (List PartData)) (d : List PartData) (vs : List (List PartData)) → overs (over o d) vs ≡ overs d (cons_option o vs)
    over_cons None d vs = refl
    over_cons (Some v) d vs = refl

values_all : (gone : List Bool) (n i : ℕ) (es : List EventData) (g : GrownData) → Sizes n g → i < n
    → value_at (grown_from gone g es) i ≡ overs (value_at g i) (filter_map (slot_value i) (filter (event_alive gone) es))
values_all gone n i [] g s l = refl
values_all gone n i (e ∷ es) g s l =
    values_by (is_gone gone e.slot) gone n i g e es s l (values_all gone n i es (taken gone g e) (sizes_taken (is_gone gone e.slot) n g e s) l)

noted_cons : (o : Option (List ℕ)) (d : List (List ℕ)) (vs : List (List ℕ)) → fold (with_new bytes_eq) (noted o d) vs ≡ fold (with_new bytes_eq) d (cons_option o vs)
noted_cons None d vs = refl
noted_cons (Some v) d vs = refl

labels_by : (b : Bool) (gone : List Bool) (n i : ℕ) (g : GrownData) (e : EventData) (es : List EventData) → Sizes n g → i < n
    → labels_at (grown_from gone (cond b g (with_act g e.slot e.act)) es) i
    ≡ fold (with_new bytes_eq) (labels_at (cond b g (with_act g e.slot e.act)) i) (filter_map (slot_label i) (filter (event_alive gone) es))
    → labels_at (grown_from gone (cond b g (with_act g e.slot e.act)) es) i
    ≡ fold (with_new bytes_eq) (labels_at g i) (filter_map (slot_label i) (cond (not b) (e ∷ filter (event_alive gone) es) (filter (event_alive gone) es)))
labels_by true gone n i g e es s l h = h
labels_by false gone n i g e es s l h =
    h ∙ (ap (λ v. fold (with_new bytes_eq) v (filter_map (slot_label i) (filter (event_alive gone) es))) (label_act_at n g i e.slot e.act s l)
    ∙ noted_cons (slot_label i e) (labels_at g i) (filter_map (slot_label i) (filter (event_alive gone) es)))

labels_all : (gone : List Bool) (n i : ℕ) (es : List EventData) (g : GrownData) → Sizes n g → i < n
    → labels_at (grown_from gone g es) i ≡ fold (with_new bytes_eq) (labels_at g i) (filter_map (slot_label i) (filter (event_alive gone) es))
labels_all gone n i [] g s l = refl
labels_all gone n i (e ∷ es) g s l =
    labels_by (is_gone gone e.slot) gone n i g e es s l (labels_all gone n i es (taken gone g e) (sizes_taken (is_gone gone e.slot) n g e s) l)

or_assoc : (a b c : Bool) → ((a || b) || c) ≡ (a || (b || c))
or_assoc true b c = refl
or_assoc false b c = refl

marks_by : (b : Bool) (gone : List Bool) (n i : ℕ) (g : GrownData) (e : EventData) (es : List EventData) → Sizes n g → i < n
    → get_or (grown_from gone (cond b g (with_act g e.slot e.act)) es).marks i false
    ≡ (get_or (cond b g (with_act g e.slot e.act)).marks i false || list_any (slot_mark i) (filter (event_alive gone) es))
    → get_or (grown_from gone (cond b g (with_act g e.slot e.act)) es).marks i false
    ≡ (get_or g.marks i false || list_any (slot_mark i) (cond (not b) (e ∷ filter (event_alive gone) es) (filter (event_alive gone) es)))
marks_by true gone n i g e es s l h = h
marks_by false gone n i g e es s l h =
    h ∙ (ap (λ v. v || list_any (slot_mark i) (filter (event_alive gone) es)) (mark_act_at n g i e.slot e.act s l)
    ∙ or_assoc (get_or g.marks i false) (slot_mark i e) (list_any (slot_mark i) (filter (event_alive gone) es)))

marks_all : (gone : List Bool) (n i : ℕ) (es : List EventData) (g : GrownData) → Sizes n g → i < n
    → get_or (grown_from gone g es).marks i false ≡ (get_or g.marks i false || list_any (slot_mark i) (filter (event_alive gone) es))
marks_all gone n i [] g s l = or_false (get_or g.marks i false)
  where
    or_false : (m : Bool) → m ≡ (m || false)
    or_false true = refl
    or_false false = refl
marks_all gone n i (e ∷ es) g s l =
    marks_by (is_gone gone e.slot) gone n i g e es s l (marks_all gone n i es (taken gone g e) (sizes_taken (is_gone gone e.slot) n g e s) l)

-- ---- against the deeds

picked_same : {X : Type 0} (f : EventData → Option X) (h : Deed → Option X) (v : EventData → Deed) (es : List EventData)
    → ((e : EventData) → Member e es → f e ≡ h (v e)) → filter_map f es ≡ filter_map h (map v es)
picked_same f h v [] same = refl
picked_same f h v (e ∷ es) same = ap (λ o. cons_option o (filter_map f es)) (same e (inl refl)) ∙ ap (cons_option (h (v e))) (picked_same f h v es (λ x m. same x (inr m)))

any_same : (f : EventData → Bool) (h : Deed → Bool) (v : EventData → Deed) (es : List EventData)
    → ((e : EventData) → Member e es → f e ≡ h (v e)) → list_any f es ≡ list_any h (map v es)
any_same f h v [] same = refl
any_same f h v (e ∷ es) same = ap (λ b. b || list_any f es) (same e (inl refl)) ∙ ap (λ b. h (v e) || b) (any_same f h v es (λ x m. same x (inr m)))

overs_last : (d : List PartData) (o : Option (List PartData)) (vs : List (List PartData)) → overs (unwrap_or o d) vs ≡ unwrap_or (fold (λ _ v. Some v) o vs) d
overs_last d o [] = refl
overs_last d o (v ∷ vs) = overs_last d (Some v) vs

none_sizes : (n : ℕ) → Sizes n (no_grown n)
none_sizes n = record { values = length-replicate n []; marks = length-replicate n false; labels = length-replicate n [] }

pub value_is : (places : List Place) (a : ArenaData) (es : List EventData) (l : LabelsData) (us : List Deed) → IsTied places a es l us → (i : ℕ) → is_gone a.gone i ≡ false
    → value_at (grown_from a.gone (no_grown (length a.spots)) es) i ≡ value us (place_at places i)
value_is places a es l us t i g =
    let n : ℕ = length a.spots in
    let w : i < n = subst (λ m. i < m) t.sound.gone (there_within a.gone i g) in
    values_all a.gone n i es (no_grown n) (none_sizes n) w
    ∙ (ap (λ d. overs d (filter_map (slot_value i) (filter (event_alive a.gone) es))) (get_or-replicate n i [] [] w)
    ∙ (overs_last [] None (filter_map (slot_value i) (filter (event_alive a.gone) es))
    ∙ ap (λ vs. unwrap_or (last_of vs) [])
    (picked_same (slot_value i) (λ d. value_in (place_at places i) d.at d.act) (deed_of places) (filter (event_alive a.gone) es) (λ e m.
    let h = alive_false a.gone e.slot (Rattle.dts_tree.proofs.Lists.member_of_filter (event_alive a.gone) es e m).1 in
    ap (λ b. if_same b (value_act e.act)) (sym (same_slot a places t.shape t.sound i e.slot g h)) ∙ sym (value_if (place_at places i) (place_at places e.slot) e.act))
    ∙ ap (filter_map (λ (d : Deed). value_in (place_at places i) d.at d.act)) t.events)))

pub labels_are : (places : List Place) (a : ArenaData) (es : List EventData) (l : LabelsData) (us : List Deed) → IsTied places a es l us → (i : ℕ) → is_gone a.gone i ≡ false
    → labels_at (grown_from a.gone (no_grown (length a.spots)) es) i ≡ labels us (place_at places i)
labels_are places a es l us t i g =
    let n : ℕ = length a.spots in
    let w : i < n = subst (λ m. i < m) t.sound.gone (there_within a.gone i g) in
    labels_all a.gone n i es (no_grown n) (none_sizes n) w
    ∙ (ap (λ d. fold (with_new bytes_eq) d (filter_map (slot_label i) (filter (event_alive a.gone) es))) (get_or-replicate n i [] [] w)
    ∙ ap (firsts bytes_eq)
    (picked_same (slot_label i) (λ d. label_in (place_at places i) d.at d.act) (deed_of places) (filter (event_alive a.gone) es) (λ e m.
    let h = alive_false a.gone e.slot (Rattle.dts_tree.proofs.Lists.member_of_filter (event_alive a.gone) es e m).1 in
    ap (λ b. if_same b (label_act e.act)) (sym (same_slot a places t.shape t.sound i e.slot g h)) ∙ sym (label_if (place_at places i) (place_at places e.slot) e.act))
    ∙ ap (filter_map (λ (d : Deed). label_in (place_at places i) d.at d.act)) t.events))

pub mark_is : (places : List Place) (a : ArenaData) (es : List EventData) (l : LabelsData) (us : List Deed) → IsTied places a es l us → (i : ℕ) → is_gone a.gone i ≡ false
    → get_or (grown_from a.gone (no_grown (length a.spots)) es).marks i false ≡ is_marked us (place_at places i)
mark_is places a es l us t i g =
    let n : ℕ = length a.spots in
    let w : i < n = subst (λ m. i < m) t.sound.gone (there_within a.gone i g) in
    marks_all a.gone n i es (no_grown n) (none_sizes n) w
    ∙ (ap (λ b. b || list_any (slot_mark i) (filter (event_alive a.gone) es)) (get_or-replicate n i false false w)
    ∙ (any_same (slot_mark i) (λ d. marks (place_at places i) d.at d.act) (deed_of places) (filter (event_alive a.gone) es) (λ e m.
    let h = alive_false a.gone e.slot (Rattle.dts_tree.proofs.Lists.member_of_filter (event_alive a.gone) es e m).1 in
    ap (λ b. b && mark_act e.act) (sym (same_slot a places t.shape t.sound i e.slot g h)) ∙ sym (mark_if (place_at places i) (place_at places e.slot) e.act))
    ∙ ap (list_any (λ (d : Deed). marks (place_at places i) d.at d.act)) t.events))
