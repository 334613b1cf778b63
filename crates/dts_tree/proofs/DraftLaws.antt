-- What the drafts of walked nodes keep.
use Rattle.std.proofs.Common.{◌≡◌, ◌∙◌, ◌+◌, ◌%◌, ◌<◌, ◌≤◌, ◌∷◌, [], ℕ, zero, suc, true, false, List, Option, Some, None, length, map, get_or, refl, sym, ap, subst, inl, inr, arith}
use Rattle.std.specs.Prelude.{slice_get, All, IfSome}
use Rattle.std.specs.Option.{option_and_then}
use Rattle.std.specs.List.{IsDistinct, AllByRecursion}
use Rattle.std.specs.Str.{bytes_eq}
use Rattle.std.proofs.lemmas.Bool.{false≢true, false_from_ne_true, eqb-true}
use Rattle.std.proofs.lemmas.List.{length-map}
use Rattle.std.proofs.lemmas.Option.{same_Some, none-some, slice_get_within, slice_get-get_or}
use Rattle.std.proofs.lemmas.Iterator.Adapters.{position_from-zero}
use Rattle.edt_base.specs.SourceNames.{is_node_name}
use Rattle.edt_base.specs.TreeData.{IsKindOf, EndsWithZero}
use Rattle.edt_base.specs.declared.node.Kind.{Kind}
use Rattle.edt_base.specs.declared.node.Kind.TheVariants as kind
use Rattle.dts_parse.specs.StmtData.{PartData, Plain, Cells, Path}
use Rattle.dts_parse.specs.Nested.{is_good_part, is_good_plain, ends_with_zero, is_even}
use Rattle.dts_parse.specs.declared.script.RawCell.{RawCell}
use Rattle.dts_parse.specs.declared.script.RawCell.TheVariants as cell
use Rattle.dts_parse.specs.declared.script.Target.{Target}
use Rattle.dts_tree.specs.declared.spot.Step.{Step}
use Rattle.dts_tree.specs.declared.spot.Step.TheVariants.{Child, Prop}
use Rattle.dts_tree.specs.Places.{Place, place_eq, is_within, is_prop_of, name_of, step_name, path_text}
use Rattle.dts_tree.specs.Deeds.{Deed}
use Rattle.dts_tree.specs.Live.{spots, props, value, labels, node_of}
use Rattle.dts_tree.specs.Drafts.{DraftPartData, DraftData, number_in, number_of, cell_draft, part_draft, prop_draft, parent_number, node_draft, drafts_of}
use Rattle.dts_tree.specs.Inner.DraftRules.{AreDrafts, IsAbove, itself, further, path_below, has_draft_label, IsCellOf, IsPartOf}
use Rattle.dts_tree.proofs.Lists.{Member, and_parts, all_at, any_find, member_of_map, member_of_filter}
use Rattle.dts_tree.proofs.PlaceLaws.{same_place, same_bytes, within_cases}
use Rattle.dts_tree.proofs.Apart.{Apart, apart_filter, shown_apart, spots_apart, member_at, index_of, same_index, number_at, number_is}
use Rattle.dts_tree.proofs.WalkLaws.{IsNext}
use Rattle.dts_tree.proofs.GoodPlaces.{is_good_place, AreGood, spot_good, value_good}
use Rattle.dts_tree.proofs.PathTexts.{IsNodes, paths_tell}

-- the nodes of a walk over the tree of these deeds
pub record AreWalked (us : List Deed) (ps : List Place) : Type 0 where
  pub few : length ps ≤ 65535
  pub first : slice_get ps 0 ≡ Some []
  pub apart : Apart ps
  pub below : (s : Step) (p : Place) → Member (s ∷ p) ps → (n : List ℕ) × (s ≡ Child n) × Member p ps × Member (s ∷ p) (spots us)
  pub next : (i : ℕ) (q r : Place) → slice_get ps i ≡ Some q → slice_get ps (i + 1) ≡ Some r → IsNext q r
  pub good : AreGood us
  pub labelled : (p q : Place) (l : List ℕ) → Member p ps → Member q ps → Member l (labels us p) → Member l (labels us q) → p ≡ q

-- ---- a draft and its place

drawn : (f : Place → DraftData) (ps : List Place) (i : ℕ) (d : DraftData) → slice_get (map f ps) i ≡ Some d → (p : Place) × (slice_get ps i ≡ Some p) × (f p ≡ d)
drawn f [] i d h = absurd (none-some d h)
drawn f (p ∷ ps) zero d h = (p, refl, same_Some (f p) d h)
drawn f (p ∷ ps) (suc i) d h = drawn f ps i d h

draw : (f : Place → DraftData) (ps : List Place) (i : ℕ) (p : Place) → slice_get ps i ≡ Some p → slice_get (map f ps) i ≡ Some (f p)
draw f [] i p h = absurd (none-some p h)
draw f (q ∷ ps) zero p h = ap (λ x. Some (f x)) (same_Some q p h)
draw f (q ∷ ps) (suc i) p h = draw f ps i p h

numbered : (ps : List Place) → Apart ps → (i : ℕ) (p : Place) → slice_get ps i ≡ Some p → number_in ps p ≡ Some i
numbered ps a i p h = position_from-zero (place_eq p) ps ∙ (number_at ps a i 0 p h ∙ ap Some (let z : 0 + i ≡ i = omega arith in z))

standing : (ps : List Place) (k : ℕ) (p : Place) → number_in ps p ≡ Some k → slice_get ps k ≡ Some p
standing ps k p h =
    let r = number_is ps 0 k p (sym (position_from-zero (place_eq p) ps) ∙ h) in
    let e : r.0 ≡ k = let s : k ≡ 0 + r.0 = r.1 in omega arith in
    subst (λ j. slice_get ps j ≡ Some p) e r.2

-- a node below another, by its number
record IsUnder (ps : List Place) (k : ℕ) (p : Place) : Type 0 where
  step : Step
  up : Place
  place : p ≡ step ∷ up
  number : slice_get ps k ≡ Some up

under : (ps : List Place) (k : ℕ) (p : Place) → parent_number ps p ≡ Some k → IsUnder ps k p
under ps k [] h = absurd (none-some k h)
under ps k (s ∷ p) h = record { step = s; up = p; place = refl; number = standing ps k p h }

at_root : (us : List Deed) (ps : List Place) → AreWalked us ps → (p : Place) → Member p ps → parent_number ps p ≡ None → p ≡ []
at_root us ps w [] m h = refl
at_root us ps w (s ∷ p) m h =
    let b = w.below s p m in
    let i = index_of ps p b.2 in
    absurd (none-some i.0 (sym h ∙ numbered ps w.apart i.0 p i.1))

nodes_of : (us : List Deed) (ps : List Place) → AreWalked us ps → (p : Place) → Member p ps → IsNodes p
nodes_of us ps w [] m = tt
nodes_of us ps w (s ∷ p) m = let b = w.below s p m in subst (λ t. IsNodes (t ∷ p)) (sym b.1) (nodes_of us ps w p b.2)

good_of : (us : List Deed) (ps : List Place) → AreWalked us ps → (p : Place) → Member p ps → is_good_place p ≡ true
good_of us ps w [] m = refl
good_of us ps w (s ∷ p) m = spot_good us (s ∷ p) w.good (w.below s p m).3

name_good : (us : List Deed) (ps : List Place) → AreWalked us ps → (s : Step) (p : Place) → Member (s ∷ p) ps → is_node_name (step_name s) ≡ true
name_good us ps w s p m =
    let b = w.below s p m in
    let g : is_good_place (Child b.0 ∷ p) ≡ true = subst (λ t. is_good_place (t ∷ p) ≡ true) b.1 (good_of us ps w (s ∷ p) m) in
    subst (λ t. is_node_name (step_name t) ≡ true) (sym b.1) (and_parts (is_node_name b.0) (is_good_place p) g).0

-- ---- preorder

above : (us : List Deed) (ps : List Place) → AreWalked us ps → (w q : Place) (i j : ℕ) → is_within q w ≡ true → slice_get ps i ≡ Some w → slice_get ps j ≡ Some q
    → IsAbove (drafts_of us ps) j i
above us ps a [] q i j h g k =
    let same : q ≡ [] = same_place q [] h in
    let e : i ≡ j = same_index ps a.apart i j [] g (subst (λ x. slice_get ps j ≡ Some x) same k) in
    subst (λ x. IsAbove (drafts_of us ps) j x) (sym e) (itself j)
above us ps a (s ∷ v) q i j h g k = elim (within_cases q s v h) [
  | inl e ↦
      let z : i ≡ j = same_index ps a.apart i j (s ∷ v) g (subst (λ x. slice_get ps j ≡ Some x) e k) in
      subst (λ x. IsAbove (drafts_of us ps) j x) (sym z) (itself j)
  | inr n ↦
      let b = a.below s v (member_at ps i (s ∷ v) g) in
      let up = index_of ps v b.2 in
      further i up.0 j (node_draft us ps (s ∷ v)) (draw (node_draft us ps) ps i (s ∷ v) g) (numbered ps a.apart up.0 v up.1) (above us ps a v q up.0 j n up.1 k)
]

prior : {X : Type 0} (xs : List X) (i : ℕ) (x : X) → slice_get xs (i + 1) ≡ Some x → (y : X) × (slice_get xs i ≡ Some y)
prior [] i x h = absurd (none-some x h)
prior (z ∷ xs) i x h =
    let l : i + 1 < length (z ∷ xs) = slice_get_within (z ∷ xs) (i + 1) x h in
    (get_or (z ∷ xs) i z, slice_get-get_or (z ∷ xs) i z (omega arith))

preordered : (us : List Deed) (ps : List Place) → AreWalked us ps → (i k : ℕ) (d : DraftData) → slice_get (drafts_of us ps) (i + 1) ≡ Some d → d.parent ≡ Some k
    → IsAbove (drafts_of us ps) k i
preordered us ps a i k d h e =
    let r = drawn (node_draft us ps) ps (i + 1) d h in
    let u : IsUnder ps k r.0 = under ps k r.0 (ap (λ (x : DraftData). x.parent) r.2 ∙ e) in
    let w = prior ps i r.0 r.1 in
    let n : IsNext w.0 (u.step ∷ u.up) = subst (λ x. IsNext w.0 x) u.place (a.next i w.0 r.0 w.1 r.1) in
    above us ps a w.0 u.up i k n w.1 u.number

-- what stands at or above a place isn't behind it, where parents up to there are before
abbrev Before : List DraftData → ℕ → Type 0
Before ds n = (i k : ℕ) (d : DraftData) → i ≤ n → slice_get ds i ≡ Some d → d.parent ≡ Some k → k < i

above_low : (ds : List DraftData) (n q i : ℕ) → Before ds n → i ≤ n → IsAbove ds q i → q ≤ i
above_low ds n q i b l (itself j) = omega arith
above_low ds n q i b l (further j p r d g e over) =
    let up : p < i = b i p d l g e in
    let low : q ≤ p = above_low ds n q p b (omega (arith, l, up)) over in
    omega (arith, low, up)

before : (us : List Deed) (ps : List Place) → AreWalked us ps → (n : ℕ) → Before (drafts_of us ps) n
before us ps a n zero k d l g e =
    let r = drawn (node_draft us ps) ps 0 d g in
    let root : r.0 ≡ [] = same_Some r.0 [] (sym r.1 ∙ a.first) in
    let none : None ≡ Some k = ap (parent_number ps) (sym root) ∙ (ap (λ (x : DraftData). x.parent) r.2 ∙ e) in
    absurd (none-some k none)
before us ps a zero (suc j) k d l g e = absurd (omega arith)
before us ps a (suc n) (suc j) k d l g e =
    let same : suc j ≡ j + 1 = omega arith in
    let r = preordered us ps a j k d (subst (λ x. slice_get (drafts_of us ps) x ≡ Some d) same g) e in
    let low : k ≤ j = above_low (drafts_of us ps) n k j (before us ps a n) (omega arith) r in
    omega arith

-- ---- paths

path_by : (ps : List Place) (s : Step) (q : Place) (o : Option ℕ) → parent_number ps q ≡ o → (q ≡ [] → o ≡ None) → ((t : Step) (w : Place) → q ≡ t ∷ w → o ≡ None → ⊥)
    → path_text (s ∷ q) ≡ path_below o (path_text q) (step_name s)
path_by ps s [] None e root some = refl
path_by ps s [] (Some k) e root some = let bad : Some k ≡ None = root refl in absurd (none-some k (sym bad))
path_by ps s (t ∷ w) None e root some = absurd (some t w refl refl)
path_by ps s (t ∷ w) (Some k) e root some = refl

path_made : (us : List Deed) (ps : List Place) → AreWalked us ps → (s : Step) (q : Place) → Member q ps → path_text (s ∷ q) ≡ path_below (parent_number ps q) (path_text q) (step_name s)
path_made us ps a s q m =
    path_by ps s q (parent_number ps q) refl (λ e. ap (parent_number ps) e) (λ t w e n.
    let root : q ≡ [] = at_root us ps a q m n in
    let bad : [] ≡ t ∷ w = sym root ∙ e in
    absurd (cc))

-- ---- properties

prop_is : (p q : Place) → is_prop_of p q ≡ true → (n : List ℕ) × (q ≡ Prop n ∷ p)
prop_is p [] h = absurd (false≢true h)
prop_is p (Child n ∷ q) h = absurd (false≢true h)
prop_is p (Prop n ∷ q) h = (n, ap (λ r. Prop n ∷ r) (sym (same_place p q h)))

names_shown : (us : List Deed) (ps : List Place) (qs : List Place) → map (λ (p : List ℕ × List DraftPartData). p.0) (map (prop_draft us ps) qs) ≡ map name_of qs
names_shown us ps [] = refl
names_shown us ps (q ∷ qs) = ap (λ t. name_of q ∷ t) (names_shown us ps qs)

all_rec : {X : Type 0} (P : X → Type 0) (xs : List X) → ((x : X) → Member x xs → P x) → AllByRecursion P xs
all_rec P [] h = tt
all_rec P (x ∷ xs) h = (h x (inl refl), all_rec P xs (λ y m. h y (inr m)))

distinct : (xs : List (List ℕ)) → Apart xs → IsDistinct bytes_eq xs
unfolding IsDistinct
distinct [] a = tt
distinct (x ∷ xs) a =
    (all_rec (λ y. bytes_eq x y ≡ false) xs (λ y m. false_from_ne_true (bytes_eq x y) (λ e. a.0 (subst (λ z. Member z xs) (sym (same_bytes x y e)) m))), distinct xs a.1)

props_distinct : (us : List Deed) (ps : List Place) (p : Place) → IsDistinct bytes_eq (map (λ (x : List ℕ × List DraftPartData). x.0) (map (prop_draft us ps) (props us p)))
props_distinct us ps p =
    subst (λ xs. IsDistinct bytes_eq xs) (sym (names_shown us ps (props us p)))
    (distinct (map name_of (props us p)) (shown_apart name_of (props us p) (apart_filter (is_prop_of p) (spots us) (spots_apart us)) (λ x y m n e.
    let a = prop_is p x (member_of_filter (is_prop_of p) (spots us) x m).1 in
    let b = prop_is p y (member_of_filter (is_prop_of p) (spots us) y n).1 in
    let same : a.0 ≡ b.0 = ap name_of (sym a.1) ∙ (e ∙ ap name_of b.1) in
    a.1 ∙ (ap (λ k. Prop k ∷ p) same ∙ sym b.1))))

-- ---- parts

all_of : {X : Type 0} (P : X → Type 0) (xs : List X) → ((x : X) → Member x xs → P x) → All P xs
all_of P [] h k d l = absurd (omega arith)
all_of P (x ∷ xs) h zero d l = h x (inl refl)
all_of P (x ∷ xs) h (suc k) d l = all_of P xs (λ y m. h y (inr m)) k d (omega arith)

all_mapped : {X Y : Type 0} (P : Y → Type 0) (f : X → Y) (xs : List X) → ((x : X) → Member x xs → P (f x)) → All P (map f xs)
all_mapped P f xs h = all_of P (map f xs) (λ y m. let r = member_of_map f xs y m in subst P r.2 (h r.0 r.1))

ends : (bytes : List ℕ) → ends_with_zero bytes ≡ true → EndsWithZero bytes
ends [] h = absurd (false≢true h)
ends (b ∷ []) h = ([], ap (λ x. x ∷ []) (eqb-true b 0 h))
ends (b ∷ c ∷ rest) h = let r = ends (c ∷ rest) h in (b ∷ r.0, ap (λ x. b ∷ x) r.1)

two_more : (n : ℕ) → n % 2 ≡ 0 → suc (suc n) % 2 ≡ 0
two_more n h = omega arith

even : (bytes : List ℕ) → is_even bytes ≡ true → length bytes % 2 ≡ 0
even [] h = refl
even (b ∷ []) h = absurd (false≢true h)
even (b ∷ c ∷ rest) h = two_more (length rest) (even rest h)

plain_kind : (k : Kind) (bytes : List ℕ) → is_good_plain k bytes ≡ true → IsKindOf [] k bytes
plain_kind kind.Str bytes h = ends bytes h
plain_kind kind.Cells bytes h = absurd (false≢true h)
plain_kind kind.Hex bytes h = tt
plain_kind kind.Wide bytes h = even bytes h
plain_kind kind.Path bytes h = absurd (false≢true h)

some_low : (ps : List Place) (o : Option ℕ) → ((i : ℕ) → o ≡ Some i → i < length ps) → IfSome o (λ i. i < length ps)
some_low ps None h = tt
some_low ps (Some i) h = h i refl

number_low : (ps : List Place) (p : Option Place) (i : ℕ) → option_and_then (number_in ps) p ≡ Some i → i < length ps
number_low ps None i h = absurd (none-some i h)
number_low ps (Some p) i h = slice_get_within ps i p (standing ps i p h)

target_low : (us : List Deed) (ps : List Place) (t : Target) → IfSome (number_of us ps t) (λ i. i < length ps)
target_low us ps t = some_low ps (number_of us ps t) (λ i e. number_low ps (node_of us t) i e)

cell_low : (us : List Deed) (ps : List Place) (c : RawCell) → IsCellOf (length ps) (cell_draft us ps c)
cell_low us ps (cell.Num n) = tt
cell_low us ps (cell.Ref t) = target_low us ps t

part_good : (us : List Deed) (ps : List Place) (p : PartData) → is_good_part p ≡ true → IsPartOf (length ps) (part_draft us ps p)
part_good us ps (Plain p) h = plain_kind p.kind p.bytes h
part_good us ps (Cells cells) h = all_mapped (IsCellOf (length ps)) (cell_draft us ps) cells (λ c m. cell_low us ps c)
part_good us ps (Path t) h = target_low us ps t

parts_good : (us : List Deed) (ps : List Place) → AreGood us → (p : Place)
    → All (λ (x : List ℕ × List DraftPartData). All (IsPartOf (length ps)) x.1) (map (prop_draft us ps) (props us p))
parts_good us ps g p =
    all_mapped (λ (x : List ℕ × List DraftPartData). All (IsPartOf (length ps)) x.1) (prop_draft us ps) (props us p) (λ q m.
    all_mapped (IsPartOf (length ps)) (part_draft us ps) (value us q) (λ x n. part_good us ps x (all_at is_good_part (value us q) x (value_good us q g) n)))

-- ---- all of it

label_in : (label : List ℕ) (d : DraftData) → has_draft_label label d → Member label d.labels
label_in label d h =
    let r = any_find (λ l. bytes_eq l label) d.labels h in
    subst (λ x. Member x d.labels) (same_bytes r.0 label r.2) r.1

-- the drafts of walked nodes keep all that is wanted
pub walked_drafts : (us : List Deed) (ps : List Place) → AreWalked us ps → AreDrafts (drafts_of us ps)
walked_drafts us ps a =
    let f : Place → DraftData = node_draft us ps in
    let len : length (map f ps) ≡ length ps = length-map ps f in
    record {
      few = omega (arith, a.few, len);
      some = let l : 0 < length ps = slice_get_within ps 0 [] a.first in omega (arith, len);
      root = λ d h.
          let r = drawn f ps 0 d h in
          let root : r.0 ≡ [] = same_Some r.0 [] (sym r.1 ∙ a.first) in
          sym (ap (λ (x : DraftData). x.parent) r.2) ∙ ap (parent_number ps) root;
      alone = λ i d h e.
          let r = drawn f ps i d h in
          let root : r.0 ≡ [] = at_root us ps a r.0 (member_at ps i r.0 r.1) (ap (λ (x : DraftData). x.parent) r.2 ∙ e) in
          same_index ps a.apart i 0 [] (subst (λ x. slice_get ps i ≡ Some x) root r.1) a.first;
      parents = λ i p d h e. before us ps a i i p d (omega arith) h e;
      preorder = λ i p d h e. preordered us ps a i p d h e;
      root_name = λ i d h e.
          let r = drawn f ps i d h in
          let root : r.0 ≡ [] = at_root us ps a r.0 (member_at ps i r.0 r.1) (ap (λ (x : DraftData). x.parent) r.2 ∙ e) in
          sym (ap (λ (x : DraftData). x.name) r.2) ∙ ap name_of root;
      root_path = λ i d h e.
          let r = drawn f ps i d h in
          let root : r.0 ≡ [] = at_root us ps a r.0 (member_at ps i r.0 r.1) (ap (λ (x : DraftData). x.parent) r.2 ∙ e) in
          sym (ap (λ (x : DraftData). x.path) r.2) ∙ ap path_text root;
      names = λ i p d h e.
          let r = drawn f ps i d h in
          let u : IsUnder ps p r.0 = under ps p r.0 (ap (λ (x : DraftData). x.parent) r.2 ∙ e) in
          let m : Member (u.step ∷ u.up) ps = subst (λ x. Member x ps) u.place (member_at ps i r.0 r.1) in
          let same : d.name ≡ step_name u.step = sym (ap (λ (x : DraftData). x.name) r.2) ∙ ap name_of u.place in
          ap is_node_name same ∙ name_good us ps a u.step u.up m;
      paths = λ i p d up h e g.
          let r = drawn f ps i d h in
          let u : IsUnder ps p r.0 = under ps p r.0 (ap (λ (x : DraftData). x.parent) r.2 ∙ e) in
          let s = drawn f ps p up g in
          let same : u.up ≡ s.0 = same_Some u.up s.0 (sym u.number ∙ s.1) in
          let above_it : f u.up ≡ up = ap f same ∙ s.2 in
          let made : path_text (u.step ∷ u.up) ≡ path_below (parent_number ps u.up) (path_text u.up) (step_name u.step) =
          path_made us ps a u.step u.up (member_at ps p u.up u.number) in
          let name : step_name u.step ≡ d.name = ap name_of (sym u.place) ∙ ap (λ (x : DraftData). x.name) r.2 in
          sym (ap (λ (x : DraftData). x.path) r.2) ∙ (ap path_text u.place
          ∙ (made ∙ (ap (λ (x : DraftData). path_below x.parent x.path (step_name u.step)) above_it ∙ ap (path_below up.parent up.path) name)));
      paths_apart = λ i j d e h g k.
          let r = drawn f ps i d h in
          let s = drawn f ps j e g in
          let m : Member r.0 ps = member_at ps i r.0 r.1 in
          let n : Member s.0 ps = member_at ps j s.0 s.1 in
          let text : path_text r.0 ≡ path_text s.0 = ap (λ (x : DraftData). x.path) r.2 ∙ (k ∙ sym (ap (λ (x : DraftData). x.path) s.2)) in
          let same : r.0 ≡ s.0 = paths_tell r.0 s.0 (nodes_of us ps a r.0 m) (nodes_of us ps a s.0 n) (good_of us ps a r.0 m) (good_of us ps a s.0 n) text in
          same_index ps a.apart i j s.0 (subst (λ x. slice_get ps i ≡ Some x) same r.1) s.1;
      labels_apart = λ i j d e label h g k l.
          let r = drawn f ps i d h in
          let s = drawn f ps j e g in
          let m : Member label (labels us r.0) = label_in label (f r.0) (subst (λ x. has_draft_label label x) (sym r.2) k) in
          let n : Member label (labels us s.0) = label_in label (f s.0) (subst (λ x. has_draft_label label x) (sym s.2) l) in
          let same : r.0 ≡ s.0 = a.labelled r.0 s.0 label (member_at ps i r.0 r.1) (member_at ps j s.0 s.1) m n in
          same_index ps a.apart i j s.0 (subst (λ x. slice_get ps i ≡ Some x) same r.1) s.1;
      props_apart = λ i d h.
          let r = drawn f ps i d h in
          subst (λ (x : DraftData). IsDistinct bytes_eq (map (λ (p : List ℕ × List DraftPartData). p.0) x.props)) r.2 (props_distinct us ps r.0);
      parts = λ i d h.
          let r = drawn f ps i d h in
          subst (λ (x : DraftData). All (λ (p : List ℕ × List DraftPartData). All (IsPartOf (length (map f ps))) p.1) x.props) r.2
          (subst (λ n. All (λ (p : List ℕ × List DraftPartData). All (IsPartOf n) p.1) (map (prop_draft us ps) (props us r.0))) (sym len) (parts_good us ps a.good r.0));
    }
