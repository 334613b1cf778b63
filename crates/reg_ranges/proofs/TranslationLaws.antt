-- Addresses through ranges, one step at a time.
use Rattle.std.proofs.Common.{◌≡◌, ◌∙◌, ◌+◌, ◌-◌, ◌^◌, ◌<◌, ◌≤◌, ◌∷◌, [], ℕ, zero, suc, Bool, true, false, cond, not, ◌||◌, List, Option, Some, None, Result, Ok, Err, IsOk, is_ok, codes, option_map, option_and_then, unwrap_or, nat_lt, nat_le, length, map, drop, slice_index_or, slice_get, refl, sym, ap, subst, inl, inr, arith}
use Rattle.std.specs.List.{All, find, list_any}
use Rattle.std.specs.Option.{option_map_or}
use Rattle.std.proofs.lemmas.List.Elements.{All-nil, All-cons, All-head, All-tail}
use Rattle.std.proofs.lemmas.Option.{slice_get_past}
use Rattle.std.proofs.lemmas.Bool.{ltb-true, ltb-false, leb-true, eqb-true, and_parts, cases_lt}
use Rattle.edt_base.specs.NodeData.{NodeData, bytes_of}
use Rattle.edt_base.specs.Nodes.{prop_at}
use Rattle.edt_base.specs.Values.{value_cells}
use Rattle.edt_base.specs.TreeData.{parent_of, ancestors, ancestors_within}
use Rattle.edt_base.specs.declared.node.Part.{Part}
use Rattle.edt_base.specs.declared.bound.Range.{Range}
use Rattle.edt_base.specs.declared.fault.Rule.{Rule}
use Rattle.edt_base.specs.declared.fault.Rule.TheVariants as rule
use Rattle.reg_ranges.specs.Cutting.{entries, are_whole}
use Rattle.reg_ranges.specs.Ranges.{first_range, range_cells, is_beyond, ranges_cut, cut_ranges, shaped_ranges, shape_of, ranges_in, ranges_below, ranges_of}
use Rattle.reg_ranges.specs.Translation.{fits, moved, passed, translated, when_whole, way_through, translation, AreWhole, IsWithin, IsWithinWay}
use Rattle.reg_ranges.specs.declared.address_ranges.Shape.{Shape}
use Rattle.reg_ranges.proofs.CellLaws.{cells_short}
use Rattle.reg_ranges.proofs.EntryLaws.{entries_next, entries_none}

-- ---- the first entry of those that are left

pub entry_read : {X : Type 0} (make : List ℕ → X) (size : ℕ) (cells rest : List ℕ) (x : X) → 0 < size → 0 < length cells → x ≡ make cells → rest ≡ drop size cells
    → entries make size cells ≡ x ∷ entries make size rest
entry_read make size cells rest x some more is left =
    entries_next make size cells some more ∙ (ap (λ y. y ∷ entries make size (drop size cells)) (sym is) ∙ ap (λ cs. x ∷ entries make size cs) (sym left))

pub first_holds : {X : Type 0} (P : X → Type 0) (x : X) (es more : List X) → es ≡ x ∷ more → All P es → P x
first_holds P x es more e all = All-head P x more (subst (λ ys. All P ys) e all)

pub others_hold : {X : Type 0} (P : X → Type 0) (x : X) (es more : List X) → es ≡ x ∷ more → All P es → All P more
others_hold P x es more e all = All-tail P x more (subst (λ ys. All P ys) e all)

found_by : {X : Type 0} (test : X → Bool) (x : X) (more : List X) (b : Bool) → b ≡ true → cond b (Some x) (find test more) ≡ Some x
found_by test x more true e = refl
found_by test x more false e = cc

passed_by_test : {X : Type 0} (test : X → Bool) (x : X) (more : List X) (b : Bool) → b ≡ false → cond b (Some x) (find test more) ≡ find test more
passed_by_test test x more true e = cc
passed_by_test test x more false e = refl

pub found_first : {X : Type 0} (test : X → Bool) (x : X) (es more : List X) → es ≡ x ∷ more → test x ≡ true → find test es ≡ Some x
found_first test x es more e h = ap (find test) e ∙ found_by test x more (test x) h

pub found_later : {X : Type 0} (test : X → Bool) (x : X) (es more : List X) → es ≡ x ∷ more → test x ≡ false → find test es ≡ find test more
found_later test x es more e h = ap (find test) e ∙ passed_by_test test x more (test x) h

-- ---- ranges without fault

pub record IsCut (k : Shape) (value : List Part) : Type 0 where
  pub whole : are_whole (range_cells k) (length (bytes_of value)) ≡ true
  pub within : list_any is_beyond (ranges_cut k value) ≡ false
  pub is : cut_ranges k value ≡ Ok (ranges_cut k value)

cut_by : (k : Shape) (value : List Part) (b c : Bool) → are_whole (range_cells k) (length (bytes_of value)) ≡ b → list_any is_beyond (ranges_cut k value) ≡ c
    → IsOk (cond (not b) (Err rule.V19) (cond c (Err rule.V38) (Ok (ranges_cut k value))))
    → cut_ranges k value ≡ cond (not b) (Err rule.V19) (cond c (Err rule.V38) (Ok (ranges_cut k value))) → IsCut k value
cut_by k value true false e f ok is = record { whole = e; within = f; is = is }
cut_by k value true true e f ok is = cc
cut_by k value false c e f ok is = cc

pub cut_of : (k : Shape) (value : List Part) → IsOk (cut_ranges k value) → IsCut k value
cut_of k value ok = cut_by k value (are_whole (range_cells k) (length (bytes_of value))) (list_any is_beyond (ranges_cut k value)) refl refl ok refl

or_both : (a b : Bool) → (a || b) ≡ false → (a ≡ false) × (b ≡ false)
or_both true b e = cc
or_both false b e = (refl, e)

range_within : (r : Range) → is_beyond r ≡ false → IsWithin r
range_within r e =
    let both = or_both (nat_lt (2 ^ 128) (r.child + r.len)) (nat_lt (2 ^ 128) (r.parent + r.len)) e in
    record { child = ltb-false (2 ^ 128) (r.child + r.len) both.0; parent = ltb-false (2 ^ 128) (r.parent + r.len) both.1 }

pub all_within : (rs : List Range) → list_any is_beyond rs ≡ false → All IsWithin rs
all_within [] e = All-nil IsWithin
all_within (r ∷ rs) e =
    let both = or_both (is_beyond r) (list_any is_beyond rs) e in
    All-cons IsWithin r rs (range_within r both.0) (all_within rs both.1)

-- ranges that there are have cells
no_bytes : (n : ℕ) → are_whole 0 n ≡ true → n ≡ 0
no_bytes n e = eqb-true n 0 e

pub some_cells : (k : Shape) (value : List Part) → IsCut k value → 0 < length (value_cells value) → 0 < range_cells k
some_cells k value cut more =
    elim (cases_lt 0 (range_cells k)) [
      | inl some ↦ some
      | inr few ↦
          let none : range_cells k ≡ 0 = omega arith in
          let empty : length (bytes_of value) ≡ 0 = no_bytes (length (bytes_of value)) (subst (λ n. are_whole n (length (bytes_of value)) ≡ true) none cut.whole) in
          let short : value_cells value ≡ [] = cells_short (bytes_of value) (omega arith) in
          absurd (omega (arith, ap length short))
    ]

-- through no ranges, and through some
pub passed_empty : (k : Shape) (value : List Part) (a : ℕ) → IsCut k value → value_cells value ≡ [] → Some a ≡ passed (when_whole (cut_ranges k value)) a
passed_empty k value a cut e =
    sym (ap (λ r. passed (when_whole r) a) cut.is ∙ ap (λ rs. passed (Some rs) a) (entries_none (first_range k) (range_cells k) (value_cells value) e))

pub passed_some : (k : Shape) (value : List Part) (a : ℕ) → IsCut k value → 0 < length (value_cells value)
    → option_map (moved a) (find (fits a) (ranges_cut k value)) ≡ passed (when_whole (cut_ranges k value)) a
passed_some k value a cut more =
    let e : ranges_cut k value ≡ first_range k (value_cells value) ∷ entries (first_range k) (range_cells k) (drop (range_cells k) (value_cells value)) =
    entries_next (first_range k) (range_cells k) (value_cells value) (some_cells k value cut more) more in
    ap (λ rs. option_map (moved a) (find (fits a) rs)) e ∙ sym (ap (λ r. passed (when_whole r) a) cut.is ∙ ap (λ rs. passed (Some rs) a) e)

-- ---- one node after another

pub above_next : (nodes : List NodeData) (m j at up : ℕ) → m ≡ suc j → parent_of nodes at ≡ Some up → ancestors_within m nodes at ≡ up ∷ ancestors_within j nodes up
above_next nodes m j at up e f =
    ap (λ n. ancestors_within n nodes at) e ∙ ap (λ o. option_map_or (λ p. p ∷ ancestors_within j nodes p) o []) f

pub above_none : (nodes : List NodeData) (m at : ℕ) → parent_of nodes at ≡ None → ancestors_within m nodes at ≡ []
above_none nodes zero at f = refl
above_none nodes (suc j) at f = ap (λ o. option_map_or (λ p. p ∷ ancestors_within j nodes p) o []) f

-- where translation stops, and where it goes on
pub stopped : (way : Option (List Range)) (ways : List (Option (List Range))) (a : ℕ) → passed way a ≡ None → translated (way ∷ ways) a ≡ a
stopped way ways a e = ap (λ o. option_map_or (translated ways) o a) e

pub went_on : (way : Option (List Range)) (ways : List (Option (List Range))) (a b : ℕ) → passed way a ≡ Some b → translated (way ∷ ways) a ≡ translated ways b
went_on way ways a b e = ap (λ o. option_map_or (translated ways) o a) e

-- ---- on the way up

pub way_begins : (nodes : List NodeData) (at a : ℕ) → AreWhole nodes (ancestors nodes at)
    → (translated (map (way_through nodes) (ancestors_within (length nodes - 0) nodes at)) a ≡ translation nodes at a) × AreWhole nodes (ancestors_within (length nodes - 0) nodes at)
way_begins nodes at a whole =
    let e : length nodes - 0 ≡ length nodes = omega arith in
    (ap (λ m. translated (map (way_through nodes) (ancestors_within m nodes at)) a) e, subst (λ m. AreWhole nodes (ancestors_within m nodes at)) (sym e) whole)

pub way_at_root : (nodes : List NodeData) (m at a x : ℕ) → None ≡ parent_of nodes at → translated (map (way_through nodes) (ancestors_within m nodes at)) a ≡ x → a ≡ x
way_at_root nodes m at a x e h = subst (λ ids. translated (map (way_through nodes) ids) a ≡ x) (above_none nodes m at (sym e)) h

pub way_is_whole : (nodes : List NodeData) (m j at up : ℕ) → m ≡ suc j → Some up ≡ parent_of nodes at → AreWhole nodes (ancestors_within m nodes at)
    → IsOk (ranges_of nodes up) × AreWhole nodes (ancestors_within j nodes up)
way_is_whole nodes m j at up e f whole =
    let P : ℕ → Type 0 = λ id. IsOk (ranges_of nodes id) in
    let all : AreWhole nodes (up ∷ ancestors_within j nodes up) = subst (AreWhole nodes) (above_next nodes m j at up e (sym f)) whole in
    (All-head P up (ancestors_within j nodes up) all, All-tail P up (ancestors_within j nodes up) all)

pub way_stops : (nodes : List NodeData) (m j at up a x : ℕ) → m ≡ suc j → Some up ≡ parent_of nodes at → None ≡ passed (way_through nodes up) a
    → translated (map (way_through nodes) (ancestors_within m nodes at)) a ≡ x → a ≡ x
way_stops nodes m j at up a x e f none h =
    let h' : translated (map (way_through nodes) (up ∷ ancestors_within j nodes up)) a ≡ x =
    subst (λ ids. translated (map (way_through nodes) ids) a ≡ x) (above_next nodes m j at up e (sym f)) h in
    sym (stopped (way_through nodes up) (map (way_through nodes) (ancestors_within j nodes up)) a (sym none)) ∙ h'

pub way_goes : (nodes : List NodeData) (m j at up a b x : ℕ) → m ≡ suc j → Some up ≡ parent_of nodes at → Some b ≡ passed (way_through nodes up) a
    → translated (map (way_through nodes) (ancestors_within m nodes at)) a ≡ x → translated (map (way_through nodes) (ancestors_within j nodes up)) b ≡ x
way_goes nodes m j at up a b x e f on h =
    let h' : translated (map (way_through nodes) (up ∷ ancestors_within j nodes up)) a ≡ x =
    subst (λ ids. translated (map (way_through nodes) ids) a ≡ x) (above_next nodes m j at up e (sym f)) h in
    sym (went_on (way_through nodes up) (map (way_through nodes) (ancestors_within j nodes up)) a b (sym on)) ∙ h'

-- ---- an address stays within 128 bits

moved_by : (a : ℕ) (r : Range) (rs : List Range) (b : ℕ) (t : Bool) → IsWithin r → fits a r ≡ t → (option_map (moved a) (find (fits a) rs) ≡ Some b → b < 2 ^ 128)
    → option_map (moved a) (cond t (Some r) (find (fits a) rs)) ≡ Some b → b < 2 ^ 128
moved_by a r rs b true w f go h =
    let both = and_parts (nat_le r.child a) (nat_lt a (r.child + r.len)) f in
    let s : Some (r.parent + (a - r.child)) ≡ Some b = h in
    let is : r.parent + (a - r.child) ≡ b = cc in
    omega (arith, leb-true r.child a both.0, ltb-true a (r.child + r.len) both.1, w.parent)
moved_by a r rs b false w f go h = go h

moved_below : (a : ℕ) (rs : List Range) (b : ℕ) → All IsWithin rs → option_map (moved a) (find (fits a) rs) ≡ Some b → b < 2 ^ 128
moved_below a [] b within e = cc
moved_below a (r ∷ rs) b within e = moved_by a r rs b (fits a r) (All-head IsWithin r rs within) refl (moved_below a rs b (All-tail IsWithin r rs within)) e

passed_below : (way : Option (List Range)) (a b : ℕ) → IsWithinWay way → a < 2 ^ 128 → passed way a ≡ Some b → b < 2 ^ 128
passed_below None a b within below e = cc
passed_below (Some []) a b within below e = let s : Some a ≡ Some b = e in let is : a ≡ b = cc in omega arith
passed_below (Some (r ∷ rs)) a b within below e = moved_below a (r ∷ rs) b within e

below_by : (way : Option (List Range)) (a : ℕ) (go : ℕ → ℕ) (o : Option ℕ) → IsWithinWay way → a < 2 ^ 128 → passed way a ≡ o
    → ((b : ℕ) → b < 2 ^ 128 → go b < 2 ^ 128) → option_map_or go o a < 2 ^ 128
below_by way a go None within below e h = below
below_by way a go (Some b) within below e h = h b (passed_below way a b within below e)

pub translated_below : (ways : List (Option (List Range))) (a : ℕ) → All IsWithinWay ways → a < 2 ^ 128 → translated ways a < 2 ^ 128
translated_below [] a within below = below
translated_below (way ∷ ways) a within below =
    below_by way a (translated ways) (passed way a) (All-head IsWithinWay way ways within) below refl
    (λ b h. translated_below ways b (All-tail IsWithinWay way ways within) h)

-- the ranges of a node that are without fault do
cut_within : (k : Shape) (value : List Part) (r : Result (List Range) Rule) → cut_ranges k value ≡ r → IsWithinWay (when_whole r)
cut_within k value (Ok rs) e =
    let ok : IsOk (cut_ranges k value) = ap is_ok e in
    let cut : IsCut k value = cut_of k value ok in
    let both : Ok (ranges_cut k value) ≡ Ok rs = sym cut.is ∙ e in
    let same : ranges_cut k value ≡ rs = cc in
    subst (λ xs. All IsWithin xs) same (all_within (ranges_cut k value) cut.within)
cut_within k value (Err x) e = tt

shaped_within : (k : Option Shape) (value : List Part) → IsWithinWay (when_whole (shaped_ranges k value))
shaped_within None value = tt
shaped_within (Some k) value = cut_within k value (cut_ranges k value) refl

in_within : (nodes : List NodeData) (up id : ℕ) (value : Option (List Part)) → IsWithinWay (option_and_then when_whole (ranges_in nodes up id value))
in_within nodes up id None = tt
in_within nodes up id (Some value) = shaped_within (shape_of nodes up id) value

below_within : (nodes : List NodeData) (parent : Option ℕ) (id : ℕ) → IsWithinWay (option_and_then when_whole (ranges_below nodes parent id))
below_within nodes None id = tt
below_within nodes (Some up) id = in_within nodes up id (prop_at nodes id (codes "ranges"))

ways_within : (nodes : List NodeData) (ids : List ℕ) → All IsWithinWay (map (way_through nodes) ids)
ways_within nodes [] = All-nil IsWithinWay
ways_within nodes (id ∷ ids) =
    All-cons IsWithinWay (way_through nodes id) (map (way_through nodes) ids) (below_within nodes (parent_of nodes id) id) (ways_within nodes ids)

pub translation_below : (nodes : List NodeData) (id a : ℕ) → a < 2 ^ 128 → translation nodes id a < 2 ^ 128
translation_below nodes id a below = translated_below (map (way_through nodes) (ancestors nodes id)) a (ways_within nodes (ancestors nodes id)) below

-- nodes that are not there have no ranges at fault
past_whole : (nodes : List NodeData) (id : ℕ) (o : Option NodeData) → o ≡ None → IsOk (unwrap_or (ranges_below nodes (option_and_then (λ (n : NodeData). n.parent) o) id) (Ok []))
past_whole nodes id None e = refl
past_whole nodes id (Some n) e = cc

pub all_whole : (nodes : List NodeData) (count : ℕ) → length nodes ≤ count → ((id : ℕ) → id < count → IsOk (ranges_of nodes id)) → (ids : List ℕ) → AreWhole nodes ids
all_whole nodes count within all ids k d there =
    let id : ℕ = slice_index_or ids k d in
    elim (cases_lt id count) [
      | inl below ↦ all id below
      | inr past ↦ past_whole nodes id (slice_get nodes id) (slice_get_past nodes id (omega arith))
    ]

pub one_more : (nodes : List NodeData) (i : ℕ) → ((id : ℕ) → id < i → IsOk (ranges_of nodes id)) → IsOk (ranges_of nodes i) → (id : ℕ) → id < i + 1 → IsOk (ranges_of nodes id)
one_more nodes i all here id below =
    elim (cases_lt id i) [ inl before ↦ all id before | inr after ↦ let e : i ≡ id = omega arith in subst (λ j. IsOk (ranges_of nodes j)) e here ]
