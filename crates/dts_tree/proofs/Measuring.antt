-- Lengths and texts of paths by slots are those of their places.
use Rattle.std.proofs.Common.{◌≡◌, ◌∙◌, ◌+◌, ◌-◌, ◌^◌, ◌<◌, ◌≤◌, ◌++◌, ◌⊎◌, ◌∷◌, [], ℕ, zero, suc, Bool, true, false, not, cond, List, Option, Some, None, length, map, get_or, min, max, codes, refl, sym, ap, subst, inl, inr, arith, eqb, ltb, sum_by}
use Rattle.std.specs.Prelude.{slice_get}
use Rattle.std.specs.Option.{option_map_or}
use Rattle.std.proofs.lemmas.Bool.{cases_eq, cases_lt, lt-ltb, le-ltb}
use Rattle.std.proofs.lemmas.List.{get_or_append_left, get_or_push, get_or_at, length-append, length_push, append_assoc, append-nil}
use Rattle.std.proofs.lemmas.Option.{slice_get-get_or, slice_get_past}
use Rattle.std.proofs.lemmas.List.Sums.{sum_by-append}
use Rattle.dts_tree.specs.declared.spot.Step.TheVariants.{Child}
use Rattle.dts_tree.specs.declared.spot.Spot.{Spot}
use Rattle.dts_tree.specs.Places.{Place, below_text, path_text, step_name}
use Rattle.dts_tree.specs.Inner.Arena.{spot}
use Rattle.dts_tree.specs.Inner.Grown.{most, next_len, lens_from, lens_of, len_at}
use Rattle.dts_tree.proofs.Lists.{Member}
use Rattle.dts_tree.proofs.Shape.{IsShaped, place_at, parent_at, spot_at}

min_len : (m a b : ℕ) → min (min (min a m + b) m + 1) m ≡ min (a + 1 + b) m
min_len m a b = omega arith

below_len : (s : Rattle.dts_tree.specs.declared.spot.Step.Step) (p : Place) → length (below_text (s ∷ p)) ≡ length (below_text p) + 1 + length (step_name s)
below_len s p =
    let a : length (below_text p ++ codes "/" ++ step_name s) ≡ length (below_text p ++ codes "/") + length (step_name s) = length-append (below_text p ++ codes "/") (step_name s) in
    let b : length (below_text p ++ codes "/") ≡ length (below_text p) + 1 = length-append (below_text p) (codes "/") in
    omega arith

-- the lengths so far are those of the places so far
abbrev AreLens : List Place → List ℕ → Type 0
AreLens places lens = (k : ℕ) → k < length lens → get_or lens k 0 ≡ min (length (below_text (place_at places k))) most

lens_step : (spots : List Spot) (places : List Place) (pre : List Spot) (s : Spot) (ss : List Spot) (lens : List ℕ) → IsShaped spots places → spots ≡ pre ++ s ∷ ss
    → length lens ≡ length pre → AreLens places lens → next_len lens s ≡ min (length (below_text (place_at places (length pre)))) most
lens_step spots places pre s ss lens shape e l known =
    let here : spot_at spots (length pre) ≡ s = ap (λ xs. spot_at xs (length pre)) e ∙ get_or_at pre s ss (spot (Child []) 0) (length pre) refl in
    let size : length spots ≡ length pre + length (s ∷ ss) = ap length e ∙ length-append pre (s ∷ ss) in
    elim (cases_eq (length pre) 0) [
      | inl z ↦
          let none : slice_get lens s.parent ≡ None = slice_get_past lens s.parent (omega arith) in
          let root : place_at places (length pre) ≡ [] = ap (place_at places) z ∙ shape.root in
          ap (λ o. option_map_or (λ len. min (min (len + length (step_name s.step)) most + 1) most) o 0) none ∙ ap (λ p. min (length (below_text p)) most) (sym root)
      | inr n ↦
          let p : 0 < length pre = omega arith in
          let w : length pre < length spots = omega arith in
          let up : parent_at spots (length pre) < length pre = shape.parents (length pre) p w in
          let same : parent_at spots (length pre) ≡ s.parent = ap (λ (x : Spot). x.parent) here in
          let low : s.parent < length lens = omega arith in
          let step = shape.steps (length pre) p w in
          let place : place_at places (length pre) ≡ s.step ∷ place_at places s.parent = step ∙ ap (λ (x : Spot). x.step ∷ place_at places x.parent) here in
          let got : slice_get lens s.parent ≡ Some (get_or lens s.parent 0) = slice_get-get_or lens s.parent 0 low in
          let len : get_or lens s.parent 0 ≡ min (length (below_text (place_at places s.parent))) most = known s.parent low in
          ap (λ o. option_map_or (λ len. min (min (len + length (step_name s.step)) most + 1) most) o 0) got
          ∙ (ap (λ x. min (min (x + length (step_name s.step)) most + 1) most) len
          ∙ (min_len most (length (below_text (place_at places s.parent))) (length (step_name s.step))
          ∙ (ap (λ x. min x most) (sym (below_len s.step (place_at places s.parent))) ∙ ap (λ q. min (length (below_text q)) most) (sym place))))
    ]

lens_all : (spots : List Spot) (places : List Place) (ss pre : List Spot) (lens : List ℕ) → IsShaped spots places → spots ≡ pre ++ ss → length lens ≡ length pre
    → AreLens places lens → (length (lens_from lens ss) ≡ length spots) × AreLens places (lens_from lens ss)
lens_all spots places [] pre lens shape e l known = (l ∙ (ap length (sym (append-nil pre)) ∙ ap length (sym e)), known)
lens_all spots places (s ∷ ss) pre lens shape e l known =
    let next : ℕ = next_len lens s in
    let len : length (lens ++ next ∷ []) ≡ length lens + 1 = length_push lens next in
    let len' : length (pre ++ s ∷ []) ≡ length pre + 1 = length_push pre s in
    lens_all spots places ss (pre ++ s ∷ []) (lens ++ next ∷ []) shape (e ∙ sym (append_assoc pre (s ∷ []) ss)) (omega arith) (λ k h.
    elim (cases_lt k (length lens)) [
      | inl m ↦ get_or_append_left lens (next ∷ []) 0 k m ∙ known k m
      | inr m ↦
          let at : length lens ≡ k = omega arith in
          get_or_push lens next 0 k at
          ∙ (lens_step spots places pre s ss lens shape e l known ∙ ap (λ j. min (length (below_text (place_at places j))) most) (sym l ∙ at))
    ])

pub lens_are : (spots : List Spot) (places : List Place) → IsShaped spots places → (i : ℕ) → i < length spots
    → (length (lens_of spots) ≡ length spots) × (get_or (lens_of spots) i 0 ≡ min (length (below_text (place_at places i))) most)
lens_are spots places shape i l =
    let r = lens_all spots places spots [] [] shape refl refl (λ k h. absurd (omega arith)) in
    (r.0, r.1 i (subst (λ n. i < n) (sym r.0) l))

path_len : (p : Place) → length (path_text p) ≡ max (length (below_text p)) 1
path_len [] = refl
path_len (s ∷ p) = let e : length (below_text (s ∷ p)) ≡ length (below_text p) + 1 + length (step_name s) = below_len s p in omega arith

len_by : (m x : ℕ) → 1 ≤ m → max (min x m) 1 ≡ min (max x 1) m
len_by m x h = omega arith

-- a path's length, by its slot
pub len_is : (spots : List Spot) (places : List Place) → IsShaped spots places → (i : ℕ) → i < length spots → len_at (lens_of spots) i ≡ min (length (path_text (place_at places i))) most
len_is spots places shape i l =
    let r = lens_are spots places shape i l in
    let w : i < length (lens_of spots) = subst (λ n. i < n) (sym r.0) l in
    ap (λ x. max x 1) (Rattle.std.proofs.lemmas.List.get_or_default (lens_of spots) i 1 0 w ∙ r.1)
    ∙ (len_by most (length (below_text (place_at places i))) (Rattle.std.proofs.Common.lit≤ tt) ∙ ap (λ x. min x most) (sym (path_len (place_at places i))))

min_sum : (m a s t : ℕ) → min s m ≡ min t m → min (min a m + s) m ≡ min (a + t) m
min_sum m a s t h = omega arith

sum_cons : {X : Type 0} (f : X → ℕ) (x : X) (xs : List X) → sum_by f (x ∷ xs) ≡ f x + sum_by f xs
sum_cons f x xs = let e : sum_by f (x ∷ []) ≡ f x = omega arith in sum_by-append f (x ∷ []) xs ∙ ap (λ n. n + sum_by f xs) e

sums_same : (spots : List Spot) (places : List Place) → IsShaped spots places → (is : List ℕ) → ((i : ℕ) → Member i is → i < length spots)
    → min (sum_by (len_at (lens_of spots)) is) most ≡ min (sum_by (λ (p : Place). length (path_text p)) (map (place_at places) is)) most
sums_same spots places shape [] low = refl
sums_same spots places shape (i ∷ is) low =
    ap (λ x. min x most) (sum_cons (len_at (lens_of spots)) i is)
    ∙ (ap (λ x. min (x + sum_by (len_at (lens_of spots)) is) most) (len_is spots places shape i (low i (inl refl)))
    ∙ (min_sum most (length (path_text (place_at places i))) (sum_by (len_at (lens_of spots)) is) (sum_by (λ (p : Place). length (path_text p)) (map (place_at places) is))
    (sums_same spots places shape is (λ j m. low j (inr m)))
    ∙ ap (λ x. min x most) (sym (sum_cons (λ (p : Place). length (path_text p)) (place_at places i) (map (place_at places) is)))))

pub above_min : (k s m : ℕ) → k < m → ltb k (min s m) ≡ ltb k s
above_min k s m h = elim (cases_lt k s) [
  | inl l ↦ lt-ltb k (min s m) (omega arith) ∙ sym (lt-ltb k s l)
  | inr l ↦ le-ltb k (min s m) (omega arith) ∙ sym (le-ltb k s l)
]

-- the paths have too many bytes together, by slots and by places
pub many_bytes : (spots : List Spot) (places : List Place) → IsShaped spots places → (is : List ℕ) → ((i : ℕ) → Member i is → i < length spots)
    → ltb 16777216 (min (sum_by (len_at (lens_of spots)) is) most) ≡ ltb 16777216 (sum_by (λ (p : Place). length (path_text p)) (map (place_at places) is))
many_bytes spots places shape is low =
    ap (ltb 16777216) (sums_same spots places shape is low)
    ∙ above_min 16777216 (sum_by (λ (p : Place). length (path_text p)) (map (place_at places) is)) most (Rattle.std.proofs.Common.lit< tt)
