-- How a node's properties are found by their names.
use Rattle.std.proofs.Common.{◌≡◌, ◌∙◌, ℕ, zero, suc, ◌+◌, ◌<◌, ◌≤◌, Bool, true, false, cond, List, [], ◌∷◌, ◌++◌, take, Option, Some, None, length, get_or, slice_get, option_map, unwrap_or, IsSomeAnd, refl, sym, ap, subst, ⊎_elim, arith, nat_eq}
use Rattle.std.specs.declared.cmp.Ordering.TheVariants.{Less, Equal, Greater}
use Rattle.std.specs.List.{AllZip, HoldsAt, range_with_len, Contains}
use Rattle.std.specs.List.Sorted.{IsPartitionPoint}
use Rattle.std.specs.Map.{lookup}
use Rattle.std.specs.Ordering.{nat_cmp}
use Rattle.std.specs.Cmp.{tied_itself}
use Rattle.std.specs.Cmp.Lexicographic.{slice_cmp, pointwise, nat_list_cmp_total}
use Rattle.std.specs.Str.{bytes_eq}
use Rattle.std.proofs.lemmas.Bool.{cases_lt}
use Rattle.std.proofs.lemmas.List.{take_more}
use Rattle.std.proofs.lemmas.List.FromFn.{length-range_with_len, get_or-range_with_len}
use Rattle.std.proofs.lemmas.List.Sorted.{Contains-permutation, All-permutation}
use Rattle.std.proofs.lemmas.List.Elements.{All-from_get_or}
use Rattle.std.proofs.lemmas.Option.{same_Some, slice_get_within, slice_get-get_or}
use Rattle.std.proofs.lemmas.Slice.Eq.{bytes_eq-Decides}
use Rattle.edt_base.specs.NodeData.{prop_of}
use Rattle.edt_base.specs.Inner.PropOrder.{Props, IsPropOrder, IsPlaceOf, name_at}
use Rattle.edt_base.specs.declared.node.Part.{Part}
use Rattle.edt_base.proofs.IndexLemmas.{not_true, texts_equal}

-- the name that is read at a property's place is the property's
name_read : (props : Props) (at : ℕ) (p : List ℕ × List Part) → slice_get props at ≡ Some p → name_at props at ≡ p.0
name_read props at p is = ap (λ o. unwrap_or (option_map (λ (q : List ℕ × List Part). q.0) o) []) is

-- ---- the places

-- an order's places are those of the properties
places_below : (props : Props) (places : List ℕ) → IsPropOrder props places → (k d : ℕ) → k < length places → get_or places k d < length props
places_below props places order k d within =
    let below = All-from_get_or (λ (at : ℕ). at < length props) (range_with_len 0 (length props)) 0 (λ i l.
    omega (arith, get_or-range_with_len 0 (length props) i 0 (omega (arith, l, length-range_with_len 0 (length props))), length-range_with_len 0 (length props), l)) in
    All-permutation (λ (at : ℕ). at < length props) (range_with_len 0 (length props)) places order.each below k d within

-- each place of a property is among an order's
placed : (props : Props) (places : List ℕ) → IsPropOrder props places → (at : ℕ) → at < length props → Contains places at
placed props places order at within =
    Contains-permutation (range_with_len 0 (length props)) places at order.each
    (at, omega (arith, within, length-range_with_len 0 (length props)), get_or-range_with_len 0 (length props) at at within ∙ omega arith)

-- ---- what a search finds

pub place_found : (props : Props) (places : List ℕ) (name : List ℕ) → IsPropOrder props places → (place at : ℕ) → place < length places → at ≡ get_or places place at
    → HoldsAt (λ at. slice_cmp nat_cmp (name_at props at) name ≡ Equal) places place → IsPlaceOf props name (Some at)
place_found props places name order place at within is holds =
    let same : name_at props at ≡ name = texts_equal (name_at props at) name (subst (λ x. slice_cmp nat_cmp (name_at props x) name ≡ Equal) (sym is) (holds at)) in
    let low : at < length props = subst (λ x. x < length props) (sym is) (places_below props places order place at within) in
    let there = slice_get-get_or props at (get_or props at ([], [])) low in
    subst (λ o. IsSomeAnd o (λ (p : List ℕ × List Part). p.0 ≡ name)) (sym there) (sym (name_read props at _ there) ∙ same)

less_equal : Less ≡ Equal → ⊥
less_equal e = cc

greater_equal : Greater ≡ Equal → ⊥
greater_equal e = cc

pub place_absent : (props : Props) (places : List ℕ) (name : List ℕ) → IsPropOrder props places → (place : ℕ)
    → IsPartitionPoint (λ at. slice_cmp nat_cmp (name_at props at) name ≡ Less) (λ at. slice_cmp nat_cmp (name_at props at) name ≡ Greater) places place
    → IsPlaceOf props name None
place_absent props places name order place parts at p is has =
    let there = placed props places order at (slice_get_within props at p is) in
    let same : name_at props (get_or places there.0 at) ≡ name = ap (name_at props) there.2 ∙ (name_read props at p is ∙ has) in
    let equal : slice_cmp nat_cmp (name_at props (get_or places there.0 at)) name ≡ Equal = subst (λ x. slice_cmp nat_cmp x name ≡ Equal) (sym same) (tied_itself nat_list_cmp_total name) in
    ⊎_elim (λ (below : there.0 < place). less_equal (sym (parts.0 there.0 at (omega arith) below) ∙ equal))
    (λ (above : place ≤ there.0). greater_equal (sym (parts.1 there.0 at above there.1) ∙ equal))
    (cases_lt there.0 place)

-- ---- the value at a place

same_tests : (a b : Bool) → (a ≡ true → b ≡ true) → (b ≡ true → a ≡ true) → a ≡ b
same_tests true b f g = sym (f refl)
same_tests false true f g = g refl
same_tests false false f g = refl

bytes_either : (x y : List ℕ) → bytes_eq x y ≡ bytes_eq y x
bytes_either x y = same_tests (bytes_eq x y) (bytes_eq y x) (λ e. (bytes_eq-Decides y x).1 (sym ((bytes_eq-Decides x y).0 e))) (λ e. (bytes_eq-Decides x y).1 (sym ((bytes_eq-Decides y x).0 e)))

-- the first property of a name, as the map looks it up
looked_up : (ps : Props) (name : List ℕ) → lookup (pointwise nat_eq name) ps ≡ prop_of name ps
looked_up [] name = refl
looked_up (q ∷ qs) name =
    ap (λ b. cond b (Some q.1) (lookup (pointwise nat_eq name) qs)) (bytes_either name q.0) ∙ ap (λ o. cond (bytes_eq q.0 name) (Some q.1) o) (looked_up qs name)

key_named : (ps : Props) (name : List ℕ) (key : List ℕ) (v : List Part) (at : ℕ) (o : Option (List ℕ × List Part)) → slice_get ps at ≡ o → IsSomeAnd o (λ (p : List ℕ × List Part). p.0 ≡ name)
    → Some (key, v) ≡ o → lookup (pointwise nat_eq key) ps ≡ Some v → Some v ≡ prop_of name ps
key_named ps name key v at None e has is up = cc
key_named ps name key v at (Some p) e has is up =
    let same : p ≡ (key, v) = same_Some p (key, v) (sym is) in
    let named : key ≡ name = ap (λ (q : List ℕ × List Part). q.0) (sym same) ∙ has in
    sym (sym (looked_up ps name) ∙ subst (λ x. lookup (pointwise nat_eq x) ps ≡ Some v) named up)

pub found_value : (ps : Props) (name : List ℕ) (at : ℕ) (key : List ℕ) (v : List Part) → IsPlaceOf ps name (Some at) → Some (key, v) ≡ slice_get ps at → lookup (pointwise nat_eq key) ps ≡ Some v
    → Some v ≡ prop_of name ps
found_value ps name at key v has is up = key_named ps name key v at (slice_get ps at) refl has is up

-- a place that is found is there
pub found_there : (ps : Props) (name : List ℕ) (at : ℕ) → IsPlaceOf ps name (Some at) → slice_get ps at ≡ None → ⊥
found_there ps name at has none = subst (λ o. IsSomeAnd o (λ (p : List ℕ × List Part). p.0 ≡ name)) none has

later_by : (b : Bool) (v : List Part) (o : Option (List Part)) → b ≡ false → cond b (Some v) o ≡ o
later_by true v o e = cc
later_by false v o e = refl

pub no_value : (ps : Props) (name : List ℕ) → IsPlaceOf ps name None → None ≡ prop_of name ps
no_value [] name none = refl
no_value (q ∷ qs) name none =
    no_value qs name (λ at p is has. none (suc at) p is has)
    ∙ sym (later_by (bytes_eq q.0 name) q.1 (prop_of name qs) (not_true (bytes_eq q.0 name) (λ e. none 0 q refl ((bytes_eq-Decides q.0 name).0 e))))

-- ---- an order for each node

zip_push : {A B : Type 0} (R : A → B → Type 0) (xs : List A) (ys : List B) (x : A) (y : B) → AllZip R xs ys → R x y → AllZip R (xs ++ x ∷ []) (ys ++ y ∷ [])
zip_push R [] [] x y h r = (r, tt)
zip_push R [] (b ∷ ys) x y h r = absurd h
zip_push R (a ∷ xs) [] x y h r = absurd h
zip_push R (a ∷ xs) (b ∷ ys) x y h r = (h.0, zip_push R xs ys x y h.1 r)

pub zip_more : {A B : Type 0} (R : A → B → Type 0) (xs : List A) (ys : List B) (i : ℕ) (x : A) (y : B) → i < length xs → x ≡ get_or xs i x → AllZip R (take i xs) ys → R x y
    → AllZip R (take (i + 1) xs) (ys ++ y ∷ [])
zip_more R xs ys i x y within is h r =
    subst (λ l. AllZip R l (ys ++ y ∷ [])) (ap (λ z. take i xs ++ z ∷ []) is ∙ sym (take_more xs i x within)) (zip_push R (take i xs) ys x y h r)

pub zip_at : {A B : Type 0} (R : A → B → Type 0) (xs : List A) (ys : List B) (i : ℕ) (x : A) (y : B) → AllZip R xs ys → Some x ≡ slice_get xs i → Some y ≡ slice_get ys i → R x y
zip_at R [] ys i x y h e f = cc
zip_at R (a ∷ xs) [] i x y h e f = absurd h
zip_at {A} {B} R (a ∷ xs) (b ∷ ys) zero x y h e f = subst (λ (p : A). R p y) (same_Some a x (sym e)) (subst (λ (q : B). R a q) (same_Some b y (sym f)) h.0)
zip_at R (a ∷ xs) (b ∷ ys) (suc i) x y h e f = zip_at R xs ys i x y h.1 e f

pub zip_none : {A B : Type 0} (R : A → B → Type 0) (xs : List A) (ys : List B) (i : ℕ) → AllZip R xs ys → None ≡ slice_get ys i → slice_get xs i ≡ None
zip_none R [] ys i h f = refl
zip_none R (a ∷ xs) [] i h f = absurd h
zip_none R (a ∷ xs) (b ∷ ys) zero h f = cc
zip_none R (a ∷ xs) (b ∷ ys) (suc i) h f = zip_none R xs ys i h.1 f
