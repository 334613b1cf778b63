-- How a tree's sorted lists are made, and what a search in them finds.
use Rattle.std.proofs.Common.{◌≡◌, ℕ, zero, suc, ◌+◌, ◌-◌, ◌<◌, ◌≤◌, Bool, true, false, cond, ltb, List, [], ◌∷◌, ◌++◌, length, get_or, map, Option, Some, None, All, Any, refl, sym, ap, ◌∙◌, subst, ⊎_elim, arith, slice_get, IsSomeAnd, position, lt-ltb, le-ltb, eqb-true, eq-eqb, option_map, option_and_then, option_to_list, unwrap_or}
use Rattle.std.specs.declared.cmp.Ordering.{Ordering}
use Rattle.std.specs.declared.cmp.Ordering.TheVariants.{Less, Equal, Greater}
use Rattle.std.specs.List.{HoldsAt, list_any, range_with_len}
use Rattle.std.specs.Ordering.{nat_cmp, is_eq}
use Rattle.std.specs.Cmp.Lexicographic.{slice_cmp, texts_ties}
use Rattle.std.specs.Str.{bytes_eq}
use Rattle.std.proofs.lemmas.Slice.Eq.{bytes_eq-Decides}
use Rattle.std.proofs.lemmas.List.{length-append, get_or_append_left, get_or-append_right}
use Rattle.std.specs.List.Sorted.{IsPermutation, IsSortedByKey, IsPartitionPoint}
use Rattle.std.specs.Cmp.{IsTotalOrder, tied_itself, unsigned_ties}
use Rattle.std.proofs.lemmas.Bool.{cases_lt, false≢true, or_left, or_right, or_cases}
use Rattle.std.proofs.lemmas.List.Sums.{position_or_len_is}
use Rattle.std.proofs.lemmas.List.Sorted.{All-permutation, Contains-permutation}
use Rattle.std.proofs.lemmas.List.Elements.{All-append}
use Rattle.std.proofs.lemmas.Option.{none-some, same_Some, slice_get_within, get_or_from_slice_get, slice_get-get_or}
use Rattle.edt_base.specs.NodeData.{NodeData, has_path, has_label, has_phandle, phandle_of, holds_number}
use Rattle.edt_base.specs.TreeData.{PathsApart, PhandlesApart}
use Rattle.edt_base.specs.Inner.IndexData.{IsIndex, IsFound, IsPathIndex, IsLabelIndex, IsPhandleIndex, entries_from, path_entries, label_at, label_entries, phandle_entries}
use Rattle.edt_base.specs.Nodes.{path_at}
use Rattle.edt_base.specs.declared.index.LabelPlace.{LabelPlace}
use Rattle.edt_base.specs.declared.index.PhandlePlace.{PhandlePlace}
use Rattle.std.proofs.lemmas.List.FromFn.{length-map-range_with_len, get_or-map-range_with_len}

-- what isn't true is false
pub not_true : (b : Bool) → (b ≡ true → ⊥) → b ≡ false
not_true true f = absurd (f refl)
not_true false f = refl

-- the first place that passes is the only one
position_only : {X : Type 0} (p : X → Bool) (xs : List X) (i : ℕ) (x : X) → slice_get xs i ≡ Some x → p x ≡ true → ((j : ℕ) (y : X) → slice_get xs j ≡ Some y → p y ≡ true → j ≡ i) → position p xs ≡ Some i
position_only {X} p xs i x e h only =
    let within = slice_get_within xs i x e in
    let here = get_or_from_slice_get xs i x x e in
    let before : (k : ℕ) → k < i → p (get_or xs k x) ≡ false =
    λ k l. not_true (p (get_or xs k x)) (λ t.
    let same = only k (get_or xs k x) (slice_get-get_or xs k x (omega arith)) t in omega arith) in
    let first = position_or_len_is p xs i x (omega arith) before (λ _. ap p here ∙ h) in
    let answer : ℕ → Option ℕ = λ n. cond (ltb n (length xs)) (Some n) None in
    ap answer first ∙ ap (λ b. cond b (Some i) None) (lt-ltb i (length xs) within)

-- where no element passes, there is no first
position_absent : {X : Type 0} (p : X → Bool) (xs : List X) → ((j : ℕ) (y : X) → slice_get xs j ≡ Some y → p y ≡ true → ⊥) → position p xs ≡ None
position_absent p [] none = refl
position_absent {X} p (x ∷ xs) none =
    let n = length (x ∷ xs) in
    let before : (k : ℕ) → k < n → p (get_or (x ∷ xs) k x) ≡ false =
    λ k l. not_true (p (get_or (x ∷ xs) k x)) (none k (get_or (x ∷ xs) k x) (slice_get-get_or (x ∷ xs) k x l)) in
    let first = position_or_len_is p (x ∷ xs) n x (omega arith) before (λ l. absurd (omega arith)) in
    let answer : ℕ → Option ℕ = λ k. cond (ltb k n) (Some k) None in
    ap answer first ∙ ap (λ b. cond b (Some n) None) (le-ltb n n (omega arith))

-- an element that passes is there in another order too
Any-permutation : {X : Type 0} (P : X → Type 0) (xs ys : List X) → IsPermutation xs ys → Any P xs → Any P ys
Any-permutation P xs ys same (k, x, l, is, h) =
    let there = Contains-permutation xs ys x same (k, l, is) in
    (there.0, x, there.1, there.2, h)

less_equal : Less ≡ Equal → ⊥
less_equal e = cc

greater_equal : Greater ≡ Equal → ⊥
greater_equal e = cc

All-one : {X : Type 0} (P : X → Type 0) (x : X) → P x → All P (x ∷ [])
All-one P x h zero d l = h
All-one P x h (suc k) d l = absurd (omega arith)

Any-one : {X : Type 0} (P : X → Type 0) (x : X) → P x → Any P (x ∷ [])
Any-one P x h = (zero, x, omega arith, refl, h)

Any-left : {X : Type 0} (P : X → Type 0) (xs ys : List X) → Any P xs → Any P (xs ++ ys)
Any-left P xs ys (k, x, l, is, h) = (k, x, omega (arith, length-append xs ys), get_or_append_left xs ys x k l ∙ is, h)

Any-right : {X : Type 0} (P : X → Type 0) (xs ys : List X) → Any P ys → Any P (xs ++ ys)
Any-right {X} P xs ys (k, x, l, is, h) =
    let back : (length xs + k) - length xs ≡ k = omega arith in (
      length xs + k,
      x,
      omega (arith, length-append xs ys),
      get_or-append_right xs ys (length xs) (length xs + k) x refl (omega arith) ∙ ap (λ j. get_or ys j x) back ∙ is,
      h,
    )

after : (first i : ℕ) → (first + 1) + i ≡ first + suc i
after first i = omega arith

-- the places of all nodes, listed one by one
paths_listed : (nodes : List NodeData) (first : ℕ) → entries_from path_entries first nodes ≡ map (λ i. i) (range_with_len first (length nodes))
paths_listed [] first = refl
paths_listed (n ∷ ns) first = ap (λ l. first ∷ l) (paths_listed ns (first + 1))

-- the value of which a fact is told
some_with : {X : Type 0} (o : Option X) (P : X → Type 0) → IsSomeAnd o P → (x : X) × (o ≡ Some x) × P x
some_with None P h = absurd h
some_with (Some x) P h = (x, refl, h)

-- what a search answers is the place of the only node that passes
pub found_position : (p : NodeData → Bool) (nodes : List NodeData)
    → ((i j : ℕ) (n m : NodeData) → slice_get nodes i ≡ Some n → slice_get nodes j ≡ Some m → p n ≡ true → p m ≡ true → i ≡ j)
    → (r : Option ℕ) → IsFound p nodes r → r ≡ position p nodes
found_position p nodes apart None none = sym (position_absent p nodes none)
found_position p nodes apart (Some i) found =
    let there = some_with (slice_get nodes i) (λ n. p n ≡ true) found in
    sym (position_only p nodes i there.0 there.1 there.2 (λ j m at h. apart j i m there.0 at there.1 h there.2))

module _ {E K : Type 0} (cmp : K → K → Ordering) (key : E → K) (node : E → ℕ) (has : K → NodeData → Bool) where
  -- an entry leads to a node that has its key
  abbrev IsSound : List NodeData → E → Type 0
  IsSound nodes e = IsSomeAnd (slice_get nodes (node e)) (λ n. has (key e) n ≡ true)

  -- what a search finds leads to a node that has the key
  pub index_found : (ties : (x y : K) → cmp x y ≡ Equal → x ≡ y) (nodes : List NodeData) (es : List E) (k : K)
      → IsIndex cmp key node has nodes es → (place : ℕ) (e : E) → place < length es → e ≡ get_or es place e → HoldsAt (λ e. cmp (key e) k ≡ Equal) es place
      → IsSomeAnd (slice_get nodes (node e)) (λ n. has k n ≡ true)
  index_found ties nodes es k index place e within is holds =
      let same : key e ≡ k = ties (key e) k (subst (λ x. cmp (key x) k ≡ Equal) (sym is) (holds e)) in
      let sound : IsSound nodes e = subst (IsSound nodes) (sym is) (index.sound place e within) in
      subst (λ x. IsSomeAnd (slice_get nodes (node e)) (λ n. has x n ≡ true)) same sound

  -- where it finds nothing, no node has the key
  pub index_absent : (total : IsTotalOrder cmp) (nodes : List NodeData) (es : List E) (k : K)
      → IsIndex cmp key node has nodes es → (place : ℕ)
      → IsPartitionPoint (λ e. cmp (key e) k ≡ Less) (λ e. cmp (key e) k ≡ Greater) es place
      → (i : ℕ) (n : NodeData) → slice_get nodes i ≡ Some n → has k n ≡ true → ⊥
  index_absent total nodes es k index place parts i n is h =
      let any = index.complete i n k is h in
      let same : key (get_or es any.0 any.1) ≡ k = ap key any.3 ∙ any.4 in
      let equal : cmp (key (get_or es any.0 any.1)) k ≡ Equal = subst (λ x. cmp x k ≡ Equal) (sym same) (tied_itself total k) in
      ⊎_elim (λ (below : any.0 < place). less_equal (sym (parts.0 any.0 any.1 (omega arith) below) ∙ equal))
      (λ (above : place ≤ any.0). greater_equal (sym (parts.1 any.0 any.1 above any.2) ∙ equal))
      (cases_lt any.0 place)

  -- what holds of the entries of each node holds of all entries
  all_from : (P : E → Type 0) (entries : ℕ → NodeData → List E) (nodes : List NodeData) (first : ℕ)
      → ((i j : ℕ) (n : NodeData) → j ≡ first + i → slice_get nodes i ≡ Some n → All P (entries j n)) → All P (entries_from entries first nodes)
  all_from P entries [] first each = λ k d l. absurd (omega arith)
  all_from P entries (n ∷ ns) first each =
      All-append P (entries first n) (entries_from entries (first + 1) ns) (each 0 first n (omega arith) refl)
      (all_from P entries ns (first + 1) (λ i j m at is. each (suc i) j m (at ∙ after first i) is))

  -- an entry of one node is among all entries
  any_from : (P : E → Type 0) (entries : ℕ → NodeData → List E) (nodes : List NodeData) (first i j : ℕ) (n : NodeData)
      → j ≡ first + i → slice_get nodes i ≡ Some n → Any P (entries j n) → Any P (entries_from entries first nodes)
  any_from P entries [] first i j n at is any = absurd (none-some n is)
  any_from P entries (m ∷ ms) first zero j n at is any =
      let same : m ≡ n = same_Some m n is in
      let here : j ≡ first = omega arith in
      Any-left P (entries first m) (entries_from entries (first + 1) ms) (subst (λ x. Any P (entries first x)) (sym same) (subst (λ x. Any P (entries x n)) here any))
  any_from P entries (m ∷ ms) first (suc i) j n at is any =
      Any-right P (entries first m) (entries_from entries (first + 1) ms) (any_from P entries ms (first + 1) i j n (at ∙ sym (after first i)) is any)

  -- the entries of all nodes in order are an index, where each node's lead to it and tell all that it has
  pub index_made : (entries : ℕ → NodeData → List E) (nodes : List NodeData) (es : List E)
      → IsPermutation (entries_from entries 0 nodes) es → IsSortedByKey key cmp es
      → ((i : ℕ) (n : NodeData) → slice_get nodes i ≡ Some n → All (λ e. (node e ≡ i) × (has (key e) n ≡ true)) (entries i n))
      → ((i : ℕ) (n : NodeData) (k : K) → slice_get nodes i ≡ Some n → has k n ≡ true → Any (λ e. key e ≡ k) (entries i n))
      → IsIndex cmp key node has nodes es
  index_made entries nodes es moved sorted sound complete =
      let all : List E = entries_from entries 0 nodes in
      let sound_at : (i j : ℕ) (n : NodeData) → j ≡ 0 + i → slice_get nodes i ≡ Some n → All (IsSound nodes) (entries j n) =
      λ i j n at is k d l.
      let place : i ≡ j = omega arith in
      let there : slice_get nodes j ≡ Some n = subst (λ x. slice_get nodes x ≡ Some n) place is in
      let h = sound j n there k d l in
      let e : E = get_or (entries j n) k d in
      let led : slice_get nodes (node e) ≡ Some n = subst (λ x. slice_get nodes x ≡ Some n) (sym h.0) there in
      subst (λ o. IsSomeAnd o (λ m. has (key e) m ≡ true)) (sym led) h.1 in
      record {
        sorted = sorted;
        sound = All-permutation (IsSound nodes) all es moved (all_from (IsSound nodes) entries nodes 0 sound_at);
        complete = λ i n k is h. Any-permutation (λ e. key e ≡ k) all es moved (any_from (λ e. key e ≡ k) entries nodes 0 i i n (omega arith) is (complete i n k is h));
      }

-- texts that compare equal are equal
pub texts_equal : (x y : List ℕ) → slice_cmp nat_cmp x y ≡ Equal → x ≡ y
texts_equal x y e = (bytes_eq-Decides x y).0 (texts_ties x y ∙ ap is_eq e)

-- numbers that compare equal are equal
pub numbers_equal : (x y : ℕ) → nat_cmp x y ≡ Equal → x ≡ y
numbers_equal x y e = eqb-true x y (unsigned_ties x y ∙ ap is_eq e)

-- a node found through a path is the only one that has it
pub paths_only : (nodes : List NodeData) → PathsApart nodes
    → (path : List ℕ) (i j : ℕ) (n m : NodeData) → slice_get nodes i ≡ Some n → slice_get nodes j ≡ Some m → has_path path n ≡ true → has_path path m ≡ true → i ≡ j
paths_only nodes apart path i j n m at there h k = apart i j n m at there ((bytes_eq-Decides n.path path).0 h ∙ sym ((bytes_eq-Decides m.path path).0 k))

-- the same of a phandle
phandle_held : (number : ℕ) (o : Option ℕ) → holds_number number o ≡ true → o ≡ Some number
phandle_held number None h = absurd (false≢true h)
phandle_held number (Some n) h = ap Some (eqb-true n number h)

pub phandles_only : (nodes : List NodeData) → PhandlesApart nodes
    → (number : ℕ) (i j : ℕ) (n m : NodeData) → slice_get nodes i ≡ Some n → slice_get nodes j ≡ Some m → has_phandle number n ≡ true → has_phandle number m ≡ true → i ≡ j
phandles_only nodes apart number i j n m at there h k = apart i j n m number at there (phandle_held number (phandle_of n) h) (phandle_held number (phandle_of m) k)

-- an element that passes makes the test pass
any_at : {X : Type 0} (p : X → Bool) (xs : List X) (k : ℕ) (x : X) → slice_get xs k ≡ Some x → p x ≡ true → list_any p xs ≡ true
any_at p [] k x is h = absurd (none-some x is)
any_at p (y ∷ ys) zero x is h = or_left (p y) (list_any p ys) (ap p (same_Some y x is) ∙ h)
any_at p (y ∷ ys) (suc k) x is h = or_right (p y) (list_any p ys) (any_at p ys k x is h)

-- where the test passes, an element does
any_of : {X : Type 0} (p : X → Bool) (xs : List X) → list_any p xs ≡ true → (k : ℕ) × (x : X) × (slice_get xs k ≡ Some x) × (p x ≡ true)
any_of p [] h = absurd (false≢true h)
any_of {X} p (y ∷ ys) h =
    ⊎_elim (λ (here : p y ≡ true). (zero, y, refl, here)) (λ (there : list_any p ys ≡ true). let r = any_of p ys there in (suc r.0, r.1, r.2, r.3))
    (or_cases (p y) (list_any p ys) h)

-- the path that is read at a node's place is the node's
path_read : (nodes : List NodeData) (i : ℕ) (n : NodeData) → slice_get nodes i ≡ Some n → path_at nodes i ≡ n.path
path_read nodes i n is = ap (λ o. unwrap_or (option_map (λ (m : NodeData). m.path) o) []) is

bytes_same : (x y : List ℕ) → x ≡ y → bytes_eq x y ≡ true
bytes_same x y e = (bytes_eq-Decides x y).1 e

-- the nodes' places, sorted by their paths, are an index
pub paths_indexed : (nodes : List NodeData) (es : List ℕ) → IsPermutation (map (λ i. i) (range_with_len 0 (length nodes))) es
    → IsSortedByKey (path_at nodes) (slice_cmp nat_cmp) es → IsPathIndex nodes es
paths_indexed nodes es moved sorted =
    index_made (slice_cmp nat_cmp) (path_at nodes) (λ e. e) has_path path_entries nodes es (subst (λ l. IsPermutation l es) (sym (paths_listed nodes 0)) moved) sorted
    (λ i n is. All-one (λ e. (e ≡ i) × (has_path (path_at nodes e) n ≡ true)) i (refl, bytes_same n.path (path_at nodes i) (sym (path_read nodes i n is))))
    (λ i n k is h. Any-one (λ e. path_at nodes e ≡ k) i (path_read nodes i n is ∙ (bytes_eq-Decides n.path k).0 h))

-- a fact of each place below n holds of all that is made from them
All-made : {X : Type 0} (P : X → Type 0) (f : ℕ → X) (n : ℕ) → ((j : ℕ) → j < n → P (f j)) → All P (map f (range_with_len 0 n))
All-made {X} P f n h k d l =
    let below : k < n = omega (arith, length-map-range_with_len f 0 n) in
    subst P (sym (get_or-map-range_with_len f 0 n k k d below (omega arith))) (h k below)

Any-made : {X : Type 0} (P : X → Type 0) (f : ℕ → X) (n j : ℕ) → j < n → P (f j) → Any P (map f (range_with_len 0 n))
Any-made {X} P f n j l h =
    (j, f j, omega (arith, length-map-range_with_len f 0 n), get_or-map-range_with_len f 0 n j j (f j) l (omega arith), h)

-- the label that is read at its place is the node's
label_read : (nodes : List NodeData) (i j : ℕ) (n : NodeData) (label : List ℕ) → slice_get nodes i ≡ Some n → slice_get n.labels j ≡ Some label
    → label_at nodes (record { node = i; label = j }) ≡ label
label_read nodes i j n label is there =
    ap (λ o. unwrap_or (option_and_then (λ (m : NodeData). slice_get m.labels j) o) []) is ∙ ap (λ o. unwrap_or o []) there

-- the labels' places, sorted by their texts, are an index
pub labels_indexed : (nodes : List NodeData) (es : List LabelPlace) → IsPermutation (entries_from label_entries 0 nodes) es
    → IsSortedByKey (label_at nodes) (slice_cmp nat_cmp) es → IsLabelIndex nodes es
labels_indexed nodes es moved sorted =
    let made : ℕ → ℕ → LabelPlace = λ i j. record { node = i; label = j } in
    index_made (slice_cmp nat_cmp) (label_at nodes) (λ e. e.node) has_label label_entries nodes es moved sorted
    (λ i n is. All-made (λ e. (e.node ≡ i) × (has_label (label_at nodes e) n ≡ true)) (made i) (length n.labels) (λ j l.
    let label : List ℕ = get_or n.labels j [] in
    let there = slice_get-get_or n.labels j [] l in
    let read = label_read nodes i j n label is there in
    (refl, any_at (λ x. bytes_eq x (label_at nodes (made i j))) n.labels j label there (bytes_same label (label_at nodes (made i j)) (sym read)))))
    (λ i n k is h.
    let held = any_of (λ x. bytes_eq x k) n.labels h in
    Any-made (λ e. label_at nodes e ≡ k) (made i) (length n.labels) held.0 (slice_get_within n.labels held.0 held.1 held.2)
    (label_read nodes i held.0 n held.1 is held.2 ∙ (bytes_eq-Decides held.1 k).0 held.3))

-- the phandles with their nodes, sorted by their numbers, are an index
pub phandles_indexed : (nodes : List NodeData) (es : List PhandlePlace) → IsPermutation (entries_from phandle_entries 0 nodes) es
    → IsSortedByKey (λ e. e.phandle) nat_cmp es → IsPhandleIndex nodes es
phandles_indexed nodes es moved sorted =
    let made : ℕ → ℕ → PhandlePlace = λ i p. record { phandle = p; node = i } in
    let sound : (i : ℕ) (n : NodeData) (o : Option ℕ) → phandle_of n ≡ o
    → All (λ (e : PhandlePlace). (e.node ≡ i) × (has_phandle e.phandle n ≡ true)) (option_to_list (option_map (made i) o)) =
    λ i n o. elim o as (λ o. phandle_of n ≡ o → All (λ (e : PhandlePlace). (e.node ≡ i) × (has_phandle e.phandle n ≡ true)) (option_to_list (option_map (made i) o))) [
      | None ↦ λ h k d l. absurd (omega arith)
      | Some p ↦ λ h. All-one (λ e. (e.node ≡ i) × (has_phandle e.phandle n ≡ true)) (made i p) (refl, ap (holds_number p) h ∙ eq-eqb p p refl)
    ] in
    index_made nat_cmp (λ e. e.phandle) (λ e. e.node) has_phandle phandle_entries nodes es moved sorted
    (λ i n is. sound i n (phandle_of n) refl)
    (λ i n k is h. subst (λ o. Any (λ (e : PhandlePlace). e.phandle ≡ k) (option_to_list (option_map (made i) o))) (sym (phandle_held k (phandle_of n) h)) (Any-one (λ e. e.phandle ≡ k) (made i k) refl))
