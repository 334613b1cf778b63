-- How each node is put into the lists of those that it requires.
use Rattle.std.proofs.Common.{◌≡◌, ◌∙◌, ◌||◌, ◌+◌, ◌<◌, ◌≤◌, ◌++◌, ◌∷◌, [], ℕ, zero, suc, Bool, true, false, cond, List, All, length, map, filter, nat_eq, replicate, slice_get, slice_index_or, slice_set, refl, sym, ap, subst, inl, inr, arith}
use Rattle.std.specs.List.{AllPairs, Contains, list_any, range_with_len}
use Rattle.std.specs.List.Sorted.{IsStrictlyIncreasing}
use Rattle.std.specs.Option.{option_map_or}
use Rattle.std.proofs.lemmas.Bool.{cases_lt}
use Rattle.std.proofs.lemmas.Bool.Decides.{nat_tests}
use Rattle.std.proofs.lemmas.List.{append-nil, get_or-set_other, get_or-set_same, get_or_default, get_or_past, length-set}
use Rattle.std.proofs.lemmas.List.Elements.{All-filter, All-head, All-tail, Contains-get_or}
use Rattle.std.proofs.lemmas.List.Kept.{AllPairs-from_increasing, IsStrictlyIncreasing-filter}
use Rattle.edt_base.specs.BoundNodeData.{BoundNodeData}
use Rattle.dep_order.specs.Order.{AreWithin, required}
use Rattle.dep_order.proofs.Listing.{cons_cases, here, none_in, there}
use Rattle.edt_bound.specs.Relating.{AreSupportsOf, with_supporter}
use Rattle.edt_bound.specs.Requiring.{AreSupports, needs_at}
use Rattle.edt_bound.proofs.Members.{kept_from, kept_with}
use Rattle.edt_bound.proofs.Ranges.{filter_range_more, in_range, range_below, range_rises}

pub any_from : (xs : List ℕ) (x : ℕ) → list_any (nat_eq x) xs ≡ true → Contains xs x
any_from [] x e = cc
any_from (y ∷ ys) x e = by_test (nat_eq x y) refl e (any_from ys x)
  where
    by_test : (b : Bool) → nat_eq x y ≡ b → (b || list_any (nat_eq x) ys) ≡ true → (list_any (nat_eq x) ys ≡ true → Contains ys x) → Contains (y ∷ ys) x
    by_test true same f next = let at : y ≡ x = grind (arith, nat_tests, same) in subst (λ z. Contains (y ∷ ys) z) at (here y ys)
    by_test false other f next = there y ys x (next f)

pub any_with : (xs : List ℕ) (x : ℕ) → Contains xs x → list_any (nat_eq x) xs ≡ true
any_with [] x c = absurd (none_in x c)
any_with (y ∷ ys) x c =
    elim (cons_cases y ys x c) [
      | inl same ↦ let at : nat_eq x y ≡ true = grind (arith, nat_tests, same) in ap (λ b. b || list_any (nat_eq x) ys) at
      | inr back ↦ by_test (nat_eq x y) (any_with ys x back)
    ]
  where
    by_test : (b : Bool) → list_any (nat_eq x) ys ≡ true → (b || list_any (nat_eq x) ys) ≡ true
    by_test true e = refl
    by_test false e = e

none_above : (ys : List ℕ) (x : ℕ) → All (λ y. x < y) ys → list_any (nat_eq x) ys ≡ false
none_above [] x h = refl
none_above (y ∷ ys) x h =
    let here : x < y = All-head (λ z. x < z) y ys h in
    let apart : nat_eq x y ≡ false = grind (arith, nat_tests, here) in
    ap (λ b. b || list_any (nat_eq x) ys) apart ∙ none_above ys x (All-tail (λ z. x < z) y ys h)

pub as_many_put : (others : List ℕ) (supports : List (List ℕ)) (id : ℕ) → length (with_supporter supports others id) ≡ length supports
as_many_put [] supports id = refl
as_many_put (q ∷ qs) supports id =
    as_many_put qs (slice_set supports q (required supports q ++ id ∷ [])) id ∙ length-set supports q (required supports q ++ id ∷ [])

abbrev Rises : List ℕ → Type 0
Rises xs = AllPairs (λ x y. x < y) xs

-- the list of a node, where one more node is put
with_any : (others : List ℕ) (supports : List (List ℕ)) (id node : ℕ) → Rises others → All (λ q. q < length supports) others
    → required (with_supporter supports others id) node ≡ required supports node ++ cond (list_any (nat_eq node) others) (id ∷ []) []
with_any [] supports id node h w = sym (append-nil (required supports node))
with_any (q ∷ qs) supports id node h w =
    with_any qs set id node (λ i j d l m. h (suc i) (suc j) d (omega arith) (omega arith)) (λ k d l. omega (arith, more, w (suc k) d (omega arith)))
    ∙ by_test (nat_eq node q) refl
  where
    set : List (List ℕ)
    set = slice_set supports q (required supports q ++ id ∷ [])

    more : length set ≡ length supports
    more = length-set supports q (required supports q ++ id ∷ [])

    by_test : (b : Bool) → nat_eq node q ≡ b → required set node ++ cond (list_any (nat_eq node) qs) (id ∷ []) []
        ≡ required supports node ++ cond (b || list_any (nat_eq node) qs) (id ∷ []) []
    by_test true e =
        let same : node ≡ q = grind (arith, nat_tests, e) in
        let within : q < length supports = All-head (λ x. x < length supports) q qs w in
        let at : required set node ≡ required supports node ++ id ∷ [] =
        ap (required set) same ∙ get_or-set_same supports q (required supports q ++ id ∷ []) [] within ∙ ap (λ (i : ℕ). required supports i ++ id ∷ []) (sym same) in
        let above : All (λ y. node < y) qs = λ k d l. omega (arith, same, h zero (suc k) d (omega arith) (omega arith)) in
        let none : list_any (nat_eq node) qs ≡ false = none_above qs node above in
        ap (λ (xs : List ℕ). xs ++ cond (list_any (nat_eq node) qs) (id ∷ []) []) at
        ∙ ap (λ (b : Bool). (required supports node ++ id ∷ []) ++ cond b (id ∷ []) []) none ∙ append-nil (required supports node ++ id ∷ [])
    by_test false e =
        let other : (node ≡ q) → ⊥ = λ same. grind (arith, nat_tests, e, same) in
        ap (λ (xs : List ℕ). xs ++ cond (list_any (nat_eq node) qs) (id ∷ []) []) (get_or-set_other supports q node (required supports q ++ id ∷ []) [] other)

-- the nodes before a place that require a node
abbrev supporters : List (List ℕ) → ℕ → ℕ → List ℕ
supporters needs place node = filter (λ other. list_any (nat_eq node) (required needs other)) (range_with_len 0 place)

-- the nodes before a place are put
pub record ArePut (needs : List (List ℕ)) (place : ℕ) (supports : List (List ℕ)) : Type 0 where
  pub as_many : length supports ≡ length needs
  pub each : (node : ℕ) → required supports node ≡ supporters needs place node

pub none_put : (needs supports : List (List ℕ)) (n : ℕ) → n ≡ length needs → supports ≡ replicate n [] → ArePut needs 0 supports
none_put needs supports n e f = record {
  as_many = ap length f ∙ long n ∙ e;
  each = λ node. ap (λ (xs : List (List ℕ)). required xs node) f ∙ empty n node;
}
  where
    long : (m : ℕ) → length (replicate {A = List ℕ} m []) ≡ m
    long zero = refl
    long (suc m) = ap suc (long m)

    empty : (m node : ℕ) → required (replicate m []) node ≡ []
    empty zero node = refl
    empty (suc m) zero = refl
    empty (suc m) (suc node) = empty m node

pub ids_within : (needs supports : List (List ℕ)) (place : ℕ) (ids : List ℕ) → AreWithin needs → ArePut needs place supports → ids ≡ required needs place
    → All (λ q. q < length supports) ids
ids_within needs supports place ids within h e k d l =
    let c : Contains ids (slice_index_or ids k d) = Contains-get_or ids k d l in
    let below : slice_index_or ids k d < length needs = within place (slice_index_or ids k d) (subst (λ xs. Contains xs (slice_index_or ids k d)) e c) in
    omega (arith, below, h.as_many)

pub one_put : (needs supports more : List (List ℕ)) (place : ℕ) (ids : List ℕ) → ArePut needs place supports → ids ≡ required needs place
    → IsStrictlyIncreasing ids → All (λ q. q < length supports) ids → more ≡ with_supporter supports ids place → ArePut needs (place + 1) more
one_put needs supports more place ids h is rises within e = record {
  as_many = ap length e ∙ as_many_put ids supports place ∙ h.as_many;
  each = λ node.
      ap (λ (xs : List (List ℕ)). required xs node) e ∙ with_any ids supports place node (AllPairs-from_increasing ids rises) within
      ∙ ap (λ (xs : List ℕ). xs ++ cond (list_any (nat_eq node) ids) (place ∷ []) []) (h.each node)
      ∙ ap (λ (xs : List ℕ). supporters needs place node ++ cond (list_any (nat_eq node) xs) (place ∷ []) []) is
      ∙ sym (filter_range_more (λ other. list_any (nat_eq node) (required needs other)) place);
}

pub all_put : (needs supports : List (List ℕ)) (place : ℕ) → length needs ≤ place → place ≤ length needs → ArePut needs place supports → AreSupportsOf needs supports
all_put needs supports place far near h = record {
  as_many = h.as_many;
  each = λ node other. (to node other, from node other);
  rising = λ k d l. subst IsStrictlyIncreasing (sym (at k d l)) (IsStrictlyIncreasing-filter (test k) (range_with_len 0 place) (range_rises place));
  within = λ k d l. subst (All (λ other. other < length needs)) (sym (at k d l))
      (subst (λ n. All (λ other. other < n) (supporters needs place k)) whole (All-filter (test k) (λ other. other < place) (range_with_len 0 place) (range_below place)));
}
  where
    test : ℕ → ℕ → Bool
    test node other = list_any (nat_eq node) (required needs other)

    whole : place ≡ length needs
    whole = omega arith

    at : (k : ℕ) (d : List ℕ) → k < length supports → slice_index_or supports k d ≡ supporters needs place k
    at k d l = get_or_default supports k d [] l ∙ h.each k

    to : (node other : ℕ) → Contains (required supports node) other → Contains (required needs other) node
    to node other c = any_from (required needs other) node (kept_from (λ o. list_any (nat_eq node) (required needs o)) (range_with_len 0 place) other (subst (λ xs. Contains xs other) (h.each node) c)).1

    from : (node other : ℕ) → Contains (required needs other) node → Contains (required supports node) other
    from node other c =
        elim (cases_lt other (length needs)) [
          | inl there ↦ subst (λ xs. Contains xs other) (sym (h.each node))
              (kept_with (λ o. list_any (nat_eq node) (required needs o)) (range_with_len 0 place) other (in_range place other (omega arith)) (any_with (required needs other) node c))
          | inr past ↦ absurd (none_in node (subst (λ xs. Contains xs node) (get_or_past needs other [] past) c))
        ]

-- ---- the bound nodes that have these lists

list_at : (f : BoundNodeData → List ℕ) (bound : List BoundNodeData) (i : ℕ) → required (map f bound) i ≡ option_map_or f (slice_get bound i) []
list_at f [] i = refl
list_at f (n ∷ bound) zero = refl
list_at f (n ∷ bound) (suc i) = list_at f bound i

pub supports_follow : (bound : List BoundNodeData) → AreSupportsOf (map (λ (n : BoundNodeData). n.needs) bound) (map (λ (n : BoundNodeData). n.supports) bound)
    → AreSupports bound
supports_follow bound h id n at other =
    let has : required (map (λ (m : BoundNodeData). m.supports) bound) id ≡ n.supports =
    list_at (λ (m : BoundNodeData). m.supports) bound id ∙ ap (λ o. option_map_or (λ (m : BoundNodeData). m.supports) o []) at in
    let needs : required (map (λ (m : BoundNodeData). m.needs) bound) other ≡ needs_at bound other = list_at (λ (m : BoundNodeData). m.needs) bound other in
    let both = h.each id other in (
      λ c. subst (λ xs. Contains xs id) needs (both.0 (subst (λ xs. Contains xs other) (sym has) c)),
      λ c. subst (λ xs. Contains xs other) has (both.1 (subst (λ xs. Contains xs id) (sym needs) c)),
    )
