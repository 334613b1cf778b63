-- Placings: how one grows, and that a full one is the only one.
use Rattle.std.proofs.Common.{◌≡◌, ◌∙◌, ◌+◌, ◌<◌, ◌≤◌, ◌++◌, ◌⊎◌, ◌∷◌, [], ℕ, zero, suc, List, Some, length, take, slice_get, slice_index_or, refl, sym, ap, subst, inl, inr, arith}
use Rattle.std.specs.List.{All, Contains}
use Rattle.std.proofs.lemmas.List.{take_all, take_at, take-append-le, take_more_same}
use Rattle.std.proofs.lemmas.List.Elements.{All-weaker}
use Rattle.std.proofs.lemmas.Option.{slice_get_within, slice_get-get_or}
use Rattle.std.proofs.lemmas.Bool.{cases_lt}
use Rattle.dep_order.specs.Order.{required, IsReady, IsNext, IsPlacing, IsFull, IsOrder, IsStuck}
use Rattle.dep_order.proofs.Listing.{place_of, from_take}

pub one_next : (needs : List (List ℕ)) (placed : List ℕ) (a b : ℕ) → IsNext needs placed a → IsNext needs placed b → a ≡ b
one_next needs placed a b m n = let p : a ≤ b = m.first b n.ready in let q : b ≤ a = n.first a m.ready in omega arith

-- two placings begin alike
pub same_front : (needs : List (List ℕ)) (a b : List ℕ) → IsPlacing needs a → IsPlacing needs b → (k : ℕ) → k ≤ length a → k ≤ length b → take k a ≡ take k b
same_front needs a b m n zero p q = refl
same_front needs a b m n (suc k) p q =
    let front : take k a ≡ take k b = same_front needs a b m n k (omega arith) (omega arith) in
    let x : ℕ = slice_index_or a k 0 in
    let y : ℕ = slice_index_or b k 0 in
    let nx : IsNext needs (take k a) x = m k x (slice_get-get_or a k 0 (omega arith)) in
    let ny : IsNext needs (take k b) y = n k y (slice_get-get_or b k 0 (omega arith)) in
    let same : x ≡ y = one_next needs (take k b) x y (subst (λ f. IsNext needs f x) front nx) ny in
    let e : k + 1 ≡ suc k = omega arith in
    subst (λ j. take j a ≡ take j b) e (take_more_same a b k 0 (omega arith) (omega arith) front same)

-- nothing is longer than a full one
not_longer : (needs : List (List ℕ)) (a b : List ℕ) → IsPlacing needs a → IsPlacing needs b → IsFull needs a → length a < length b → ⊥
not_longer needs a b m n full longer =
    let y : ℕ = slice_index_or b (length a) 0 in
    let ny : IsNext needs (take (length a) b) y = n (length a) y (slice_get-get_or b (length a) 0 longer) in
    let front : take (length a) b ≡ a = sym (same_front needs a b m n (length a) (omega arith) (omega arith)) ∙ take_all (length a) a (omega arith) in
    full y (subst (λ f. IsReady needs f y) front ny.ready)

pub one_full : (needs : List (List ℕ)) (a b : List ℕ) → IsPlacing needs a → IsPlacing needs b → IsFull needs a → IsFull needs b → a ≡ b
one_full needs a b m n f g =
    elim (cases_lt (length a) (length b)) [
      | inl longer ↦ absurd (not_longer needs a b m n f longer)
      | inr rest ↦ elim (cases_lt (length b) (length a)) [
        | inl longer ↦ absurd (not_longer needs b a n m g longer)
        | inr other ↦ sym (take_all (length a) a (omega arith)) ∙ (same_front needs a b m n (length a) (omega arith) (omega arith) ∙ take_all (length a) b rest)
      ]
    ]

pub order_full : (needs : List (List ℕ)) (order : List ℕ) → IsOrder needs order → IsFull needs order
order_full needs order o id r = r.left (o.all id r.there)

pub one_order : (needs : List (List ℕ)) (a b : List ℕ) → IsOrder needs a → IsOrder needs b → a ≡ b
one_order needs a b m n = one_full needs a b m.placing n.placing (order_full needs a m) (order_full needs b n)

pub one_stuck : (needs : List (List ℕ)) (a b : ℕ) → IsStuck needs a → IsStuck needs b → a ≡ b
one_stuck needs a b m n =
    let same : m.order ≡ n.order = one_full needs m.order n.order m.placing n.placing m.full n.full in
    let p : a ≤ b = m.first b n.there (λ c. n.left (subst (λ xs. Contains xs b) same c)) in
    let q : b ≤ a = n.first a m.there (λ c. m.left (subst (λ xs. Contains xs a) (sym same) c)) in
    omega arith

pub not_both : (needs : List (List ℕ)) (order : List ℕ) (id : ℕ) → IsOrder needs order → IsStuck needs id → ⊥
not_both needs order id o s =
    let same : order ≡ s.order = one_full needs order s.order o.placing s.placing (order_full needs order o) s.full in
    s.left (subst (λ xs. Contains xs id) same (o.all id s.there))

-- ---- one node more

at_push : (xs : List ℕ) (x : ℕ) (i y : ℕ) → slice_get (xs ++ x ∷ []) i ≡ Some y → (slice_get xs i ≡ Some y) ⊎ ((i ≡ length xs) × (x ≡ y))
at_push [] x zero y e = inr (refl, cc)
at_push [] x (suc i) y e = cc
at_push (z ∷ xs) x zero y e = inl e
at_push (z ∷ xs) x (suc i) y e = elim (at_push xs x i y e) [ inl h ↦ inl h | inr (p, q) ↦ inr (ap suc p, q) ]

pub placing_more : (needs : List (List ℕ)) (order : List ℕ) (id : ℕ) → IsPlacing needs order → IsNext needs order id → IsPlacing needs (order ++ id ∷ [])
placing_more needs order id m n place x e =
    elim (at_push order id place x e) [
      | inl h ↦ let within : place < length order = slice_get_within order place x h in
          subst (λ f. IsNext needs f x) (sym (take-append-le place order (id ∷ []) (omega arith))) (m place x h)
      | inr (p, q) ↦ let front : take place (order ++ id ∷ []) ≡ order = take_at order (id ∷ []) place (sym p) in
          subst (λ f. IsNext needs f x) (sym front) (subst (λ z. IsNext needs order z) q n)
    ]

-- a placed node stands after all that it requires
pub placed_after : (needs : List (List ℕ)) (order : List ℕ) (id : ℕ) → IsPlacing needs order → Contains order id → All (Contains order) (required needs id)
placed_after needs order id m c =
    let p = place_of order id c in
    let r : IsReady needs (take p.0 order) id = (m p.0 id p.1).ready in
    All-weaker (Contains (take p.0 order)) (Contains order) (λ q d. from_take p.0 order q d) (required needs id) r.after

pub placed_within : (needs : List (List ℕ)) (order : List ℕ) (id : ℕ) → IsPlacing needs order → Contains order id → id < length needs
placed_within needs order id m c =
    let p = place_of order id c in
    (m p.0 id p.1).ready.there
