-- What follows from the order of a tree's nodes.
use Rattle.std.proofs.Common.{◌≡◌, ◌∙◌, ℕ, zero, suc, ◌+◌, ◌<◌, ◌≤◌, Bool, true, false, if◌then◌else◌, List, [], ◌∷◌, Option, Some, None, length, slice_get, slice_index, IfSome, IsSomeAnd, option_and_then, option_map, unwrap_or, refl, sym, ap, subst, arith}
use Rattle.std.specs.List.{All}
use Rattle.std.specs.List.Sorted.{IsStrictlyIncreasing}
use Rattle.std.specs.Option.{option_map_or}
use Rattle.std.proofs.lemmas.List.Elements.{All-nil}
use Rattle.std.proofs.lemmas.Option.{slice_get_within}
use Rattle.edt_base.specs.NodeData.{NodeData, holds_number}
use Rattle.edt_base.specs.Nodes.{children_at}
use Rattle.edt_base.specs.TreeData.{TreeData, IsWellFormed, IsAtOrAbove, itself, further, children_from, parent_of, ancestors, ancestors_within}

-- the node that has the parent
with_parent : (nodes : List NodeData) (i p : ℕ) (o : Option NodeData) → slice_get nodes i ≡ o → option_and_then (λ (n : NodeData). n.parent) o ≡ Some p
    → (n : NodeData) × (slice_get nodes i ≡ Some n) × (n.parent ≡ Some p)
with_parent nodes i p None e h = cc
with_parent nodes i p (Some n) e h = (n, e, h)

-- the root has none
no_parent : (nodes : List NodeData) (p : ℕ) (o : Option NodeData) → slice_get nodes 0 ≡ o → IsSomeAnd o (λ (n : NodeData). n.parent ≡ None) → option_and_then (λ (n : NodeData). n.parent) o ≡ Some p → ⊥
no_parent nodes p None e h up = cc
no_parent nodes p (Some n) e h up = cc

-- a node at or above another is not after it, where parents are before their children
at_most : (nodes : List NodeData) (k i q : ℕ) → ((j p : ℕ) → j ≤ k → parent_of nodes j ≡ Some p → p < j) → i ≤ k → IsAtOrAbove nodes q i → q ≤ i
at_most nodes k i q before within (itself j) = omega arith
at_most nodes k i q before within (further j p r up over) =
    let l : p < i = before i p within up in
    omega (arith, l, at_most nodes k p q before (omega (arith, l, within)) over)

before_within : (t : TreeData) → IsWellFormed t → (k i p : ℕ) → i ≤ k → parent_of t.nodes i ≡ Some p → p < i
before_within t well k zero p within up = absurd (no_parent t.nodes p (slice_get t.nodes 0) refl well.root up)
before_within t well zero (suc i) p within up = absurd (omega arith)
before_within t well (suc k) (suc i) p within up =
    let n = with_parent t.nodes (suc i) p (slice_get t.nodes (suc i)) refl up in
    let e : i + 1 ≡ suc i = omega arith in
    let at : slice_get t.nodes (i + 1) ≡ Some n.0 = ap (slice_get t.nodes) e ∙ n.1 in
    let l : p ≤ i = at_most t.nodes k i p (before_within t well k) (omega arith) (well.preorder i p n.0 at n.2) in
    omega arith

pub before : (t : TreeData) (i p : ℕ) → IsWellFormed t → parent_of t.nodes i ≡ Some p → p < i
before t i p well up = before_within t well i i p (omega arith) up

-- a node has no more above it than stand before it
enough : (t : TreeData) → IsWellFormed t → (k m i : ℕ) → i ≤ k → i ≤ m → ancestors_within k t.nodes i ≡ ancestors_within m t.nodes i
enough t well zero zero i low high = refl
enough t well zero (suc m) i low high = by_parent (parent_of t.nodes i) refl
  where
    by_parent : (o : Option ℕ) → parent_of t.nodes i ≡ o → [] ≡ option_map_or (λ p. p ∷ ancestors_within m t.nodes p) o []
    by_parent None e = refl
    by_parent (Some p) e = let l : p < i = before t i p well e in absurd (omega arith)
enough t well (suc k) zero i low high = by_parent (parent_of t.nodes i) refl
  where
    by_parent : (o : Option ℕ) → parent_of t.nodes i ≡ o → option_map_or (λ p. p ∷ ancestors_within k t.nodes p) o [] ≡ []
    by_parent None e = refl
    by_parent (Some p) e = let l : p < i = before t i p well e in absurd (omega arith)
enough t well (suc k) (suc m) i low high = by_parent (parent_of t.nodes i) refl (enough t well k m)
  where
    by_parent : (o : Option ℕ) → parent_of t.nodes i ≡ o → ((j : ℕ) → j ≤ k → j ≤ m → ancestors_within k t.nodes j ≡ ancestors_within m t.nodes j)
        → option_map_or (λ p. p ∷ ancestors_within k t.nodes p) o [] ≡ option_map_or (λ p. p ∷ ancestors_within m t.nodes p) o []
    by_parent None e next = refl
    by_parent (Some p) e next = let l : p < i = before t i p well e in ap (λ ids. p ∷ ids) (next p (omega arith) (omega arith))

more : (nodes : List NodeData) (k i p : ℕ) → parent_of nodes i ≡ Some p → ancestors_within (suc k) nodes i ≡ p ∷ ancestors_within k nodes p
more nodes k i p up = ap (λ o. option_map_or (λ q. q ∷ ancestors_within k nodes q) o []) up

pub above : (t : TreeData) (i p : ℕ) → IsWellFormed t → parent_of t.nodes i ≡ Some p → ancestors t.nodes i ≡ p ∷ ancestors t.nodes p
above t i p well up =
    let l : p < i = before t i p well up in
    let n = with_parent t.nodes i p (slice_get t.nodes i) refl up in
    let within : i < length t.nodes = slice_get_within t.nodes i n.0 n.1 in
    enough t well (length t.nodes) (suc (length t.nodes)) i (omega arith) (omega arith)
    ∙ more t.nodes (length t.nodes) i p up

pub above_root : (t : TreeData) (i : ℕ) → parent_of t.nodes i ≡ None → ancestors t.nodes i ≡ []
above_root t i none = go (length t.nodes)
  where
    go : (k : ℕ) → ancestors_within k t.nodes i ≡ []
    go zero = refl
    go (suc k) = ap (λ o. option_map_or (λ q. q ∷ ancestors_within k t.nodes q) o []) none

-- the children of a node are there
pub children_there : (t : TreeData) (i : ℕ) → IsWellFormed t → i < length t.nodes → All (λ child. child < length t.nodes) (children_at t.nodes i)
children_there t i well within = by_node (slice_get t.nodes i) refl
  where
    by_node : (o : Option NodeData) → slice_get t.nodes i ≡ o → All (λ child. child < length t.nodes) (unwrap_or (option_map (λ (n : NodeData). n.children) o) [])
    by_node None e = All-nil (λ child. child < length t.nodes)
    by_node (Some n) e = well.children_in i n e

-- a parent that a node names is before it and there
pub parent_is : (t : TreeData) (i : ℕ) (o : Option ℕ) → IsWellFormed t → o ≡ parent_of t.nodes i → i < length t.nodes → IfSome o (λ p. p < i) × IfSome o (λ p. p < length t.nodes)
parent_is t i None well e within = (tt, tt)
parent_is t i (Some p) well e within = let l : p < i = before t i p well (sym e) in (l, omega arith)

-- ---- the order of children

-- at least this, and rising
abbrev RisesFrom : ℕ → List ℕ → Type 0
RisesFrom least [] = Unit {0}
RisesFrom least (x ∷ xs) = (least ≤ x) × RisesFrom (x + 1) xs

lower : (least higher : ℕ) (xs : List ℕ) → least ≤ higher → RisesFrom higher xs → RisesFrom least xs
lower least higher [] le r = tt
lower least higher (x ∷ xs) le r = (omega (arith, le, r.0), r.1)

either : (first : ℕ) (xs : List ℕ) (b : Bool) → RisesFrom (first + 1) xs → RisesFrom first (if b then first ∷ xs else xs)
either first xs true r = (omega arith, r)
either first xs false r = lower first (first + 1) xs (omega arith) r

children_from_rise : (first : ℕ) (ns : List NodeData) (i : ℕ) → RisesFrom first (children_from first ns i)
children_from_rise first [] i = tt
children_from_rise first (n ∷ ns) i = either first (children_from (first + 1) ns i) (holds_number i n.parent) (children_from_rise (first + 1) ns i)

rising : (least : ℕ) (xs : List ℕ) → RisesFrom least xs → IsStrictlyIncreasing xs
rising least [] r k l = absurd (omega arith)
rising least (x ∷ []) r k l = absurd (omega arith)
rising least (x ∷ y ∷ ys) r zero l = let h : x + 1 ≤ y = r.1.0 in omega arith
rising least (x ∷ y ∷ ys) r (suc k) l =
    let e : suc (k + 1) ≡ suc k + 1 = omega arith in
    subst (λ n. slice_index (y ∷ ys) k < slice_index (x ∷ y ∷ ys) n) e (rising (x + 1) (y ∷ ys) r.1 k (omega arith))

pub children_of_rise : (t : TreeData) (i : ℕ) (n : NodeData) → IsWellFormed t → slice_get t.nodes i ≡ Some n → IsStrictlyIncreasing n.children
children_of_rise t i n well at = subst IsStrictlyIncreasing (sym (well.children i n at)) (rising 0 (children_from 0 t.nodes i) (children_from_rise 0 t.nodes i))
