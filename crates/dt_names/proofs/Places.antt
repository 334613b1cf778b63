-- The place of a number among rising ones, as a binary search finds it.
use Rattle.std.proofs.Common.{◌≡◌, ℕ, zero, suc, ◌+◌, ◌<◌, ◌≤◌, List, [], ◌∷◌, Bool, true, false, Some, Ok, Err, if◌then◌else◌, length, get_or, nat_lt, arith, sym, subst, slice_get}
use Rattle.std.specs.Ordering.{nat_cmp}
use Rattle.std.specs.List.{filter}
use Rattle.std.specs.List.Sorted.{IsBinarySearchResult}
use Rattle.std.proofs.lemmas.List.Sorted.{searched}
use Rattle.std.proofs.lemmas.Bool.Decides.{nat_tests}
use Rattle.std.proofs.lemmas.Grind.{common_steps}
use Rattle.edt_base.specs.NodeData.{NodeData, holds_number}
use Rattle.edt_base.specs.TreeData.{TreeData, IsWellFormed, children_from}
use Rattle.dt_names.specs.Inner.Rising.{IsRisingFrom}

lower : (least more : ℕ) (xs : List ℕ) → least ≤ more → IsRisingFrom more xs → IsRisingFrom least xs
lower least more [] le r = tt
lower least more (x ∷ xs) le r = (omega (arith, le, r.0), r.1)

either : (first : ℕ) (xs : List ℕ) (b : Bool) → IsRisingFrom (first + 1) xs → IsRisingFrom first (if b then first ∷ xs else xs)
either first xs true r = (omega arith, r)
either first xs false r = lower first (first + 1) xs (omega arith) r

-- the places of a node's children rise
pub children_rise : (first : ℕ) (ns : List NodeData) (i : ℕ) → IsRisingFrom first (children_from first ns i)
children_rise first [] i = tt
children_rise first (n ∷ ns) i = either first (children_from (first + 1) ns i) (holds_number i n.parent) (children_rise (first + 1) ns i)

above : (least : ℕ) (xs : List ℕ) (j : ℕ) → IsRisingFrom least xs → j < length xs → least ≤ get_or xs j 0
above least [] j r below = absurd (omega (arith, below))
above least (x ∷ xs) zero r below = r.0
above least (x ∷ xs) (suc j) r below = omega (arith, r.0, above (x + 1) xs j r.1 (omega (arith, below)))

rise : (least : ℕ) (xs : List ℕ) (i j : ℕ) → IsRisingFrom least xs → i < j → j < length xs → get_or xs i 0 < get_or xs j 0
rise least [] i j r less below = absurd (omega (arith, below))
rise least (x ∷ xs) i zero r less below = absurd (omega (arith, less))
rise least (x ∷ xs) zero (suc j) r less below = omega (arith, above (x + 1) xs j r.1 (omega (arith, below)))
rise least (x ∷ xs) (suc i) (suc j) r less below = rise (x + 1) xs i j r.1 (omega (arith, less)) (omega (arith, below))

step : (b : Bool) (n x : ℕ) (xs : List ℕ) → nat_lt x n ≡ b → length (filter (λ c. nat_lt c n) (x ∷ xs)) ≡ (if b then 1 else 0) + length (filter (λ c. nat_lt c n) xs)
step b n x xs e = grind (arith, common_steps, e)

-- where all before a place are less and none behind it is, the place is how many are less
pub split_at : (xs : List ℕ) (i n : ℕ) → i ≤ length xs → ((j : ℕ) → j < i → get_or xs j 0 < n) → ((j : ℕ) → i ≤ j → j < length xs → n ≤ get_or xs j 0)
    → length (filter (λ c. nat_lt c n) xs) ≡ i
split_at [] i n within less more = omega (arith, within)
split_at (x ∷ xs) zero n within less more =
    let e : nat_lt x n ≡ false = grind (arith, nat_tests, more 0 (omega arith) (omega arith)) in
    let rest = split_at xs 0 n (omega arith) (λ j b. absurd (omega (arith, b))) (λ j a b. more (suc j) (omega arith) (omega (arith, b))) in
    grind (arith, common_steps, step false n x xs e, rest)
split_at (x ∷ xs) (suc i) n within less more =
    let e : nat_lt x n ≡ true = grind (arith, nat_tests, less 0 (omega arith)) in
    let rest = split_at xs i n (omega (arith, within)) (λ j b. less (suc j) (omega (arith, b))) (λ j a b. more (suc j) (omega (arith, a)) (omega (arith, b))) in
    grind (arith, common_steps, step true n x xs e, rest)

sorted : (least : ℕ) (xs : List ℕ) (i j : ℕ) → IsRisingFrom least xs → i ≤ j → j < length xs → get_or xs i 0 ≤ get_or xs j 0
sorted least [] i j r le below = absurd (omega (arith, below))
sorted least (x ∷ xs) zero zero r le below = omega arith
sorted least (x ∷ xs) zero (suc j) r le below = omega (arith, above (x + 1) xs j r.1 (omega (arith, below)))
sorted least (x ∷ xs) (suc i) zero r le below = absurd (omega (arith, le))
sorted least (x ∷ xs) (suc i) (suc j) r le below = sorted (x + 1) xs i j r.1 (omega (arith, le)) (omega (arith, below))

-- a place at which the number stands
pub place_found : (xs : List ℕ) (n i : ℕ) → IsRisingFrom 0 xs → IsBinarySearchResult (λ y. nat_cmp y n) xs (Ok i) → length (filter (λ c. nat_lt c n) xs) ≡ i
place_found xs n i r found =
    let s = searched xs n (Ok i) found (λ j k le below. sorted 0 xs j k r le below) in
    split_at xs i n (omega (arith, s.0))
    (λ j b. omega (arith, s.1, rise 0 xs j i r b s.0))
    (λ j a b. omega (arith, s.1, sorted 0 xs i j r a b))

-- a place at which it would stand
pub place_between : (xs : List ℕ) (n i : ℕ) → IsRisingFrom 0 xs → IsBinarySearchResult (λ y. nat_cmp y n) xs (Err i) → length (filter (λ c. nat_lt c n) xs) ≡ i
place_between xs n i r found =
    let s = searched xs n (Err i) found (λ j k le below. sorted 0 xs j k r le below) in
    split_at xs i n s.0 s.1 (λ j a b. omega (arith, s.2 j a b))

-- the children of a node of a well-formed tree rise
pub children_of_rise : (t : TreeData) (up : ℕ) (node : NodeData) → IsWellFormed t → slice_get t.nodes up ≡ Some node → IsRisingFrom 0 node.children
children_of_rise t up node formed at = subst (λ xs. IsRisingFrom 0 xs) (sym (formed.children up node at)) (children_rise 0 t.nodes up)
