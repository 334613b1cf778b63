-- What is left of a list from a place on.
use Rattle.std.proofs.Common.{◌≡◌, ℕ, zero, ◌+◌, ◌^◌, ◌<◌, suc, List, [], ◌∷◌, Some, None, drop, length, option_map, slice_get, unwrap_or, refl, arith, ap}
use Rattle.std.proofs.Math.Seq.{drop-cons}
use Rattle.std.proofs.lemmas.Option.{slice_get_within, get_or_from_slice_get}
use Rattle.edt_base.specs.NodeData.{NodeData}
use Rattle.dt_names.specs.Inner.Standing.{StandsAt}

-- where an element stands, it and what is behind it
pub drop_at : {A : Type 0} (xs : List A) (i : ℕ) (x : A) → slice_get xs i ≡ Some x → drop i xs ≡ x ∷ drop (i + 1) xs
drop_at xs i x found =
    let one : suc i ≡ i + 1 = omega arith in
    let is = get_or_from_slice_get xs i x x found in
    let first = drop-cons xs i x (slice_get_within xs i x found) in
    grind (arith, one, is, first)

-- where none stands, nothing
pub drop_past : {A : Type 0} (xs : List A) (i : ℕ) → slice_get xs i ≡ None → drop i xs ≡ []
drop_past [] zero none = refl
drop_past [] (suc i) none = refl
drop_past (x ∷ xs) zero none = grind (arith, none)
drop_past (x ∷ xs) (suc i) none = drop_past xs i none

-- a node that stands at a place of a tree of so few nodes
pub stands_at : (nodes : List NodeData) (i : ℕ) (x : NodeData) → length nodes < 2 ^ 32 → slice_get nodes i ≡ Some x → StandsAt nodes i x
stands_at nodes i x few found =
    let within = slice_get_within nodes i x found in
    record {
      rest = drop_at nodes i x found;
      path = ap (λ o. unwrap_or (option_map (λ (n : NodeData). n.path) o) []) found;
      within = within;
      fits = omega (arith, within, few);
    }
