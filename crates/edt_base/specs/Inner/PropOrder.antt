-- The order in which a node's properties are found by their names.
use Rattle.std.specs.Prelude.{◌≡◌, ℕ, List, [], Option, Some, None, IsSomeAnd, length, option_map, slice_get, unwrap_or}
use Rattle.std.specs.List.{range_with_len}
use Rattle.std.specs.List.Sorted.{IsPermutation, IsSortedByKey}
use Rattle.std.specs.Ordering.{nat_cmp}
use Rattle.std.specs.Cmp.Lexicographic.{slice_cmp}
use Rattle.edt_base.specs.declared.node.Part.{Part}

abbrev pub Props : Type 0
Props = List (List ℕ × List Part)

-- the name of the property at a place, empty past them
abbrev pub name_at : Props → ℕ → List ℕ
name_at props at = unwrap_or (option_map (λ (p : List ℕ × List Part). p.0) (slice_get props at)) []

-- the places of the properties, each once, in the order of their names
pub record IsPropOrder (props : Props) (places : List ℕ) : Type 0 where
  pub each : IsPermutation (range_with_len 0 (length props)) places
  pub sorted : IsSortedByKey (name_at props) (slice_cmp nat_cmp) places

-- what a search by a name answers: the place of a property that has it, or none where no property has it
abbrev pub IsPlaceOf : Props → List ℕ → Option ℕ → Type 0
IsPlaceOf props name (Some at) = IsSomeAnd (slice_get props at) (λ (p : List ℕ × List Part). p.0 ≡ name)
IsPlaceOf props name None = (at : ℕ) (p : List ℕ × List Part) → slice_get props at ≡ Some p → p.0 ≡ name → ⊥
