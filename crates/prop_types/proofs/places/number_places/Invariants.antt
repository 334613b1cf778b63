use Rattle.std.proofs.Common.{◌≡◌, ℕ, length, map, position}
use Rattle.edt_base.specs.YamlData.{value_of}
use Rattle.prop_types.specs.Choices.{is_number}
use Rattle.prop_types.specs.Inner.Places.{number_at, number_in}
use Rattle.prop_types.proofs.PlaceLaws.{place_or}
use Rattle.prop_types.proofs.places.number_places.Given as goal

abbrev pub invariant-loop-entry : goal.invariant-loop-entry
invariant-loop-entry l = (n : ℕ) → place_or (position (is_number (number_in l.numbers) n) (map value_of l.left)) (number_at l.places n)
    ≡ position (is_number (number_in l.numbers) n) (map value_of l.entries)

abbrev pub decreases-loop-entry : goal.decreases-loop-entry
decreases-loop-entry l = length l.left
