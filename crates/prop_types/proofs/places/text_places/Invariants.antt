use Rattle.std.proofs.Common.{◌≡◌, ℕ, List, length, map, position}
use Rattle.edt_base.specs.YamlData.{value_of}
use Rattle.prop_types.specs.Choices.{is_text}
use Rattle.prop_types.specs.Inner.Places.{text_at}
use Rattle.prop_types.proofs.PlaceLaws.{place_or}
use Rattle.prop_types.proofs.places.text_places.Given as goal

abbrev pub invariant-loop-entry : goal.invariant-loop-entry
invariant-loop-entry l = (t : List ℕ) → place_or (position (is_text t) (map value_of l.left)) (text_at l.places t) ≡ position (is_text t) (map value_of l.entries)

abbrev pub decreases-loop-entry : goal.decreases-loop-entry
decreases-loop-entry l = length l.left
