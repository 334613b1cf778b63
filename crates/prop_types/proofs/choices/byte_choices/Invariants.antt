use Rattle.std.proofs.Common.{◌≡◌, drop, map}
use Rattle.edt_base.specs.YamlData.{value_of}
use Rattle.prop_types.specs.AllThere.{all_there}
use Rattle.prop_types.specs.Choices.{number_choice}
use Rattle.prop_types.specs.Given.{byte_in}
use Rattle.prop_types.proofs.There.{there_after}
use Rattle.prop_types.proofs.choices.byte_choices.Given as goal

abbrev pub invariant-loop-byte : goal.invariant-loop-byte
invariant-loop-byte l = there_after l.choices.items (all_there (map (number_choice byte_in (map value_of l.entries)) (drop l.byte-index l.bytes)))
    ≡ all_there (map (number_choice byte_in (map value_of l.entries)) l.bytes)
