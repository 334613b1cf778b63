use Rattle.std.proofs.Common.{◌≡◌, drop, map}
use Rattle.edt_base.specs.YamlData.{value_of}
use Rattle.prop_types.specs.AllThere.{all_there}
use Rattle.prop_types.specs.Choices.{text_choice}
use Rattle.prop_types.proofs.There.{there_after}
use Rattle.prop_types.proofs.choices.text_choices.Given as goal

abbrev pub invariant-loop-text : goal.invariant-loop-text
invariant-loop-text l = there_after l.choices.items (all_there (map (text_choice (map value_of l.entries)) (drop l.text-index l.texts)))
    ≡ all_there (map (text_choice (map value_of l.entries)) l.texts)
