use Rattle.std.proofs.Common.{◌≡◌, drop, map}
use Rattle.edt_base.specs.YamlData.{value_of}
use Rattle.prop_types.specs.AllThere.{all_there}
use Rattle.prop_types.specs.Choices.{number_choice}
use Rattle.prop_types.specs.Given.{cell_in}
use Rattle.prop_types.proofs.There.{there_after}
use Rattle.prop_types.proofs.choices.cell_choices.Given as goal

abbrev pub invariant-loop-cell : goal.invariant-loop-cell
invariant-loop-cell l = there_after l.choices.items (all_there (map (number_choice cell_in (map value_of l.entries)) (drop l.cell-index l.cells)))
    ≡ all_there (map (number_choice cell_in (map value_of l.entries)) l.cells)
