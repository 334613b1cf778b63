use Rattle.std.proofs.Common.{◌≡◌, map, drop}
use Rattle.edt_base.specs.YamlData.{item_list, items_from, value_of}
use Rattle.prop_types.specs.AllThere.{all_there}
use Rattle.prop_types.specs.Given.{text_in}
use Rattle.prop_types.proofs.There.{there_after}
use Rattle.prop_types.proofs.given.texts_in.Given as goal

abbrev pub invariant-loop-item : goal.invariant-loop-item
invariant-loop-item l = there_after l.texts.items (all_there (map text_in (item_list (items_from (map value_of (drop l.item-index l.item-items))))))
    ≡ all_there (map text_in (item_list (items_from (map value_of l.item-items))))
