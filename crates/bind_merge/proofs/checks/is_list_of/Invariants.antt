use Rattle.std.proofs.Common.{◌≡◌, map, drop}
use Rattle.std.specs.List.{list_all}
use Rattle.edt_base.specs.YamlData.{value_of, item_list, items_from}
use Rattle.bind_merge.specs.Inner.Items.{is_item}
use Rattle.bind_merge.proofs.checks.is_list_of.Given as goal

abbrev pub invariant-loop-value : goal.invariant-loop-value
invariant-loop-value l =
    list_all (is_item l.item) (item_list (items_from (map value_of (drop l.value-index l.value-items)))) ≡ list_all (is_item l.item) (item_list (items_from (map value_of l.value-items)))
