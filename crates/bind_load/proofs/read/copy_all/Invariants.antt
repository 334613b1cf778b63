use Rattle.std.proofs.Common.{◌≡◌, ◌++◌, map, drop}
use Rattle.edt_base.specs.YamlData.{value_of, item_list}
use Rattle.bind_load.specs.Inner.Seen.{items_of}
use Rattle.bind_load.proofs.read.copy_all.Given as goal

abbrev pub invariant-loop-item : goal.invariant-loop-item
invariant-loop-item l = map value_of l.copied.items ++ item_list (items_of (drop l.item-index l.items)) ≡ item_list (items_of l.items)
