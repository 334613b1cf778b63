use Rattle.std.proofs.Common.{◌≡◌, ◌++◌, drop}
use Rattle.std.specs.List.{flat_map}
use Rattle.edt_base.specs.YamlData.{item_list}
use Rattle.bind_load.specs.Inner.Seen.{items_of}
use Rattle.bind_load.specs.RecordOf.{one_text}
use Rattle.bind_load.proofs.read.texts.Given as goal

abbrev pub invariant-loop-item : goal.invariant-loop-item
invariant-loop-item l = l.texts.items ++ flat_map one_text (item_list (items_of (drop l.item-index l.items))) ≡ flat_map one_text (item_list (items_of l.items))
