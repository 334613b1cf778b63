use Rattle.std.proofs.Common.{◌≡◌, ◌++◌, map, drop}
use Rattle.std.specs.List.{flat_map}
use Rattle.edt_base.specs.YamlData.{item_list}
use Rattle.bind_load.specs.Inner.Seen.{items_of}
use Rattle.bind_load.specs.RecordOf.{include_in}
use Rattle.bind_load.specs.RecordSeen.{include_of}
use Rattle.bind_load.proofs.building.included.Given as goal

abbrev pub invariant-loop-value : goal.invariant-loop-value
invariant-loop-value l = map include_of l.included.items ++ flat_map include_in (item_list (items_of (drop l.value-index l.values))) ≡ flat_map include_in (item_list (items_of l.values))
