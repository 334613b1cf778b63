use Rattle.std.proofs.Common.{◌≡◌, ◌++◌, map, drop}
use Rattle.std.specs.List.{flat_map}
use Rattle.edt_base.specs.YamlData.{item_list}
use Rattle.bind_load.specs.Inner.Seen.{items_of, map_data}
use Rattle.bind_load.specs.FileMaps.{include_maps}
use Rattle.bind_load.proofs.maps.add_includes.Given as goal

abbrev pub invariant-loop-include : goal.invariant-loop-include
invariant-loop-include l =
    map map_data l.maps.items ++ flat_map include_maps (item_list (items_of (drop l.include-index l.includes)))
    ≡ map map_data l.fn.maps.items ++ flat_map include_maps (item_list (items_of l.includes))
