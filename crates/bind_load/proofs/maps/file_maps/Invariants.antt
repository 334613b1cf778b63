use Rattle.std.proofs.Common.{◌≡◌, ◌++◌, map, drop}
use Rattle.std.specs.List.{flat_map}
use Rattle.edt_base.specs.YamlData.{value_of}
use Rattle.bind_load.specs.Inner.Seen.{map_data, level_data}
use Rattle.bind_load.specs.FileMaps.{level_maps, file_maps}
use Rattle.bind_load.proofs.maps.file_maps.Given as goal

abbrev pub invariant-loop-pairs : goal.invariant-loop-pairs
invariant-loop-pairs l = map map_data l.maps.items ++ flat_map level_maps (map level_data (drop l.pairs-index l.pairs-items)) ≡ file_maps (value_of l.y)
