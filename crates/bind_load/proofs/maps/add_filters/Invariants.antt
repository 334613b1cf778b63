use Rattle.std.proofs.Common.{◌≡◌, ◌++◌, map, drop}
use Rattle.bind_load.specs.Inner.Seen.{map_data, level_data}
use Rattle.bind_load.specs.FileMaps.{filter_map}
use Rattle.bind_load.proofs.maps.add_filters.Given as goal

abbrev pub invariant-loop-pairs : goal.invariant-loop-pairs
invariant-loop-pairs l =
    map map_data l.maps.items ++ map filter_map (map level_data (drop l.pairs-index l.filters))
    ≡ map map_data l.fn.maps.items ++ map filter_map (map level_data l.filters)
