use Rattle.std.proofs.Common.{◌≡◌, ◌++◌, map, drop}
use Rattle.std.specs.List.{flat_map}
use Rattle.edt_base.specs.YamlData.{pair_list}
use Rattle.bind_load.specs.Inner.Seen.{pairs_of, map_data}
use Rattle.bind_load.specs.FileMaps.{settings_map}
use Rattle.bind_load.proofs.maps.add_settings.Given as goal

abbrev pub invariant-loop-settings : goal.invariant-loop-settings
invariant-loop-settings l =
    map map_data l.maps.items ++ flat_map settings_map (pair_list (pairs_of (drop l.settings-index l.properties)))
    ≡ map map_data l.fn.maps.items ++ flat_map settings_map (pair_list (pairs_of l.properties))
