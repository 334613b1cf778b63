use Rattle.std.proofs.Common.{◌≡◌, map, drop}
use Rattle.std.specs.List.{list_any}
use Rattle.bind_load.specs.Inner.Seen.{map_data}
use Rattle.bind_load.specs.Rules.{has_unknown_key}
use Rattle.bind_load.proofs.rules.any_unknown_key.Given as goal

abbrev pub invariant-loop-map : goal.invariant-loop-map
invariant-loop-map l = list_any has_unknown_key (map map_data (drop l.map-index l.maps)) ≡ list_any has_unknown_key (map map_data l.maps)
