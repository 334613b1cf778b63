use Rattle.std.proofs.Common.{◌≡◌, map, drop}
use Rattle.std.specs.List.{list_any}
use Rattle.bind_load.specs.Inner.Seen.{map_data}
use Rattle.bind_load.specs.Rules.{has_both_lists}
use Rattle.bind_load.proofs.rules.any_both_lists.Given as goal

abbrev pub invariant-loop-map : goal.invariant-loop-map
invariant-loop-map l = list_any has_both_lists (map map_data (drop l.map-index l.maps)) ≡ list_any has_both_lists (map map_data l.maps)
