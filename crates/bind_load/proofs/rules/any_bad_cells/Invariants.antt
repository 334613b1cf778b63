use Rattle.std.proofs.Common.{◌≡◌, map, drop}
use Rattle.std.specs.List.{list_any}
use Rattle.bind_load.specs.Inner.Seen.{map_data}
use Rattle.bind_load.specs.Rules.{has_bad_cells}
use Rattle.bind_load.proofs.rules.any_bad_cells.Given as goal

abbrev pub invariant-loop-map : goal.invariant-loop-map
invariant-loop-map l = list_any has_bad_cells (map map_data (drop l.map-index l.maps)) ≡ list_any has_bad_cells (map map_data l.maps)
