use Rattle.std.proofs.Common.{◌≡◌, ◌++◌, map, length}
use Rattle.std.specs.Option.{option_map}
use Rattle.bind_load.specs.Inner.Seen.{pairs_of, level_data}
use Rattle.bind_load.specs.FileMaps.{levels_below}
use Rattle.bind_load.specs.RecordOf.{filter_level}
use Rattle.bind_load.specs.RecordSeen.{filter_of, rest_of}
use Rattle.bind_load.proofs.building.filter.Given as goal

abbrev pub invariant-loop-deeper : goal.invariant-loop-deeper
invariant-loop-deeper l = map filter_level (map level_data l.left.items) ++ rest_of (option_map filter_of l.filter) ≡ map filter_level (levels_below (pairs_of l.pairs))

abbrev pub decreases-loop-deeper : goal.decreases-loop-deeper
decreases-loop-deeper l = length l.left.items
