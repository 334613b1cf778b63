use Rattle.std.proofs.Common.{◌≡◌, ◌++◌, map, length}
use Rattle.bind_load.specs.Inner.Seen.{level_data, levels_from}
use Rattle.bind_load.proofs.maps.levels.Given as goal

abbrev pub invariant-loop-next : goal.invariant-loop-next
invariant-loop-next l = map level_data l.found.items ++ levels_from l.next ≡ levels_from l.first

abbrev pub decreases-loop-next : goal.decreases-loop-next
decreases-loop-next l = length (levels_from l.next)
