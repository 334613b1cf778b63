use Rattle.std.proofs.Common.{◌≡◌, ◌++◌, map, length}
use Rattle.std.specs.Option.{option_map}
use Rattle.edt_base.specs.YamlData.{value_of}
use Rattle.bind_load.specs.Inner.Seen.{level_data}
use Rattle.bind_load.specs.RecordOf.{level_in, record_in}
use Rattle.bind_load.specs.RecordSeen.{record_of, rest_of}
use Rattle.bind_load.proofs.building.build.Given as goal

abbrev pub invariant-loop-pairs : goal.invariant-loop-pairs
invariant-loop-pairs l = map level_in (map level_data l.left.items) ++ rest_of (option_map record_of l.rec) ≡ record_in (value_of l.y)

abbrev pub decreases-loop-pairs : goal.decreases-loop-pairs
decreases-loop-pairs l = length l.left.items
