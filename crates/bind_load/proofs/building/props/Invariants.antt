use Rattle.std.proofs.Common.{◌≡◌, ◌++◌, map, drop}
use Rattle.std.specs.List.{flat_map}
use Rattle.edt_base.specs.YamlData.{pair_list}
use Rattle.bind_load.specs.Inner.Seen.{pairs_of}
use Rattle.bind_load.specs.RecordOf.{prop_in}
use Rattle.bind_load.specs.RecordSeen.{prop_of}
use Rattle.bind_load.proofs.building.props.Given as goal

abbrev pub invariant-loop-name : goal.invariant-loop-name
invariant-loop-name l = map prop_of l.props.items ++ flat_map prop_in (pair_list (pairs_of (drop l.name-index l.properties))) ≡ flat_map prop_in (pair_list (pairs_of l.properties))
