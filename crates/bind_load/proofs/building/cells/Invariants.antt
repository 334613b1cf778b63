use Rattle.std.proofs.Common.{◌≡◌, ◌++◌, map, drop}
use Rattle.std.specs.List.{flat_map}
use Rattle.edt_base.specs.YamlData.{pair_list}
use Rattle.bind_load.specs.Inner.Seen.{pairs_of}
use Rattle.bind_load.specs.RecordOf.{cells_in}
use Rattle.bind_load.proofs.building.cells.Given as goal

abbrev pub invariant-loop-key : goal.invariant-loop-key
invariant-loop-key l = map (λ e. (e.0, e.1.items)) l.cells.items ++ flat_map cells_in (pair_list (pairs_of (drop l.key-index l.pairs))) ≡ flat_map cells_in (pair_list (pairs_of l.pairs))
