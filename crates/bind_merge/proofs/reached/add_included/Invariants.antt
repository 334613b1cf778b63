use Rattle.std.proofs.Common.{◌≡◌, ◌++◌, drop, map}
use Rattle.std.specs.List.{flat_map}
use Rattle.bind_load.specs.RecordSeen.{include_of}
use Rattle.bind_merge.specs.Inner.Spreading.{included_at}
use Rattle.bind_merge.proofs.reached.add_included.Given as goal

abbrev pub invariant-loop-include : goal.invariant-loop-include
invariant-loop-include l =
    l.included.items ++ flat_map (included_at l.names) (map include_of (drop l.include-index l.includes))
    ≡ l.fn.included.items ++ flat_map (included_at l.names) (map include_of l.includes)
