use Rattle.std.proofs.Common.{◌≡◌, drop, map}
use Rattle.std.specs.List.{list_all}
use Rattle.bind_load.specs.RecordSeen.{include_of}
use Rattle.bind_merge.specs.Inner.Heights.{is_low}
use Rattle.bind_merge.proofs.resolve.are_low.Given as goal

abbrev pub invariant-loop-include : goal.invariant-loop-include
invariant-loop-include l =
    list_all (is_low l.names l.resolved l.height) (map include_of l.includes)
    ≡ list_all (is_low l.names l.resolved l.height) (map include_of (drop l.include-index l.includes))
