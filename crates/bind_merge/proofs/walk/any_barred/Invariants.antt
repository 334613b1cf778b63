use Rattle.std.proofs.Common.{◌≡◌, drop, map}
use Rattle.std.specs.List.{list_any}
use Rattle.bind_load.specs.RecordData.{IncludeData}
use Rattle.bind_load.specs.RecordSeen.{include_of}
use Rattle.bind_merge.specs.Inner.Resolving.{named_in}
use Rattle.bind_merge.specs.Inner.Ways.{bars}
use Rattle.bind_merge.proofs.walk.any_barred.Given as goal

abbrev pub invariant-loop-include : goal.invariant-loop-include
invariant-loop-include l =
    list_any (λ (i : IncludeData). bars l.deep l.path (named_in l.names i.name)) (map include_of l.includes)
    ≡ list_any (λ (i : IncludeData). bars l.deep l.path (named_in l.names i.name)) (map include_of (drop l.include-index l.includes))
