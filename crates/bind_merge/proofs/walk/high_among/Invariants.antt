use Rattle.std.proofs.Common.{◌≡◌, drop, map}
use Rattle.bind_load.specs.RecordData.{IncludeData}
use Rattle.bind_load.specs.RecordSeen.{include_of}
use Rattle.bind_merge.specs.Options.{first_some}
use Rattle.bind_merge.specs.Inner.Resolving.{named_in}
use Rattle.bind_merge.specs.Inner.Ways.{high}
use Rattle.bind_merge.proofs.walk.high_among.Given as goal

abbrev pub invariant-loop-include : goal.invariant-loop-include
invariant-loop-include l =
    first_some (λ (i : IncludeData). high l.resolved l.left (named_in l.names i.name)) (map include_of l.includes)
    ≡ first_some (λ (i : IncludeData). high l.resolved l.left (named_in l.names i.name)) (map include_of (drop l.include-index l.includes))
