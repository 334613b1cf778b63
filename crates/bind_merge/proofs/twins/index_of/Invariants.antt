use Rattle.std.proofs.Common.{◌≡◌, None, take}
use Rattle.bind_merge.specs.Loading.{twin_fault}
use Rattle.bind_merge.specs.Inner.Indexing.{IsIndexOf}
use Rattle.bind_merge.specs.Inner.Steps.{bindings_at, numbers_of}
use Rattle.bind_merge.proofs.twins.index_of.Given as goal

abbrev pub invariant-loop-found : goal.invariant-loop-found
invariant-loop-found l =
    IsIndexOf l.files (bindings_at l.resolved (numbers_of (take l.found-index l.matches))) l.index.groups.entries
    × (twin_fault l.files (bindings_at l.resolved (numbers_of (take l.found-index l.matches))) ≡ None)
