use Rattle.std.proofs.Common.{◌≡◌, ◌++◌, map, drop}
use Rattle.bind_merge.specs.Looking.{bare}
use Rattle.bind_merge.proofs.lookup.bare_entries.Given as goal

abbrev pub invariant-loop-name : goal.invariant-loop-name
invariant-loop-name l = l.entries.items ++ map bare (drop l.name-index l.names) ≡ map bare l.names
