use Rattle.std.proofs.Common.{◌≡◌, ◌++◌, map, drop}
use Rattle.bind_merge.specs.Joining.{inherited}
use Rattle.bind_merge.proofs.entries.inherited.Given as goal

abbrev pub invariant-loop-entry : goal.invariant-loop-entry
invariant-loop-entry l = l.out.items ++ map inherited (drop l.entry-index l.entries) ≡ map inherited l.entries
