use Rattle.std.proofs.Common.{◌≡◌, ◌++◌, drop}
use Rattle.bind_merge.proofs.entries.share_into.Given as goal

abbrev pub invariant-loop-entry : goal.invariant-loop-entry
invariant-loop-entry l = l.out.items ++ drop l.entry-index l.entries ≡ l.initial.out.items ++ l.entries
