use Rattle.std.proofs.Common.{◌≡◌, length}
use Rattle.bind_merge.specs.Inner.Heights.{AreNone}
use Rattle.bind_merge.proofs.resolve.none_each.Given as goal

abbrev pub invariant-loop : goal.invariant-loop
invariant-loop g l = (length l.nones.items ≡ l.counter) × AreNone l.nones.items
