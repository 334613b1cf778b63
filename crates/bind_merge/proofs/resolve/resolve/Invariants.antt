use Rattle.std.proofs.Common.{◌≡◌, length}
use Rattle.bind_merge.specs.Inner.Heights.{AllResolved}
use Rattle.bind_merge.proofs.resolve.resolve.Given as goal

abbrev pub invariant-loop-height : goal.invariant-loop-height
invariant-loop-height l = (length l.resolved.items ≡ length l.reads) × AllResolved l.names l.reads l.height l.resolved.items
