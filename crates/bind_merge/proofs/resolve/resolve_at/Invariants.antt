use Rattle.std.proofs.Common.{◌≡◌, length}
use Rattle.bind_merge.specs.Inner.Heights.{AllResolvedTo}
use Rattle.bind_merge.proofs.resolve.resolve_at.Given as goal

abbrev pub invariant-loop-at : goal.invariant-loop-at
invariant-loop-at l = (length l.resolved.items ≡ length l.reads) × AllResolvedTo l.names l.reads l.height l.at l.resolved.items
