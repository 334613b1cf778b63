use Rattle.std.proofs.Common.{length}
use Rattle.bind_merge.proofs.entries.+sorted.Given as goal

abbrev pub decreases-sorted : goal.decreases-sorted
decreases-sorted l = length l.entries.now
