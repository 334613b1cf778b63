use Rattle.std.proofs.Common.{length}
use Rattle.edt_bound.proofs.InstanceSteps.{AreTaken}
use Rattle.edt_bound.proofs.instances.instances.Given as goal

abbrev pub invariant-loop-compat : goal.invariant-loop-compat
invariant-loop-compat l = AreTaken l.t.nodes l.initial.listing.entries l.insts.items l.listing.entries

abbrev pub decreases-loop-compat : goal.decreases-loop-compat
decreases-loop-compat l = length l.listing.entries
