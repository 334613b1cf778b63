use Rattle.edt_bound.specs.Gathering.{AreGathered}
use Rattle.edt_bound.proofs.instances.gathered.Given as goal

abbrev pub invariant-loop-place : goal.invariant-loop-place
invariant-loop-place l = AreGathered l.t.nodes l.place l.listing.entries
