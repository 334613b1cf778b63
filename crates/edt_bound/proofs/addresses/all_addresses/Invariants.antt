use Rattle.edt_bound.specs.Addresses.{addresses_of}
use Rattle.edt_bound.specs.Phases.{AreAnswers}
use Rattle.edt_bound.proofs.addresses.all_addresses.Given as goal

abbrev pub invariant-loop-place : goal.invariant-loop-place
invariant-loop-place l = AreAnswers (addresses_of l.t.nodes) l.place l.all.items
