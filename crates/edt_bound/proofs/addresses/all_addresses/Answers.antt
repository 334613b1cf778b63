use Rattle.std.proofs.Common.{rules}
use Rattle.edt_bound.specs.Addresses.{addresses_of}
use Rattle.edt_bound.proofs.AddressSteps.{whole_above}
use Rattle.edt_bound.proofs.PhaseSteps.{answer_more, first_broken}
use Rattle.edt_bound.proofs.addresses.all_addresses.Goals as goal

pub addresses_of-requires-clause-whole : goal.addresses_of-requires-clause-whole
addresses_of-requires-clause-whole c = whole_above c.args.t.now c.is_well_formed.ensures c.loop-place.all.items c.loop-place.place c.loop-place.invariant

pub loop-place-preserved : goal.loop-place-preserved
loop-place-preserved c = answer_more (addresses_of c.args.t.now.nodes) c.loop-place.all.items _ c.in-Ok.next c.loop-place.place c.loop-place.invariant
    c.in-Ok.ensures.found c.in_ok-push-in-Ok.ensures.items

pub returns-in-Err-clause-refused : goal.returns-in-Err-clause-refused
returns-in-Err-clause-refused c = first_broken c.args.t.now.nodes (addresses_of c.args.t.now.nodes) c.loop-place.all.items c.loop-place.place c.in-Err.end
    c.loop-place.invariant (search rules) c.in-Err.ensures.refused
