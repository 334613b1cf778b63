use Rattle.edt_bound.proofs.InstanceSteps.{one_gathered}
use Rattle.edt_bound.proofs.instances.gathered.Goals as goal

pub loop-place-preserved : goal.loop-place-preserved
loop-place-preserved c =
    one_gathered c.args.t.now.nodes c.loop-place.place c.compats_of.result.now c.loop-place.listing.entries c.add_node.new.listing.entries
    c.compats_of.ensures c.loop-place.invariant c.in_ok-add_node.ensures
