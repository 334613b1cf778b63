use Rattle.std.proofs.Common.{sym}
use Rattle.edt_bound.proofs.InstanceSteps.{one_added}
use Rattle.edt_bound.proofs.instances.add_node.Goals as goal

pub loop-compat-preserved : goal.loop-compat-preserved
loop-compat-preserved c =
    one_added c.args.compats.now c.loop-compat.compat-index c.compat-item.result c.args.id c.args.listing.now.entries c.loop-compat.listing.entries
    c.add.new.listing.entries c.loop-compat-test.true (sym c.compat-item.is) c.loop-compat.invariant c.in_ok-add.ensures
