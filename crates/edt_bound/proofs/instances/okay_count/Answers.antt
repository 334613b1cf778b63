use Rattle.edt_bound.proofs.InstanceSteps.{few_okay}
use Rattle.std.proofs.Common.{arith}
use Rattle.edt_bound.proofs.instances.okay_count.Goals as goal

pub overflow_cast-result : goal.overflow_cast-result
overflow_cast-result c = omega (arith, few_okay c.args.t.now.nodes c.args.ids.now c.requires, c.okay_count.ensures)
