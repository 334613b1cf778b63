use Rattle.edt_base.proofs.ListLaws.{sorted_below_pass}
use Rattle.edt_base.proofs.memory.sorted_below.Goals as goal

pub returns-clause-below : goal.returns-clause-below
returns-clause-below c = sorted_below_pass c.args.dir.now c.args.held.now _ (rw c.in_ok-names.ensures at c.sort.ensures.permutation)
