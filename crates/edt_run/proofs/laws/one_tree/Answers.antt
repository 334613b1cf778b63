use Rattle.edt_run.proofs.SmallLaws.{one_tree}
use Rattle.edt_run.proofs.laws.one_tree.Goals as goal

pub returns : goal.returns
returns c = one_tree
