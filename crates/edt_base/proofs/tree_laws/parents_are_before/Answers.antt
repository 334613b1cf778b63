use Rattle.edt_base.proofs.TreeLaws.{before}
use Rattle.edt_base.proofs.tree_laws.parents_are_before.Goals as goal

pub returns : goal.returns
returns c = before
