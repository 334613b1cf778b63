use Rattle.edt_base.proofs.TreeLaws.{children_of_rise}
use Rattle.edt_base.proofs.tree_laws.children_rise.Goals as goal

pub returns : goal.returns
returns c = children_of_rise
