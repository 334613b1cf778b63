use Rattle.edt_base.proofs.TreeLaws.{above, above_root}
use Rattle.edt_base.proofs.tree_laws.ancestors_are_the_parent_and_its_ancestors.Goals as goal

pub returns-clause-parent : goal.returns-clause-parent
returns-clause-parent c = above

pub returns-clause-root : goal.returns-clause-root
returns-clause-root c = above_root
