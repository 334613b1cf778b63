use Rattle.edt_base.proofs.tree.Tree.children.Goals as goal

pub returns-clause-there : goal.returns-clause-there
returns-clause-there c = rw c.children.ensures (c.is_well_formed.ensures.children_in c.args.id c.node.result.now c.node.ensures)
