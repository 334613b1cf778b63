use Rattle.std.proofs.Common.{◌≡◌, ap, sym, option_and_then, ◌∙◌}
use Rattle.edt_base.specs.NodeData.{NodeData}
use Rattle.edt_base.specs.TreeData.{parent_of}
use Rattle.edt_base.proofs.TreeLaws.{parent_is}
use Rattle.edt_base.proofs.tree.Tree.parent.Goals as goal

is_parent : (c : goal.After-result-1) → c.behind-self.inside.parent ≡ parent_of c.args.self.now.nodes c.args.id
is_parent c = ap (λ (n : NodeData). n.parent) c.behind-self.view_is ∙ sym (ap (option_and_then (λ (n : NodeData). n.parent)) c.node.ensures)

pub returns-clause-before : goal.returns-clause-before
returns-clause-before c = (parent_is c.args.self.now c.args.id c.behind-self.inside.parent c.is_well_formed.ensures (is_parent c) c.requires).0

pub returns-clause-there : goal.returns-clause-there
returns-clause-there c = (parent_is c.args.self.now c.args.id c.behind-self.inside.parent c.is_well_formed.ensures (is_parent c) c.requires).1
