use Rattle.std.proofs.Common.{◌∙◌}
use Rattle.bind_merge.proofs.Indexed.{found_group, lost_group, no_group, tree_others}
use Rattle.bind_merge.proofs.NamedFiles.{tree-get}
use Rattle.bind_merge.proofs.index.take_group.Goals as goal

pub returns-in-Some-clause-group : goal.returns-in-Some-clause-group
returns-in-Some-clause-group c =
    found_group c.args.groups.now.entries c.args.compat.now c.in-Some.group (c.in-Some.ensures.value ∙ tree-get c.args.compat.now c.args.groups.now.entries)

pub returns-in-Some-clause-others : goal.returns-in-Some-clause-others
returns-in-Some-clause-others c = λ q e.
    tree_others c.args.groups.now.entries c.remove.new.self.entries c.args.compat.now c.in-Some.ensures.updates.0 q e

pub returns-in-None-clause-group : goal.returns-in-None-clause-group
returns-in-None-clause-group c = λ r.
    no_group c.new.result c.new.ensures.empty r
    ∙ lost_group c.args.groups.now.entries c.args.compat.now (c.in-None.ensures.value ∙ tree-get c.args.compat.now c.args.groups.now.entries) r

pub returns-in-None-clause-others : goal.returns-in-None-clause-others
returns-in-None-clause-others c = λ q e.
    tree_others c.args.groups.now.entries c.remove.new.self.entries c.args.compat.now c.in-None.ensures.updates.0 q e
