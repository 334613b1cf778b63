use Rattle.std.proofs.Common.{◌∙◌}
use Rattle.bind_merge.proofs.Indexed.{found_group, lost_group}
use Rattle.bind_merge.proofs.NamedFiles.{tree-get}
use Rattle.bind_merge.proofs.index.in_groups.Goals as goal

pub returns-in-Some : goal.returns-in-Some
returns-in-Some c =
    c.in_group.ensures
    ∙ found_group c.args.groups.now.entries c.args.compat.now c.in-Some.group.now (c.in-Some.ensures.value ∙ tree-get c.args.compat.now c.args.groups.now.entries) _

pub returns-in-None : goal.returns-in-None
returns-in-None c =
    lost_group c.args.groups.now.entries c.args.compat.now (c.in-None.ensures.value ∙ tree-get c.args.compat.now c.args.groups.now.entries) _
