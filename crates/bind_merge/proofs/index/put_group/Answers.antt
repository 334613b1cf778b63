use Rattle.std.proofs.Common.{Some}
use Rattle.bind_merge.proofs.NamedFiles.{tree-sets}
use Rattle.bind_merge.proofs.index.put_group.Goals as goal

pub returns : goal.returns
returns c = λ q.
    tree-sets c.args.groups.now.entries c.insert.new.self.entries c.args.compat (Some c.args.group) c.in_ok-insert.ensures.updates.0 q
