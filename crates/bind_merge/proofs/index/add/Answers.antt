use Rattle.bind_merge.proofs.Indexed.{pair_added}
use Rattle.bind_merge.proofs.index.add.Goals as goal

pub returns : goal.returns
returns c =
    pair_added c.args.groups.now.entries c.take_group-group.new.groups.entries c.put_group.new.groups.entries c.args.compat c.args.bus c.args.file
    c.take_group-group.result c.in_ok-group.group c.in_ok-put_group.ensures c.in_ok-group.ensures c.take_group-group.ensures.group c.take_group-group.ensures.others
