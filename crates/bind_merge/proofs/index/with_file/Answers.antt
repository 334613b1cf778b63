use Rattle.bind_merge.proofs.Indexed.{group_alone, group_on}
use Rattle.bind_merge.proofs.index.with_file.Goals as goal

pub returns-in_ok-set_bus-in-Some : goal.returns-in_ok-set_bus-in-Some
returns-in_ok-set_bus-in-Some c =
    group_on c.args.group.alone c.args.group.on_buses c.set_bus.new.on_buses c.args.bus c.in-Some.bus c.args.file c.in-Some.is c.in_ok-set_bus-in-Some.ensures

pub returns-in-None : goal.returns-in-None
returns-in-None c = group_alone c.args.group.alone c.args.group.on_buses c.args.bus c.args.file c.in-None.is
