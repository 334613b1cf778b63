use Rattle.std.proofs.Common.{Some}
use Rattle.bind_merge.proofs.NamedFiles.{tree-sets}
use Rattle.bind_merge.proofs.index.set_bus.Goals as goal

pub returns : goal.returns
returns c = λ q.
    tree-sets c.args.on_buses.now.entries c.insert.new.self.entries c.args.bus (Some c.args.file) c.in_ok-insert.ensures.updates.0 q
