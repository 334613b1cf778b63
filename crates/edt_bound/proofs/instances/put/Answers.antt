use Rattle.std.proofs.Common.{Some}
use Rattle.bind_merge.proofs.NamedFiles.{tree-sets}
use Rattle.edt_bound.proofs.instances.put.Goals as goal

pub returns : goal.returns
returns c = λ q.
    tree-sets c.args.listing.now.entries c.insert.new.self.entries c.args.compat (Some c.args.ids) c.in_ok-insert.ensures.updates.0 q
