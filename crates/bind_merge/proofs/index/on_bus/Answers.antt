use Rattle.std.proofs.Common.{◌∙◌}
use Rattle.bind_merge.proofs.NamedFiles.{tree-get}
use Rattle.bind_merge.proofs.index.on_bus.Goals as goal

pub returns : goal.returns
returns c = c.copied.ensures ∙ (c.get.ensures.value ∙ tree-get c.args.bus.now c.args.on_buses.now.entries)
