use Rattle.std.proofs.Common.{◌∙◌}
use Rattle.bind_merge.proofs.NamedFiles.{tree-get}
use Rattle.bind_merge.proofs.names.named_in.Goals as goal

pub returns : goal.returns
returns c = c.copied.ensures ∙ (c.get.ensures.value ∙ tree-get c.args.base.now c.args.files.now.entries)
