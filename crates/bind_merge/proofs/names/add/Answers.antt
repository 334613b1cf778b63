use Rattle.std.proofs.Common.{◌∙◌, ap, Some, if◌then◌else◌}
use Rattle.std.specs.Str.{bytes_eq}
use Rattle.bind_merge.specs.Inner.Resolving.{named_in}
use Rattle.bind_merge.specs.declared.names.Named.{Named}
use Rattle.bind_merge.proofs.NamedFiles.{tree-sets}
use Rattle.bind_merge.specs.Inner.Naming.{one_more}
use Rattle.bind_merge.proofs.names.add.Goals as goal

pub returns : goal.returns
returns c = λ q.
    tree-sets c.args.files.now.entries c.insert.new.self.entries c.args.base (Some c.one_more-named.result) c.in_ok-insert.ensures.updates.0 q
    ∙ ap (λ (n : Named). if bytes_eq c.args.base q then Some n else named_in c.args.files.now.entries q)
    (c.one_more-named.ensures ∙ ap (λ o. one_more o c.args.file) c.named_in.ensures)
