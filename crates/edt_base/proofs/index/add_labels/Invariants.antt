use Rattle.std.proofs.Common.{◌≡◌, ◌++◌}
use Rattle.edt_base.specs.Inner.IndexData.{label_places}
use Rattle.edt_base.proofs.index.add_labels.Given as goal

abbrev pub invariant-loop-label : goal.invariant-loop-label
invariant-loop-label l = l.labels.items ≡ l.initial.labels.items ++ label_places l.node l.label
