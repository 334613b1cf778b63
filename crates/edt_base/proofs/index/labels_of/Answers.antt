use Rattle.std.proofs.Common.{subst}
use Rattle.std.specs.List.Sorted.{IsPermutation}
use Rattle.edt_base.proofs.IndexLemmas.{labels_indexed}
use Rattle.edt_base.proofs.index.labels_of.Goals as goal

pub returns : goal.returns
returns c =
    labels_indexed c.args.nodes.now c.sort_labels.new.labels.items (subst (λ l. IsPermutation l c.sort_labels.new.labels.items) c.in_ok-labels.ensures c.sort_labels.ensures.moved) c.sort_labels.ensures.sorted
