use Rattle.std.proofs.Common.{subst}
use Rattle.std.specs.List.Sorted.{IsPermutation}
use Rattle.edt_base.proofs.IndexLemmas.{phandles_indexed}
use Rattle.edt_base.proofs.index.phandles_of.Goals as goal

pub returns : goal.returns
returns c =
    phandles_indexed c.args.nodes.now c.sort_phandles.new.phandles.items (subst (λ l. IsPermutation l c.sort_phandles.new.phandles.items) c.in_ok-phandles.ensures c.sort_phandles.ensures.moved) c.sort_phandles.ensures.sorted
