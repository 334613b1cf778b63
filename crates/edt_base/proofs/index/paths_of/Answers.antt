use Rattle.std.proofs.Common.{subst}
use Rattle.std.specs.List.Sorted.{IsPermutation}
use Rattle.edt_base.proofs.IndexLemmas.{paths_indexed}
use Rattle.edt_base.proofs.index.paths_of.Goals as goal

pub returns : goal.returns
returns c =
    paths_indexed c.args.nodes.now c.sort_paths.new.paths.items (subst (λ l. IsPermutation l c.sort_paths.new.paths.items) c.in_ok-paths.ensures c.sort_paths.ensures.moved) c.sort_paths.ensures.sorted
