use Rattle.std.proofs.Common.{rules}
use Rattle.std.specs.Cmp.Lexicographic.{nat_list_cmp_total}
use Rattle.std.proofs.lemmas.List.Sorted.{ranks_by}
use Rattle.std.proofs.lemmas.Fn.{always_returns_same}
use Rattle.edt_base.specs.Inner.IndexData.{label_at}
use Rattle.edt_base.proofs.index.sort_labels.Goals as goal

pub returns-clause-sorted : goal.returns-clause-sorted
returns-clause-sorted c =
    c.sort_unstable_by.ensures.sorted _ (ranks_by nat_list_cmp_total (label_at c.args.nodes.now)) (always_returns_same _ _ _ (λ a r f' k. (search rules, search rules)))
