use Rattle.std.proofs.Common.{ℕ, rules}
use Rattle.std.specs.declared.cmp.Ordering.{Ordering}
use Rattle.std.specs.Ordering.{nat_cmp}
use Rattle.std.specs.Cmp.Lexicographic.{nat_list_cmp_total, slice_cmp}
use Rattle.std.proofs.lemmas.List.Sorted.{searchable_from_sorted}
use Rattle.std.proofs.lemmas.Fn.{always_returns_same}
use Rattle.edt_base.specs.NodeData.{has_path}
use Rattle.edt_base.specs.Nodes.{path_at}
use Rattle.edt_base.proofs.IndexLemmas.{index_found, index_absent, texts_equal}
use Rattle.edt_base.proofs.index.find_path.Goals as goal

pub returns-in-Ok : goal.returns-in-Ok
returns-in-Ok c =
    let key = path_at c.args.nodes.now in
    let order : ℕ → Ordering = λ e. slice_cmp nat_cmp (key e) c.args.path.now in
    let found = c.in-Ok.ensures.position order (always_returns_same _ _ _ (λ a r f' k. (search rules, search rules))) in
    index_found (slice_cmp nat_cmp) key (λ e. e) has_path texts_equal c.args.nodes.now c.args.paths.now c.args.path.now c.requires
    c.in-Ok.at c.index-paths-at.result c.in-Ok.ensures.bound c.index-paths-at.is found

pub returns-in-Err : goal.returns-in-Err
returns-in-Err c =
    let key = path_at c.args.nodes.now in
    let order : ℕ → Ordering = λ e. slice_cmp nat_cmp (key e) c.args.path.now in
    let sorted = searchable_from_sorted nat_list_cmp_total key c.args.paths.now c.args.path.now c.requires.sorted in
    let found = c.in-Err.ensures.position order (always_returns_same _ _ _ (λ a r f' k. (search rules, search rules))) sorted in
    index_absent (slice_cmp nat_cmp) key (λ e. e) has_path nat_list_cmp_total c.args.nodes.now c.args.paths.now c.args.path.now c.requires c.in-Err.field-0 found
