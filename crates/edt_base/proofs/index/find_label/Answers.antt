use Rattle.std.proofs.Common.{Some, rules, subst}
use Rattle.std.specs.declared.cmp.Ordering.{Ordering}
use Rattle.std.specs.Ordering.{nat_cmp}
use Rattle.std.specs.Cmp.Lexicographic.{nat_list_cmp_total, slice_cmp}
use Rattle.std.proofs.lemmas.List.Sorted.{searchable_from_sorted}
use Rattle.std.proofs.lemmas.Fn.{always_returns_same}
use Rattle.edt_base.specs.declared.index.LabelPlace.{LabelPlace}
use Rattle.edt_base.specs.NodeData.{has_label}
use Rattle.edt_base.specs.Inner.IndexData.{label_at, IsFound}
use Rattle.edt_base.proofs.IndexLemmas.{index_found, index_absent, texts_equal}
use Rattle.edt_base.proofs.index.find_label.Goals as goal

pub returns-in-Ok : goal.returns-in-Ok
returns-in-Ok c =
    let key = label_at c.args.nodes.now in
    let order : LabelPlace → Ordering = λ e. slice_cmp nat_cmp (key e) c.args.label.now in
    let found = c.in-Ok.ensures.position order (always_returns_same _ _ _ (λ a r f' k. (search rules, search rules))) in
    subst (λ (e : LabelPlace). IsFound (has_label c.args.label.now) c.args.nodes.now (Some e.node)) c.index-labels-at.is
    (index_found (slice_cmp nat_cmp) key (λ e. e.node) has_label texts_equal c.args.nodes.now c.args.labels.now c.args.label.now c.requires
    c.in-Ok.at c.index-labels-at.result c.in-Ok.ensures.bound c.index-labels-at.is found)

pub returns-in-Err : goal.returns-in-Err
returns-in-Err c =
    let key = label_at c.args.nodes.now in
    let order : LabelPlace → Ordering = λ e. slice_cmp nat_cmp (key e) c.args.label.now in
    let sorted = searchable_from_sorted nat_list_cmp_total key c.args.labels.now c.args.label.now c.requires.sorted in
    let found = c.in-Err.ensures.position order (always_returns_same _ _ _ (λ a r f' k. (search rules, search rules))) sorted in
    index_absent (slice_cmp nat_cmp) key (λ e. e.node) has_label nat_list_cmp_total c.args.nodes.now c.args.labels.now c.args.label.now c.requires c.in-Err.field-0 found
