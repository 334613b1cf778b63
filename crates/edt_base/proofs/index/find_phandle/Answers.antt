use Rattle.std.proofs.Common.{ℕ, Some, rules, subst}
use Rattle.std.specs.Ordering.{nat_cmp}
use Rattle.std.specs.Cmp.{nat_cmp_total}
use Rattle.std.proofs.lemmas.List.Sorted.{searchable_from_sorted}
use Rattle.std.proofs.lemmas.Fn.{always_returns_same}
use Rattle.edt_base.specs.NodeData.{has_phandle}
use Rattle.edt_base.specs.declared.index.PhandlePlace.{PhandlePlace}
use Rattle.edt_base.specs.Inner.IndexData.{IsFound}
use Rattle.edt_base.proofs.IndexLemmas.{index_found, index_absent, numbers_equal}
use Rattle.edt_base.proofs.index.find_phandle.Goals as goal

pub returns-in-Ok : goal.returns-in-Ok
returns-in-Ok c =
    let key : PhandlePlace → ℕ = λ e. e.phandle in
    let found = c.in-Ok.ensures.position key (always_returns_same _ _ _ (λ a r f' k. (search rules, search rules))) in
    subst (λ (e : PhandlePlace). IsFound (has_phandle c.args.number) c.args.nodes.now (Some e.node)) c.index-phandles-at.is
    (index_found nat_cmp key (λ e. e.node) has_phandle numbers_equal c.args.nodes.now c.args.phandles.now c.args.number c.requires
    c.in-Ok.at c.index-phandles-at.result c.in-Ok.ensures.bound c.index-phandles-at.is found)

pub returns-in-Err : goal.returns-in-Err
returns-in-Err c =
    let key : PhandlePlace → ℕ = λ e. e.phandle in
    let sorted = searchable_from_sorted nat_cmp_total key c.args.phandles.now c.args.number c.requires.sorted in
    let found = c.in-Err.ensures.position key (always_returns_same _ _ _ (λ a r f' k. (search rules, search rules))) sorted in
    index_absent nat_cmp key (λ e. e.node) has_phandle nat_cmp_total c.args.nodes.now c.args.phandles.now c.args.number c.requires c.in-Err.field-0 found
