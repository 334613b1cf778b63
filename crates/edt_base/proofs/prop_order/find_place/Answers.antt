use Rattle.std.proofs.Common.{ℕ, rules, sym}
use Rattle.std.proofs.lemmas.Option.{get_or_from_slice_get}
use Rattle.std.specs.declared.cmp.Ordering.{Ordering}
use Rattle.std.specs.Ordering.{nat_cmp}
use Rattle.std.specs.Cmp.Lexicographic.{nat_list_cmp_total, slice_cmp}
use Rattle.std.proofs.lemmas.List.Sorted.{searchable_from_sorted}
use Rattle.std.proofs.lemmas.Fn.{always_returns_same}
use Rattle.edt_base.specs.Inner.PropOrder.{name_at}
use Rattle.edt_base.proofs.PropOrderLemmas.{place_found, place_absent}
use Rattle.edt_base.proofs.prop_order.find_place.Goals as goal

pub returns-in-Ok : goal.returns-in-Ok
returns-in-Ok c =
    let order : ℕ → Ordering = λ at. slice_cmp nat_cmp (name_at c.args.props.now.entries at) c.args.name.now in
    let found = c.in-Ok.ensures.position order (always_returns_same _ _ _ (λ a r f' k. (search rules, search rules))) in
    place_found c.args.props.now.entries c.args.places.now c.args.name.now c.requires c.in-Ok.at c.place_at.result c.in-Ok.ensures.bound
    (sym (get_or_from_slice_get c.args.places.now c.in-Ok.at c.place_at.result c.place_at.result c.place_at.ensures)) found

pub returns-in-Err : goal.returns-in-Err
returns-in-Err c =
    let key = name_at c.args.props.now.entries in
    let order : ℕ → Ordering = λ at. slice_cmp nat_cmp (key at) c.args.name.now in
    let sorted = searchable_from_sorted nat_list_cmp_total key c.args.places.now c.args.name.now c.requires.sorted in
    let found = c.in-Err.ensures.position order (always_returns_same _ _ _ (λ a r f' k. (search rules, search rules))) sorted in
    place_absent c.args.props.now.entries c.args.places.now c.args.name.now c.requires c.in-Err.field-0 found
