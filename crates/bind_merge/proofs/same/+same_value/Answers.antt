use Rattle.std.proofs.Common.{rules, ◌≡◌, ◌∙◌, sym, map, [], drop, arith}
use Rattle.std.proofs.lemmas.List.{drop_all}
use Rattle.edt_base.specs.YamlData.{value_of, a_map, pair_of, pairs_from}
use Rattle.edt_base.specs.declared.yaml.Yaml.{the_lemmas}
use Rattle.bind_merge.proofs.Agreeing.{same_map, empty_pairs, empty_items}
use Rattle.bind_merge.proofs.same.+same_value.Goals as goal

pub loop-key-init : goal.loop-key-init
loop-key-init t c =
    let is : value_of c.args.a.now ≡ a_map (pairs_from (map pair_of c.deref-key-items.result.now)) = search (rules, the_lemmas) in
    rw is (sym (same_map _ _ (value_of c.args.b.now) (sym c.in-Some.ensures)))

pub returns-in-Some : goal.returns-in-Some
returns-in-Some t c =
    let d : drop c.loop-key.key-index c.deref-key-items.result.now ≡ [] = drop_all c.loop-key.key-index c.deref-key-items.result.now (omega arith) in
    c.is_empty.ensures ∙ sym (empty_pairs c.loop-key.left.now) ∙ (rw d at c.loop-key.invariant)

pub returns-in-Some-items_of : goal.returns-in-Some-items_of
returns-in-Some-items_of t c =
    let d : drop c.loop-value.value-index c.deref-value-items.result.now ≡ [] = drop_all c.loop-value.value-index c.deref-value-items.result.now (omega arith) in
    c.is_empty-in-List.ensures ∙ sym (empty_items c.loop-value.left.now) ∙ (rw d at c.loop-value.invariant)
