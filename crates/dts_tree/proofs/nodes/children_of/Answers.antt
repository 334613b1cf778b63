use Rattle.std.proofs.Common.{◌≡◌, ◌∙◌, ap, length, arith, rules}
use Rattle.std.proofs.lemmas.Grind.{common_steps}
use Rattle.dts_tree.specs.Inner.Nodes.{with_child}
use Rattle.dts_tree.proofs.KidLaws.{none_yet, child_more}
use Rattle.dts_tree.proofs.nodes.children_of.Goals as goal

pub loop-place-init : goal.loop-place-init
loop-place-init c = grind (arith, common_steps, none_yet (length c.args.drafts.now))

pub loop-place-preserved : goal.loop-place-preserved
loop-place-preserved c =
    let d = c.index-drafts-place.result in
    let e : c.draft.inside.parent ≡ d.parent = first_of (search rules, cc) in
    let m = child_more c.args.drafts.now c.loop-place.place d (length c.args.drafts.now) c.loop-place-test.true c.index-drafts-place.is in
    c.in_ok-put.ensures
    ∙ (ap (λ o. with_child c.loop-place.lists.items o c.loop-place.place) e
    ∙ (ap (λ ls. with_child ls d.parent c.loop-place.place) c.loop-place.invariant ∙ m))
