use Rattle.std.proofs.Common.{◌≡◌, ◌∙◌, sym, false, rules, add-one}
use Rattle.dts_tree.specs.Rules.{is_mistyped}
use Rattle.dts_tree.proofs.Settling.{mistyped_next}
use Rattle.dts_tree.proofs.finish.first_mistyped.Goals as goal

pub loop-place-preserved : goal.loop-place-preserved
loop-place-preserved c =
    let p = c.index-all-place.result in
    let h : is_mistyped p ≡ false = search rules in
    let n = mistyped_next c.args.drafts.now c.args.all.now c.loop-place.place p c.requires c.loop-place-test.true c.index-all-place.is h in
    rw add-one (sym n ∙ c.loop-place.invariant)
