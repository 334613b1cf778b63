use Rattle.std.proofs.Common.{◌≡◌, ◌∙◌, ◌+◌, drop, ◌∷◌, ap, sym}
use Rattle.std.proofs.lemmas.List.{drop_more}
use Rattle.c_macro.proofs.SetLaws.{grown_trans}
use Rattle.c_macro.proofs.FeedLaws.{building_starts, building_goes}
use Rattle.c_macro.proofs.text.text_of.Goals as goal

pub loop-part-init : goal.loop-part-init
loop-part-init c = building_starts c.args.sets.now c.args.ends_only c.args.args.now c.new-joiner.result c.args.parts.now (c.new-joiner.ensures.known c.args.sets.now) c.requires.args (c.new-joiner.ensures.is c.args.sets.now)

pub loop-part-preserved : goal.loop-part-preserved
loop-part-preserved c =
    let e : drop c.loop-part.part-index c.args.parts.now ≡ c.part-item.result ∷ drop (c.loop-part.part-index + 1) c.args.parts.now =
    drop_more c.args.parts.now c.loop-part.part-index c.part-item.result c.loop-part-test.true ∙ ap (λ x. x ∷ drop (c.loop-part.part-index + 1) c.args.parts.now) (sym c.part-item.is) in
    building_goes c.args.sets.now c.loop-part.sets c.feed_part.new.sets c.args.ends_only c.args.args.now c.loop-part.joiner c.feed_part.new.joiner c.args.parts.now _ _ c.part-item.result c.loop-part.invariant e c.in_ok-feed_part.ensures.grown
    (rw c.if-not-branch.false at c.in_ok-feed_part.ensures.fed)

pub returns-clause-known : goal.returns-clause-known
returns-clause-known c = c.in_ok-toks.ensures.known c.loop-part.sets c.loop-part.invariant.known

pub returns-in_err-feed_part-clause-grown : goal.returns-in_err-feed_part-clause-grown
returns-in_err-feed_part-clause-grown c = grown_trans c.args.sets.now c.loop-part.sets c.feed_part.new.sets c.loop-part.invariant.grown c.in_err-feed_part.ensures.grown

pub returns-then-not-branch-clause-grown : goal.returns-then-not-branch-clause-grown
returns-then-not-branch-clause-grown c = grown_trans c.args.sets.now c.loop-part.sets c.feed_part.new.sets c.loop-part.invariant.grown c.in_ok-feed_part.ensures.grown
