use Rattle.c_macro.proofs.SetLaws.{grown_trans}
use Rattle.c_macro.proofs.FeedLaws.{feeding_goes}
use Rattle.c_macro.proofs.text.feed_all.Goals as goal

pub loop-tok-preserved : goal.loop-tok-preserved
loop-tok-preserved c =
    feeding_goes c.args.sets.now c.loop-tok.sets c.feed.new.sets c.args.joiner.now c.loop-tok.joiner c.feed.new.self _ c.loop-tok.left.now c.in-Some.rest.now c.in-Some.tok.now c.in_ok-copy.copy
    c.loop-tok.invariant c.in-Some.ensures.cases.0 c.in_ok-copy.ensures c.in_ok-feed.ensures.grown
    (rw c.if-not-branch.false at c.in_ok-feed.ensures.fed)

pub returns-in_err-feed-clause-grown : goal.returns-in_err-feed-clause-grown
returns-in_err-feed-clause-grown c = grown_trans c.args.sets.now c.loop-tok.sets c.feed.new.sets c.loop-tok.invariant.grown c.in_err-feed.ensures.grown

pub returns-then-not-branch-clause-grown : goal.returns-then-not-branch-clause-grown
returns-then-not-branch-clause-grown c = grown_trans c.args.sets.now c.loop-tok.sets c.feed.new.sets c.loop-tok.invariant.grown c.in_ok-feed.ensures.grown
