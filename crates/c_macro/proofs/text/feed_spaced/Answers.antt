use Rattle.c_macro.proofs.PendLaws.{known_grow}
use Rattle.c_macro.proofs.SetLaws.{grown_trans}
use Rattle.c_macro.proofs.FeedLaws.{rest_known, fed_spaced}
use Rattle.c_macro.proofs.text.feed_spaced.Goals as goal

pub feed_all-requires-clause-toks : goal.feed_all-requires-clause-toks
feed_all-requires-clause-toks c =
    c.behind_first.ensures.known c.feed.new.sets (known_grow c.args.sets.now c.feed.new.sets c.in-Some.rest.now c.in_ok-feed.ensures.grown (rest_known c.args.sets.now c.args.toks.now c.in-Some.rest.now c.in-Some.first.now c.in-Some.ensures.cases.0 c.requires.toks))

pub returns-clause-fed : goal.returns-clause-fed
returns-clause-fed c =
    fed_spaced c.args.sets.now c.feed.new.sets c.feed_all.new.sets c.args.joiner.now c.feed.new.self c.feed_all.new.joiner c.args.toks.now c.in-Some.rest.now c.behind_first.result.now c.in-Some.first.now c.respaced-first.result c.args.ends_only c.args.spaced c.in_ok-fine.fine
    c.in-Some.ensures.cases.0 (rw c.in_ok-copy_pend.ensures at c.respaced-first.ensures) c.requires.toks c.in_ok-feed.ensures.grown (c.behind_first.ensures.is c.feed.new.sets)
    (rw c.if-not-branch.false at c.in_ok-feed.ensures.fed) c.in_ok-fine.ensures.fed

pub returns-in_err-fine-clause-grown : goal.returns-in_err-fine-clause-grown
returns-in_err-fine-clause-grown c = grown_trans c.args.sets.now c.feed.new.sets c.feed_all.new.sets c.in_ok-feed.ensures.grown c.in_err-fine.ensures.grown

pub returns-clause-grown : goal.returns-clause-grown
returns-clause-grown c = grown_trans c.args.sets.now c.feed.new.sets c.feed_all.new.sets c.in_ok-feed.ensures.grown c.in_ok-fine.ensures.grown
