use Rattle.c_macro.proofs.FeedLaws.{fed_string}
use Rattle.c_macro.proofs.text.feed_string.Goals as goal

pub returns-clause-fed : goal.returns-clause-fed
returns-clause-fed c = λ s. fed_string c.args.sets.now c.feed_tok.new.sets s c.args.joiner.now c.feed_tok.new.joiner c.args.toks.now c.in_ok-tok.tok c.args.spaced c.in_ok-fine.fine c.in_ok-tok.ensures c.in_ok-fine.ensures.fed
