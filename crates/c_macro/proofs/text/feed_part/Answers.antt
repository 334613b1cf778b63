use Rattle.c_macro.proofs.text.feed_part.Goals as goal

pub feed_side-requires-clause-toks : goal.feed_side-requires-clause-toks
feed_side-requires-clause-toks c = c.written_of-in-Written.ensures.known c.args.sets.now c.requires.args

pub feed_spaced-requires-clause-toks : goal.feed_spaced-requires-clause-toks
feed_spaced-requires-clause-toks c = c.full_of.ensures.known c.args.sets.now c.requires.args

pub returns-in_ok-fine-in-Text-clause-fed : goal.returns-in_ok-fine-in-Text-clause-fed
returns-in_ok-fine-in-Text-clause-fed c =
    let f = c.in_ok-fine-in-Text.ensures.fed c.args.sets.now in
    rw c.in-Text.is (rw (c.written_of.ensures.is c.args.sets.now) at f)
