use Rattle.dt_names.proofs.Lengths.{count_more, counted}
use Rattle.dt_names.proofs.length.behind_len.Goals as goal

pub loop-word-preserved : goal.loop-word-preserved
loop-word-preserved c =
    count_more _ _ _ _ _ _ _ c.in-Some.ensures c.word_len.ensures c.saturating_add-len.ensures c.loop-word.invariant.1

pub returns : goal.returns
returns c = counted _ _ _ c.in_default.ensures.0 c.loop-word.invariant.0 c.loop-word.invariant.1
