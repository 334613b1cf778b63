use Rattle.bind_merge.proofs.Matched.{matched_none}
use Rattle.bind_merge.proofs.matching.matching.Goals as goal

pub loop-at-init : goal.loop-at-init
loop-at-init c =
    matched_none c.args.files.now c.args.compats.now c.new-matches.result.items c.args.reads.now.items c.new-matches.ensures.items c.requires.none c.requires.len
