use Rattle.std.proofs.Common.{take}
use Rattle.bind_merge.specs.Inner.Steps.{HasMatched}
use Rattle.bind_merge.proofs.matching.matching.Given as goal

abbrev pub invariant-loop-at : goal.invariant-loop-at
invariant-loop-at l = HasMatched l.files (take l.at l.files) l.compats l.matches.items l.reads.items
