use Rattle.std.proofs.Common.{◌≡◌, drop}
use Rattle.bind_merge.specs.Inner.Ways.{several_among}
use Rattle.bind_merge.proofs.walk.several_among.Given as goal

abbrev pub invariant-loop-level : goal.invariant-loop-level
invariant-loop-level l = several_among l.names l.own ≡ several_among l.names (drop l.level-index l.own)
