use Rattle.std.proofs.Common.{◌≡◌, drop}
use Rattle.bind_merge.specs.Inner.Ways.{first_high}
use Rattle.bind_merge.proofs.walk.first_high.Given as goal

abbrev pub invariant-loop-level : goal.invariant-loop-level
invariant-loop-level l = first_high l.names l.resolved l.left l.own ≡ first_high l.names l.resolved l.left (drop l.level-index l.own)
