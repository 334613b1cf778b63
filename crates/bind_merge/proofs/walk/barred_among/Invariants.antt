use Rattle.std.proofs.Common.{◌≡◌, drop}
use Rattle.bind_merge.specs.Inner.Ways.{barred_among}
use Rattle.bind_merge.proofs.walk.barred_among.Given as goal

abbrev pub invariant-loop-level : goal.invariant-loop-level
invariant-loop-level l = barred_among l.names l.deep l.path l.own ≡ barred_among l.names l.deep l.path (drop l.level-index l.own)
