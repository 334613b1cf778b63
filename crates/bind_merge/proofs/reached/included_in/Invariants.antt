use Rattle.std.proofs.Common.{◌≡◌, ◌++◌, drop}
use Rattle.bind_merge.specs.Inner.Spreading.{included_in}
use Rattle.bind_merge.proofs.reached.included_in.Given as goal

abbrev pub invariant-loop-level : goal.invariant-loop-level
invariant-loop-level l = l.included.items ++ included_in l.names (drop l.level-index l.own) ≡ included_in l.names l.own
