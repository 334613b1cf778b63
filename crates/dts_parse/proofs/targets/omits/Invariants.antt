use Rattle.std.proofs.Common.{◌≡◌, ◌++◌, drop}
use Rattle.dts_parse.specs.Statements.{omits}
use Rattle.dts_parse.proofs.targets.omits.Given as goal

abbrev pub invariant-loop-at : goal.invariant-loop-at
invariant-loop-at l = l.stmts.items ++ omits (drop l.at-index l.marks) l.name ≡ omits l.marks l.name
