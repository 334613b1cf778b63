use Rattle.c_macro.specs.Table.{defs_of}
use Rattle.c_macro.specs.Worklist.{Running, turn_weight, turn_of}
use Rattle.c_macro.proofs.expansion.expand.Given as goal

abbrev pub invariant-loop-call : goal.invariant-loop-call
invariant-loop-call l = Running (defs_of l.d) l.toks.items l.machine l.call

abbrev pub decreases-loop-call : goal.decreases-loop-call
decreases-loop-call l = turn_weight l.machine (turn_of l.call)
