use Rattle.c_macro.specs.Table.{known_of}
use Rattle.dt_api.proofs.DefineSteps.{Going, lines_left}
use Rattle.dt_api.proofs.defining.defs.Given as goal

abbrev pub invariant-loop-line : goal.invariant-loop-line
invariant-loop-line l = Going (known_of l.initial.d) (known_of l.d) l.lines

abbrev pub decreases-loop-line : goal.decreases-loop-line
decreases-loop-line l = lines_left l.lines
