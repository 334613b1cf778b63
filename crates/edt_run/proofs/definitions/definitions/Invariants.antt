use Rattle.c_macro.specs.Table.{known_of}
use Rattle.edt_run.specs.ExpandSteps.{AnswersFrom}
use Rattle.edt_run.proofs.definitions.definitions.Given as goal

abbrev pub invariant-loop-i : goal.invariant-loop-i
invariant-loop-i l = AnswersFrom l.i (known_of l.defs) l.names l.sources
