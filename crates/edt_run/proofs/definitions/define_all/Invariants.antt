use Rattle.std.proofs.Common.{Result}
use Rattle.c_macro.specs.Directive.{Known}
use Rattle.c_macro.specs.Table.{known_of}
use Rattle.edt_run.specs.ExpandAnswer.{Breach, DefinedFrom, from_start}
use Rattle.edt_run.proofs.ExpandLaws.{lines_left}
use Rattle.edt_run.proofs.definitions.define_all.Given as goal

abbrev pub invariant-loop-rule : goal.invariant-loop-rule
invariant-loop-rule l =
    (r : Result Known Breach) → DefinedFrom (known_of l.defs) l.lines r → DefinedFrom (known_of l.initial.defs) (from_start l.source) r

abbrev pub decreases-loop-rule : goal.decreases-loop-rule
decreases-loop-rule l = lines_left l.lines
