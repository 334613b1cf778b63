use Rattle.c_macro.specs.Table.{known_of}
use Rattle.edt_run.specs.ExpandAnswer.{from_start}
use Rattle.edt_run.proofs.ExpandLaws.{lines_left}
use Rattle.edt_run.proofs.ExpandPuts.{SoFar}
use Rattle.edt_run.proofs.expanding.put_lines.Given as goal

abbrev pub invariant-loop-halt : goal.invariant-loop-halt
invariant-loop-halt g l =
    SoFar (known_of l.initial.defs) (from_start l.text) (g.S.Sink.seen l.initial.out) (g.S.Sink.seen l.out) l.initial.block l.block
    (known_of l.defs) l.lines

abbrev pub decreases-loop-halt : goal.decreases-loop-halt
decreases-loop-halt g l = lines_left l.lines
