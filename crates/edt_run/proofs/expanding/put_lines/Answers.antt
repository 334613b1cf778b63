use Rattle.c_macro.specs.Table.{known_of}
use Rattle.edt_run.specs.ExpandAnswer.{from_start}
use Rattle.edt_run.proofs.ExpandLaws.{left_less}
use Rattle.edt_run.proofs.ExpandPuts.{so_far_halts, so_far_more}
use Rattle.edt_run.proofs.expanding.put_lines.Goals as goal

pub loop-halt-smaller : goal.loop-halt-smaller
loop-halt-smaller g c = left_less c.loop-halt.lines c.put_next.new.lines c.in-Ok.ensures.one.0 c.in-Ok.ensures.one.2

pub loop-halt-preserved : goal.loop-halt-preserved
loop-halt-preserved g c =
    so_far_more (known_of c.args.defs.now) (known_of c.loop-halt.defs) (known_of c.put_next.new.defs) (from_start c.args.text.now) c.loop-halt.lines c.put_next.new.lines
    (g.S.Sink.seen c.args.out.now) (g.S.Sink.seen c.loop-halt.out) (g.S.Sink.seen c.put_next.new.out) c.args.block.now c.loop-halt.block c.put_next.new.block
    c.loop-halt.invariant c.in-Ok.ensures.one

pub returns-in-Err : goal.returns-in-Err
returns-in-Err g c =
    so_far_halts (known_of c.args.defs.now) (known_of c.loop-halt.defs) (from_start c.args.text.now) c.loop-halt.lines
    (g.S.Sink.seen c.args.out.now) (g.S.Sink.seen c.loop-halt.out) (g.S.Sink.seen c.put_next.new.out) c.args.block.now c.loop-halt.block c.put_next.new.block
    c.in-Err.halt c.loop-halt.invariant c.in-Err.ensures.halted
