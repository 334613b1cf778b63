use Rattle.std.proofs.Common.{◌++◌, codes}
use Rattle.c_macro.specs.Table.{known_of}
use Rattle.c_tokens.specs.Shown.{shown}
use Rattle.edt_run.proofs.ExpandPuts.{line_fails, nothing_more}
use Rattle.edt_run.proofs.expanding.put_next.Goals as goal

pub returns-in-Ok-Text-clause-halted : goal.returns-in-Ok-Text-clause-halted
returns-in-Ok-Text-clause-halted g c =
    let next = rw c.in-Ok-Text.field-0-is at c.in-Ok-Text.ensures.next in
    line_fails (known_of c.args.defs.now) (known_of c.next_output.new.defs) c.args.lines.now c.next_output.new.lines (g.S.Sink.seen c.args.out.now) (g.S.Sink.seen c.put_line.new.out)
    c.args.block.now c.put_line.new.block next.0 (shown c.in-Ok-Text.toks.items ++ codes "\n") next.1 next.2 (rw c.as_slice.ensures.value at c.in-Err.ensures)

pub returns-clause-halted : goal.returns-clause-halted
returns-clause-halted g c = nothing_more (known_of c.args.defs.now) c.args.lines.now (g.S.Sink.seen c.args.out.now) c.args.block.now
