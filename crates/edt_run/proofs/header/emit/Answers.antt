use Rattle.std.proofs.Common.{[]}
use Rattle.edt_run.proofs.Headers.{siblings_are, all_written, last_fails, none_written}
use Rattle.edt_base.proofs.Puts.{put_then, put_stops, failed}
use Rattle.edt_run.proofs.header.emit.Goals as goal

pub returns-in_err-put_root_lines : goal.returns-in_err-put_root_lines
returns-in_err-put_root_lines g c =
    rw (siblings_are c.args.nodes.now)
    (none_written (g.S.Sink.seen c.args.out.now) (g.S.Sink.seen c.put_root_lines.new.out) _ _ _ _ c.new-block.ensures
    (failed c.from_residual.result c.from_residual.ensures.0) (put_stops _ _ _ _ [] _ _ c.in_err-put_root_lines.ensures))

pub returns-in_err-put_below : goal.returns-in_err-put_below
returns-in_err-put_below g c =
    rw (siblings_are c.args.nodes.now)
    (none_written (g.S.Sink.seen c.args.out.now) (g.S.Sink.seen c.put_below.new.out) _ _ _ _ c.new-block.ensures
    (failed c.from_residual-in_err-put_below.result c.from_residual-in_err-put_below.ensures.0)
    (put_then _ (g.S.Sink.seen c.put_root_lines.new.out) _ _ _ _ _ _ _ c.in_ok-put_root_lines.ensures c.in_err-put_below.ensures))

pub returns-in_err-flush : goal.returns-in_err-flush
returns-in_err-flush g c =
    rw (siblings_are c.args.nodes.now)
    (last_fails (g.S.Sink.seen c.args.out.now) (g.S.Sink.seen c.put_root_lines.new.out) (g.S.Sink.seen c.put_below.new.out) (g.S.Sink.seen c.flush.new.out)
    _ _ _ [] _ _ _ (failed c.from_residual-in_err-flush.result c.from_residual-in_err-flush.ensures.0)
    c.new-block.ensures c.in_ok-put_root_lines.ensures c.in_ok-put_below.ensures c.in_err-flush.ensures.wrote)

pub returns : goal.returns
returns g c =
    rw (siblings_are c.args.nodes.now)
    (all_written (g.S.Sink.seen c.args.out.now) (g.S.Sink.seen c.put_root_lines.new.out) (g.S.Sink.seen c.put_below.new.out) (g.S.Sink.seen c.flush.new.out)
    _ _ _ _ _ _ _ c.new-block.ensures c.in_ok-put_root_lines.ensures c.in_ok-put_below.ensures c.in_ok-flush.ensures.wrote (λ _. c.in_ok-flush.ensures.emptied))
