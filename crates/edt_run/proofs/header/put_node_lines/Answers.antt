use Rattle.edt_run.specs.Header.{node_lines}
use Rattle.edt_base.proofs.Puts.{put_then, put_stops, not_done, failed}
use Rattle.edt_run.proofs.header.put_node_lines.Goals as goal

pub returns-in_err-put_name_lines : goal.returns-in_err-put_name_lines
unfolding node_lines
returns-in_err-put_name_lines g c =
    not_done _ _ _ _ _ _ (failed c.from_residual.result c.from_residual.ensures.0)
    (put_stops (g.S.Sink.seen c.args.out.now) (g.S.Sink.seen c.put_name_lines.new.out) _ _ _ _ _ c.in_err-put_name_lines.ensures)

pub returns-in_err-put_parent_lines : goal.returns-in_err-put_parent_lines
unfolding node_lines
returns-in_err-put_parent_lines g c =
    not_done _ _ _ _ _ _ (failed c.from_residual-in_err-put_parent_lines.result c.from_residual-in_err-put_parent_lines.ensures.0)
    (put_then _ (g.S.Sink.seen c.put_name_lines.new.out) _ _ _ _ _ _ _ c.in_ok-put_name_lines.ensures
    (put_stops _ (g.S.Sink.seen c.put_parent_lines.new.out) _ _ _ _ _ c.in_err-put_parent_lines.ensures))

pub returns-in_err-put_end_lines : goal.returns-in_err-put_end_lines
unfolding node_lines
returns-in_err-put_end_lines g c =
    not_done _ _ _ _ _ _ (failed c.from_residual-in_err-put_end_lines.result c.from_residual-in_err-put_end_lines.ensures.0)
    (put_then _ (g.S.Sink.seen c.put_name_lines.new.out) _ _ _ _ _ _ _ c.in_ok-put_name_lines.ensures
    (put_then _ (g.S.Sink.seen c.put_parent_lines.new.out) _ _ _ _ _ _ _ c.in_ok-put_parent_lines.ensures c.in_err-put_end_lines.ensures))

pub returns : goal.returns
unfolding node_lines
returns g c =
    put_then _ (g.S.Sink.seen c.put_name_lines.new.out) _ _ _ _ _ _ _ c.in_ok-put_name_lines.ensures
    (put_then _ (g.S.Sink.seen c.put_parent_lines.new.out) _ _ _ _ _ _ _ c.in_ok-put_parent_lines.ensures c.in_ok-put_end_lines.ensures)
