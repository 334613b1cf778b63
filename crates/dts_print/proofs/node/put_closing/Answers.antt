use Rattle.std.proofs.Common.{codes}
use Rattle.dts_print.specs.Printed.{closing_text, tabs}
use Rattle.edt_base.proofs.Puts.{put_then, put_stops, not_done, failed}
use Rattle.dts_print.proofs.node.put_closing.Goals as goal

pub returns-in_err-put_tabs : goal.returns-in_err-put_tabs
unfolding closing_text
returns-in_err-put_tabs g c =
    not_done _ _ _ _ _ _ (failed c.from_residual.result c.from_residual.ensures.0)
    (put_stops (g.S.Sink.seen c.args.out.now) (g.S.Sink.seen c.put_tabs.new.out) _ _ _ (tabs c.args.depth) (codes "};\n") c.in_err-put_tabs.ensures)

pub returns : goal.returns
unfolding closing_text
returns g c =
    put_then (g.S.Sink.seen c.args.out.now) (g.S.Sink.seen c.put_tabs.new.out) _ _ _ _ (tabs c.args.depth) _ _ c.in_ok-put_tabs.ensures
    c.put.ensures
