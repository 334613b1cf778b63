use Rattle.std.proofs.Common.{codes, ◌+◌, ◌++◌, ◌∙◌, ap}
use Rattle.dts_print.specs.Printed.{prop_text, tabs, value_text}
use Rattle.edt_base.proofs.Puts.{put_as, put_then, put_stops, not_done, failed}
use Rattle.dts_print.proofs.node.put_prop.Goals as goal

pub returns-in_err-put_tabs : goal.returns-in_err-put_tabs
unfolding prop_text
returns-in_err-put_tabs g c =
    not_done _ _ _ _ _ _ (failed c.from_residual.result c.from_residual.ensures.0)
    (put_stops (g.S.Sink.seen c.args.out.now) (g.S.Sink.seen c.put_tabs.new.out) _ _ _ (tabs (c.args.depth + 1)) (c.args.name.now ++ (value_text c.args.value.now ++ (codes ";\n"))) c.in_err-put_tabs.ensures)

pub returns-in_err-put : goal.returns-in_err-put
unfolding prop_text
returns-in_err-put g c =
    not_done _ _ _ _ _ _ (failed c.from_residual-in_err-put.result c.from_residual-in_err-put.ensures.0)
    (put_then (g.S.Sink.seen c.args.out.now) (g.S.Sink.seen c.put_tabs.new.out) _ _ _ _ (tabs (c.args.depth + 1)) _ _ c.in_ok-put_tabs.ensures
    (put_stops _ (g.S.Sink.seen c.put.new.out) _ _ _ (c.args.name.now) (value_text c.args.value.now ++ (codes ";\n")) (put_as _ _ _ _ _ _ _ (c.as_bytes.ensures.value ∙ c.as_str.ensures) c.in_err-put.ensures)))

pub returns-in_err-put_value : goal.returns-in_err-put_value
unfolding prop_text
returns-in_err-put_value g c =
    not_done _ _ _ _ _ _ (failed c.from_residual-in_err-put_value.result c.from_residual-in_err-put_value.ensures.0)
    (put_then (g.S.Sink.seen c.args.out.now) (g.S.Sink.seen c.put_tabs.new.out) _ _ _ _ (tabs (c.args.depth + 1)) _ _ c.in_ok-put_tabs.ensures
    (put_then _ (g.S.Sink.seen c.put.new.out) _ _ _ _ (c.args.name.now) _ _ (put_as _ _ _ _ _ _ _ (c.as_bytes.ensures.value ∙ c.as_str.ensures) c.in_ok-put.ensures)
    (put_stops _ (g.S.Sink.seen c.put_value.new.out) _ _ _ (value_text c.args.value.now) (codes ";\n") (put_as _ _ _ _ _ _ _ (ap value_text (c.as_slice.ensures.value ∙ c.value.view_is)) c.in_err-put_value.ensures))))

pub returns : goal.returns
unfolding prop_text
returns g c =
    put_then (g.S.Sink.seen c.args.out.now) (g.S.Sink.seen c.put_tabs.new.out) _ _ _ _ (tabs (c.args.depth + 1)) _ _ c.in_ok-put_tabs.ensures
    (put_then _ (g.S.Sink.seen c.put.new.out) _ _ _ _ (c.args.name.now) _ _ (put_as _ _ _ _ _ _ _ (c.as_bytes.ensures.value ∙ c.as_str.ensures) c.in_ok-put.ensures)
    (put_then _ (g.S.Sink.seen c.put_value.new.out) _ _ _ _ (value_text c.args.value.now) _ _ (put_as _ _ _ _ _ _ _ (ap value_text (c.as_slice.ensures.value ∙ c.value.view_is)) c.in_ok-put_value.ensures)
    c.put-2.ensures))
