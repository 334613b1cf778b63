use Rattle.std.proofs.Common.{codes, ◌++◌, ◌∙◌, ap}
use Rattle.std.specs.List.{flat_map}
use Rattle.edt_base.specs.NodeData.{NodeData}
use Rattle.dts_print.specs.Printed.{label_text, opening_text, tabs}
use Rattle.edt_base.proofs.Puts.{put_as, put_then, put_stops, not_done, failed}
use Rattle.dts_print.proofs.node.put_opening.Goals as goal

pub returns-in_err-put_tabs : goal.returns-in_err-put_tabs
unfolding opening_text
returns-in_err-put_tabs g c =
    not_done _ _ _ _ _ _ (failed c.from_residual.result c.from_residual.ensures.0)
    (put_stops (g.S.Sink.seen c.args.out.now) (g.S.Sink.seen c.put_tabs.new.out) _ _ _ (tabs c.args.depth) (flat_map label_text c.args.node.now.labels ++ (c.args.node.now.name ++ (codes " {\n"))) c.in_err-put_tabs.ensures)

pub returns-in_err-put_labels : goal.returns-in_err-put_labels
unfolding opening_text
returns-in_err-put_labels g c =
    not_done _ _ _ _ _ _ (failed c.from_residual-in_err-put_labels.result c.from_residual-in_err-put_labels.ensures.0)
    (put_then (g.S.Sink.seen c.args.out.now) (g.S.Sink.seen c.put_tabs.new.out) _ _ _ _ (tabs c.args.depth) _ _ c.in_ok-put_tabs.ensures
    (put_stops _ (g.S.Sink.seen c.put_labels.new.out) _ _ _ (flat_map label_text c.args.node.now.labels) (c.args.node.now.name ++ (codes " {\n")) (put_as _ _ _ _ _ _ _ (ap (flat_map label_text) (c.as_slice.ensures.value ∙ ap (λ (n : NodeData). n.labels) c.node.view_is)) c.in_err-put_labels.ensures)))

pub returns-in_err-put : goal.returns-in_err-put
unfolding opening_text
returns-in_err-put g c =
    not_done _ _ _ _ _ _ (failed c.from_residual-in_err-put.result c.from_residual-in_err-put.ensures.0)
    (put_then (g.S.Sink.seen c.args.out.now) (g.S.Sink.seen c.put_tabs.new.out) _ _ _ _ (tabs c.args.depth) _ _ c.in_ok-put_tabs.ensures
    (put_then _ (g.S.Sink.seen c.put_labels.new.out) _ _ _ _ (flat_map label_text c.args.node.now.labels) _ _ (put_as _ _ _ _ _ _ _ (ap (flat_map label_text) (c.as_slice.ensures.value ∙ ap (λ (n : NodeData). n.labels) c.node.view_is)) c.in_ok-put_labels.ensures)
    (put_stops _ (g.S.Sink.seen c.put.new.out) _ _ _ (c.args.node.now.name) (codes " {\n") (put_as _ _ _ _ _ _ _ (c.as_bytes.ensures.value ∙ (c.as_str.ensures ∙ ap (λ (n : NodeData). n.name) c.node.view_is)) c.in_err-put.ensures))))

pub returns : goal.returns
unfolding opening_text
returns g c =
    put_then (g.S.Sink.seen c.args.out.now) (g.S.Sink.seen c.put_tabs.new.out) _ _ _ _ (tabs c.args.depth) _ _ c.in_ok-put_tabs.ensures
    (put_then _ (g.S.Sink.seen c.put_labels.new.out) _ _ _ _ (flat_map label_text c.args.node.now.labels) _ _ (put_as _ _ _ _ _ _ _ (ap (flat_map label_text) (c.as_slice.ensures.value ∙ ap (λ (n : NodeData). n.labels) c.node.view_is)) c.in_ok-put_labels.ensures)
    (put_then _ (g.S.Sink.seen c.put.new.out) _ _ _ _ (c.args.node.now.name) _ _ (put_as _ _ _ _ _ _ _ (c.as_bytes.ensures.value ∙ (c.as_str.ensures ∙ ap (λ (n : NodeData). n.name) c.node.view_is)) c.in_ok-put.ensures)
    c.put-2.ensures))
