use Rattle.std.proofs.Common.{ap}
use Rattle.std.specs.List.{flat_map}
use Rattle.edt_base.specs.NodeData.{NodeData}
use Rattle.dts_print.specs.Printed.{opening_text, prop_text}
use Rattle.dts_print.specs.Inner.Steps.{head_text}
use Rattle.edt_base.proofs.Puts.{put_as, put_then, put_stops, not_done, failed}
use Rattle.dts_print.proofs.node.put_head.Goals as goal

pub returns-in_err-put_opening : goal.returns-in_err-put_opening
unfolding head_text
returns-in_err-put_opening g c =
    not_done _ _ _ _ _ _ (failed c.from_residual.result c.from_residual.ensures.0)
    (put_stops (g.S.Sink.seen c.args.out.now) (g.S.Sink.seen c.put_opening.new.out) _ _ _ (opening_text c.args.depth c.args.node.now) (flat_map (prop_text c.args.depth) c.args.node.now.props) c.in_err-put_opening.ensures)

pub returns : goal.returns
unfolding head_text
returns g c =
    put_then (g.S.Sink.seen c.args.out.now) (g.S.Sink.seen c.put_opening.new.out) _ _ _ _ (opening_text c.args.depth c.args.node.now) _ _ c.in_ok-put_opening.ensures
    (put_as _ _ _ _ _ _ _ (ap (flat_map (prop_text c.args.depth)) (ap (λ (n : NodeData). n.props) c.node.view_is)) c.put_props.ensures)
