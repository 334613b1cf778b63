use Rattle.std.proofs.Common.{◌∙◌, List, [], ap, codes, sym}
use Rattle.edt_base.specs.NodeData.{NodeData}
use Rattle.edt_base.proofs.Puts.{put_as, put_then, put_stops, last_flush, if_ok, write_fails, failed}
use Rattle.dts_print.specs.Inner.Steps.{text_from}
use Rattle.dts_print.proofs.Preorder.{printed_is}
use Rattle.dts_print.proofs.source.print.Goals as goal

pub returns-in_err-put : goal.returns-in_err-put
returns-in_err-put g c =
    write_fails _ _ _ _ _ _ (failed c.from_residual.result c.from_residual.ensures.0) c.new-block.ensures
    (put_as _ _ _ _ _ _ _ (sym (printed_is c.args.tree.now c.is_well_formed.ensures))
    (put_stops (g.S.Sink.seen c.args.out.now) (g.S.Sink.seen c.put.new.out) _ _ [] (codes "/dts-v1/;\n") (text_from c.args.tree.now.nodes 0 0 c.args.tree.now.nodes) c.in_err-put.ensures))

pub returns-in_err-put_nodes : goal.returns-in_err-put_nodes
returns-in_err-put_nodes g c =
    write_fails _ _ _ _ _ _ (failed c.from_residual-in_err-put_nodes.result c.from_residual-in_err-put_nodes.ensures.0) c.new-block.ensures
    (put_as _ _ _ _ _ _ _ (sym (printed_is c.args.tree.now c.is_well_formed.ensures))
    (put_then (g.S.Sink.seen c.args.out.now) (g.S.Sink.seen c.put.new.out) (g.S.Sink.seen c.put_nodes.new.out) _ _ _ (codes "/dts-v1/;\n") _ _ c.in_ok-put.ensures
    (put_as _ _ _ _ _ _ _ (ap (λ (ns : List NodeData). text_from ns 0 0 ns) (c.as_slice.ensures.value ∙ c.nodes.ensures)) c.in_err-put_nodes.ensures)))

pub returns : goal.returns
returns g c =
    last_flush (g.S.Sink.seen c.args.out.now) (g.S.Sink.seen c.put_nodes.new.out) (g.S.Sink.seen c.flush.new.out) _ _ _ _ _ c.new-block.ensures
    (put_as _ _ _ _ _ _ _ (sym (printed_is c.args.tree.now c.is_well_formed.ensures))
    (put_then (g.S.Sink.seen c.args.out.now) (g.S.Sink.seen c.put.new.out) (g.S.Sink.seen c.put_nodes.new.out) _ _ _ (codes "/dts-v1/;\n") _ _ c.in_ok-put.ensures
    (put_as _ _ _ _ _ _ _ (ap (λ (ns : List NodeData). text_from ns 0 0 ns) (c.as_slice.ensures.value ∙ c.nodes.ensures)) c.in_ok-put_nodes.ensures)))
    c.flush.ensures.wrote (if_ok c.flush.result c.flush.ensures.emptied)
