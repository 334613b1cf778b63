use Rattle.std.proofs.Common.{◌≡◌, [], refl, length, rules}
use Rattle.edt_run.specs.declared.node.Node.{out-Node}
use Rattle.edt_run.specs.Trail.{path_of, id_of}
use Rattle.edt_run.proofs.Headers.{next_node, node_more, node_fails, below_fails}
use Rattle.edt_base.proofs.Puts.{nothing_put, not_done, failed}
use Rattle.edt_run.proofs.header.+put_below.Goals as goal

pub loop-place-init : goal.loop-place-init
loop-place-init g t c = ([], refl, nothing_put (g.S.Sink.seen c.args.out.now) c.args.block.now)

pub returns-in_err-put_node_lines : goal.returns-in_err-put_node_lines
returns-in_err-put_node_lines g t c =
    let counted : c.len.result ≡ length (out-Node c.index-nodes-place.result).below.items = search rules in
    let begins = next_node (path_of c.args.parent.now) (id_of c.args.parent.now) c.args.nodes.now c.loop-place.place c.index-nodes-place.result
    c.as_str-name.result.now c.len.result (out-Node c.index-nodes-place.result).below.items c.loop-place-test.true c.index-nodes-place.is c.as_str-name.ensures counted refl in
    not_done _ _ _ _ _ _ (failed c.from_residual.result c.from_residual.ensures.0)
    (node_fails (g.S.Sink.seen c.args.out.now) (g.S.Sink.seen c.loop-place.out) (g.S.Sink.seen c.put_node_lines.new.out)
    _ _ _ _ _ _ _ _ c.loop-place.invariant.1 begins c.loop-place.invariant.2 c.in_err-put_node_lines.ensures)

pub returns-in_err-put_below : goal.returns-in_err-put_below
returns-in_err-put_below g t c =
    let counted : c.len.result ≡ length (out-Node c.index-nodes-place.result).below.items = search rules in
    let begins = next_node (path_of c.args.parent.now) (id_of c.args.parent.now) c.args.nodes.now c.loop-place.place c.index-nodes-place.result
    c.as_str-name.result.now c.len.result c.as_slice.result.now c.loop-place-test.true c.index-nodes-place.is c.as_str-name.ensures counted c.as_slice.ensures.value in
    not_done _ _ _ _ _ _ (failed c.from_residual-in_err-put_below.result c.from_residual-in_err-put_below.ensures.0)
    (below_fails (g.S.Sink.seen c.args.out.now) (g.S.Sink.seen c.loop-place.out) (g.S.Sink.seen c.put_node_lines.new.out) (g.S.Sink.seen c.put_below.new.out)
    _ _ _ _ _ _ _ _ _ _ c.loop-place.invariant.1 begins c.loop-place.invariant.2 c.in_ok-put_node_lines.ensures c.in_err-put_below.ensures)

pub loop-place-preserved : goal.loop-place-preserved
loop-place-preserved g t c =
    let counted : c.len.result ≡ length (out-Node c.index-nodes-place.result).below.items = search rules in
    let begins = next_node (path_of c.args.parent.now) (id_of c.args.parent.now) c.args.nodes.now c.loop-place.place c.index-nodes-place.result
    c.as_str-name.result.now c.len.result c.as_slice.result.now c.loop-place-test.true c.index-nodes-place.is c.as_str-name.ensures counted c.as_slice.ensures.value in
    node_more (g.S.Sink.seen c.args.out.now) (g.S.Sink.seen c.loop-place.out) (g.S.Sink.seen c.put_node_lines.new.out) (g.S.Sink.seen c.put_below.new.out)
    _ _ _ _ _ _ _ _ _ _ c.loop-place.invariant.1 begins c.loop-place.invariant.2 c.in_ok-put_node_lines.ensures c.in_ok-put_below.ensures
