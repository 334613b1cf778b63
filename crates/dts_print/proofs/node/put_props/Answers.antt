use Rattle.std.proofs.Common.{◌≡◌, ◌∷◌, [], ap, rules}
use Rattle.std.specs.List.{flat_map}
use Rattle.edt_base.proofs.Puts.{nothing_put, not_done, failed}
use Rattle.dts_print.specs.Printed.{prop_text}
use Rattle.dts_print.proofs.Runs.{part_more, part_fails}
use Rattle.dts_print.proofs.node.put_props.Goals as goal

pub loop-name-init : goal.loop-name-init
loop-name-init g c =
    let start : c.into_iter-name-iterator.result ≡ c.args.props.now.entries = search rules in
    (tt, tt, [], ap (flat_map (prop_text c.args.depth)) start, nothing_put (g.S.Sink.seen c.args.out.now) c.args.block.now)

pub loop-name-preserved : goal.loop-name-preserved
loop-name-preserved g c =
    let begins : c.loop-name.name-iterator ≡ (c.in-Some.name.now, c.in-Some.value.now) ∷ c.next.new.self = search rules in
    let more = part_more (g.S.Sink.seen c.args.out.now) (g.S.Sink.seen c.loop-name.out) (g.S.Sink.seen c.put_prop.new.out) c.args.block.now c.loop-name.block c.put_prop.new.block c.loop-name.invariant.2
    (prop_text c.args.depth (c.in-Some.name.now, c.in-Some.value.now)) (flat_map (prop_text c.args.depth) c.loop-name.name-iterator) (flat_map (prop_text c.args.depth) c.next.new.self)
    (flat_map (prop_text c.args.depth) c.args.props.now.entries)
    c.loop-name.invariant.3 (ap (flat_map (prop_text c.args.depth)) begins) c.loop-name.invariant.4 c.in_ok-put_prop.ensures in
    (tt, tt, more.0, more.1, more.2)

pub returns-in_err-put_prop : goal.returns-in_err-put_prop
returns-in_err-put_prop g c =
    let begins : c.loop-name.name-iterator ≡ (c.in-Some.name.now, c.in-Some.value.now) ∷ c.next.new.self = search rules in
    not_done _ _ _ _ _ _ (failed c.from_residual.result c.from_residual.ensures.0)
    (part_fails (g.S.Sink.seen c.args.out.now) (g.S.Sink.seen c.loop-name.out) (g.S.Sink.seen c.put_prop.new.out) _ _ _ c.loop-name.invariant.2
    (prop_text c.args.depth (c.in-Some.name.now, c.in-Some.value.now)) _ (flat_map (prop_text c.args.depth) c.next.new.self) _
    c.loop-name.invariant.3 (ap (flat_map (prop_text c.args.depth)) begins) c.loop-name.invariant.4 c.in_err-put_prop.ensures)
