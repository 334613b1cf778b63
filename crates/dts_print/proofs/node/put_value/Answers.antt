use Rattle.std.proofs.Common.{codes, sym, ◌++◌}
use Rattle.std.specs.List.{flat_map}
use Rattle.dts_print.specs.Printed.{part_text, value_text}
use Rattle.edt_base.proofs.Puts.{nothing_put, put_as, put_then, put_stops, not_done, failed}
use Rattle.dts_print.proofs.Steps.{value_none}
use Rattle.dts_print.proofs.node.put_value.Goals as goal

pub returns-in_err-put : goal.returns-in_err-put
unfolding value_text
returns-in_err-put g c =
    rw c.in-Some.ensures.cases.0
    (not_done _ _ _ _ _ _ (failed c.from_residual.result c.from_residual.ensures.0)
    (put_stops (g.S.Sink.seen c.args.out.now) (g.S.Sink.seen c.put.new.out) _ _ _ (codes " = ") (part_text c.in-Some.first.now ++ (flat_map (λ p. codes ", " ++ part_text p) c.in-Some.rest.now)) c.in_err-put.ensures))

pub returns-in_err-put_part : goal.returns-in_err-put_part
unfolding value_text
returns-in_err-put_part g c =
    rw c.in-Some.ensures.cases.0
    (not_done _ _ _ _ _ _ (failed c.from_residual-in_err-put_part.result c.from_residual-in_err-put_part.ensures.0)
    (put_then (g.S.Sink.seen c.args.out.now) (g.S.Sink.seen c.put.new.out) _ _ _ _ (codes " = ") _ _ c.in_ok-put.ensures
    (put_stops _ (g.S.Sink.seen c.put_part.new.out) _ _ _ (part_text c.in-Some.first.now) (flat_map (λ p. codes ", " ++ part_text p) c.in-Some.rest.now) c.in_err-put_part.ensures)))

pub returns : goal.returns
unfolding value_text
returns g c =
    rw c.in-Some.ensures.cases.0
    ((put_then (g.S.Sink.seen c.args.out.now) (g.S.Sink.seen c.put.new.out) _ _ _ _ (codes " = ") _ _ c.in_ok-put.ensures
    (put_then _ (g.S.Sink.seen c.put_part.new.out) _ _ _ _ (part_text c.in-Some.first.now) _ _ c.in_ok-put_part.ensures
    c.put_further_parts.ensures)))

pub returns-in_default : goal.returns-in_default
returns-in_default g c =
    put_as _ _ _ _ _ _ _ (sym (value_none c.args.parts.now c.in_default.ensures.cases)) (nothing_put (g.S.Sink.seen c.args.out.now) c.args.block.now)
