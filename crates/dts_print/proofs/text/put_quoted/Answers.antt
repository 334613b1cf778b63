use Rattle.std.proofs.Common.{codes, ◌++◌}
use Rattle.std.specs.List.{flat_map}
use Rattle.dts_print.specs.Printed.{escaped, quoted}
use Rattle.edt_base.proofs.Puts.{put_then, put_stops, not_done, failed}
use Rattle.dts_print.proofs.text.put_quoted.Goals as goal

pub returns-in_err-put_byte : goal.returns-in_err-put_byte
unfolding quoted
returns-in_err-put_byte g c =
    not_done _ _ _ _ _ _ (failed c.from_residual.result c.from_residual.ensures.0)
    (put_stops (g.S.Sink.seen c.args.out.now) (g.S.Sink.seen c.put_byte.new.out) _ _ _ (codes "\"") (flat_map escaped c.args.text.now ++ (codes "\"")) c.in_err-put_byte.ensures)

pub returns-in_err-put_escaped : goal.returns-in_err-put_escaped
unfolding quoted
returns-in_err-put_escaped g c =
    not_done _ _ _ _ _ _ (failed c.from_residual-in_err-put_escaped.result c.from_residual-in_err-put_escaped.ensures.0)
    (put_then (g.S.Sink.seen c.args.out.now) (g.S.Sink.seen c.put_byte.new.out) _ _ _ _ (codes "\"") _ _ c.in_ok-put_byte.ensures
    (put_stops _ (g.S.Sink.seen c.put_escaped.new.out) _ _ _ (flat_map escaped c.args.text.now) (codes "\"") c.in_err-put_escaped.ensures))

pub returns : goal.returns
unfolding quoted
returns g c =
    put_then (g.S.Sink.seen c.args.out.now) (g.S.Sink.seen c.put_byte.new.out) _ _ _ _ (codes "\"") _ _ c.in_ok-put_byte.ensures
    (put_then _ (g.S.Sink.seen c.put_escaped.new.out) _ _ _ _ (flat_map escaped c.args.text.now) _ _ c.in_ok-put_escaped.ensures
    c.put_byte-2.ensures)
