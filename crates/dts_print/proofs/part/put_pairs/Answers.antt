use Rattle.std.proofs.Common.{codes, ◌++◌}
use Rattle.dts_print.specs.Printed.{joined, pair_text, pairs_text}
use Rattle.edt_base.proofs.Puts.{put_then, put_stops, not_done, failed}
use Rattle.dts_print.proofs.part.put_pairs.Goals as goal

pub returns-in_err-put : goal.returns-in_err-put
unfolding pairs_text
returns-in_err-put g c =
    not_done _ _ _ _ _ _ (failed c.from_residual.result c.from_residual.ensures.0)
    (put_stops (g.S.Sink.seen c.args.out.now) (g.S.Sink.seen c.put.new.out) _ _ _ (codes "[") (joined (codes " ") pair_text c.args.bytes.now ++ (codes "]")) c.in_err-put.ensures)

pub returns-in_err-put_spaced_pairs : goal.returns-in_err-put_spaced_pairs
unfolding pairs_text
returns-in_err-put_spaced_pairs g c =
    not_done _ _ _ _ _ _ (failed c.from_residual-in_err-put_spaced_pairs.result c.from_residual-in_err-put_spaced_pairs.ensures.0)
    (put_then (g.S.Sink.seen c.args.out.now) (g.S.Sink.seen c.put.new.out) _ _ _ _ (codes "[") _ _ c.in_ok-put.ensures
    (put_stops _ (g.S.Sink.seen c.put_spaced_pairs.new.out) _ _ _ (joined (codes " ") pair_text c.args.bytes.now) (codes "]") c.in_err-put_spaced_pairs.ensures))

pub returns : goal.returns
unfolding pairs_text
returns g c =
    put_then (g.S.Sink.seen c.args.out.now) (g.S.Sink.seen c.put.new.out) _ _ _ _ (codes "[") _ _ c.in_ok-put.ensures
    (put_then _ (g.S.Sink.seen c.put_spaced_pairs.new.out) _ _ _ _ (joined (codes " ") pair_text c.args.bytes.now) _ _ c.in_ok-put_spaced_pairs.ensures
    c.put-2.ensures)
