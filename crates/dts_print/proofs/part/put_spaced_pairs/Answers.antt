use Rattle.std.proofs.Common.{codes, ◌++◌}
use Rattle.std.specs.List.{flat_map}
use Rattle.dts_print.specs.Printed.{pair_text}
use Rattle.edt_base.proofs.Puts.{put_then, put_stops, not_done, failed}
use Rattle.dts_print.proofs.part.put_spaced_pairs.Goals as goal

pub returns-in_err-put_pair : goal.returns-in_err-put_pair
returns-in_err-put_pair g c =
    rw c.in-Some.ensures.cases.0
    (not_done _ _ _ _ _ _ (failed c.from_residual.result c.from_residual.ensures.0)
    (put_stops (g.S.Sink.seen c.args.out.now) (g.S.Sink.seen c.put_pair.new.out) _ _ _ (pair_text c.in-Some.first.now) (flat_map (λ b. codes " " ++ pair_text b) c.in-Some.rest.now) c.in_err-put_pair.ensures))

pub returns : goal.returns
returns g c =
    rw c.in-Some.ensures.cases.0
    ((put_then (g.S.Sink.seen c.args.out.now) (g.S.Sink.seen c.put_pair.new.out) _ _ _ _ (pair_text c.in-Some.first.now) _ _ c.in_ok-put_pair.ensures
    c.put_further_pairs.ensures))
