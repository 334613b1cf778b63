use Rattle.std.proofs.Common.{codes, ◌++◌}
use Rattle.std.specs.List.{flat_map}
use Rattle.dts_print.specs.Printed.{number_text}
use Rattle.dts_print.specs.Inner.Numbers.{numbers_of}
use Rattle.edt_base.proofs.Puts.{put_then, put_stops, not_done, failed}
use Rattle.dts_print.proofs.part.put_numbers.Goals as goal

pub returns-in_err-put_number : goal.returns-in_err-put_number
returns-in_err-put_number g c =
    rw c.in-Some.ensures
    (not_done _ _ _ _ _ _ (failed c.from_residual.result c.from_residual.ensures.0)
    (put_stops (g.S.Sink.seen c.args.out.now) (g.S.Sink.seen c.put_number.new.out) _ _ _ (number_text c.in-Some.first) (flat_map (λ n. codes " " ++ number_text n) (numbers_of c.args.width c.in-Some.rest.now)) c.in_err-put_number.ensures))

pub returns : goal.returns
returns g c =
    rw c.in-Some.ensures
    ((put_then (g.S.Sink.seen c.args.out.now) (g.S.Sink.seen c.put_number.new.out) _ _ _ _ (number_text c.in-Some.first) _ _ c.in_ok-put_number.ensures
    c.put_further_numbers.ensures))
