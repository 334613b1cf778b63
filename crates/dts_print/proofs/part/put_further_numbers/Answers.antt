use Rattle.std.proofs.Common.{◌++◌, ap, codes}
use Rattle.std.specs.List.{flat_map}
use Rattle.edt_base.proofs.Puts.{not_done, failed}
use Rattle.dts_print.specs.Printed.{number_text}
use Rattle.dts_print.specs.Inner.Numbers.{numbers_of}
use Rattle.dts_print.proofs.Runs.{part_more, part_fails, all_put}
use Rattle.dts_print.proofs.part.put_further_numbers.Goals as goal

pub loop-number-preserved : goal.loop-number-preserved
loop-number-preserved g c =
    part_more (g.S.Sink.seen c.args.out.now) (g.S.Sink.seen c.loop-number.out) (g.S.Sink.seen c.put_further_number.new.out) _ _ _ _ (codes " " ++ number_text c.in-Some.number) _ _ _
    c.loop-number.invariant.1 (ap (flat_map (λ n. codes " " ++ number_text n)) c.in-Some.ensures) c.loop-number.invariant.2 c.in_ok-put_further_number.ensures

pub returns-in_err-put_further_number : goal.returns-in_err-put_further_number
returns-in_err-put_further_number g c =
    not_done _ _ _ _ _ _ (failed c.from_residual.result c.from_residual.ensures.0)
    (part_fails (g.S.Sink.seen c.args.out.now) (g.S.Sink.seen c.loop-number.out) (g.S.Sink.seen c.put_further_number.new.out) _ _ _ _ (codes " " ++ number_text c.in-Some.number) _
    (flat_map (λ n. codes " " ++ number_text n) (numbers_of c.args.width c.in-Some.rest.now)) _
    c.loop-number.invariant.1 (ap (flat_map (λ n. codes " " ++ number_text n)) c.in-Some.ensures) c.loop-number.invariant.2 c.in_err-put_further_number.ensures)

pub returns : goal.returns
returns g c =
    all_put (g.S.Sink.seen c.args.out.now) (g.S.Sink.seen c.loop-number.out) _ _ _ _ _
    c.loop-number.invariant.1 (ap (flat_map (λ n. codes " " ++ number_text n)) c.in_default.ensures) c.loop-number.invariant.2
