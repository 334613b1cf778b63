use Rattle.std.proofs.Common.{codes, ◌++◌, refl}
use Rattle.dts_print.specs.Printed.{pair_text}
use Rattle.edt_base.proofs.Puts.{not_done, failed}
use Rattle.dts_print.proofs.Runs.{one_more, one_fails}
use Rattle.dts_print.proofs.part.put_further_pairs.Goals as goal

pub returns-in_err-put_further_pair : goal.returns-in_err-put_further_pair
returns-in_err-put_further_pair g c =
    not_done _ _ _ _ _ _ (failed c.from_residual.result c.from_residual.ensures.0)
    (one_fails (λ b. codes " " ++ pair_text b) _ _ 0 _ (g.S.Sink.seen c.args.out.now) (g.S.Sink.seen c.loop-byte.out) (g.S.Sink.seen c.put_further_pair.new.out) _ _ _
    c.loop-byte-test.true refl c.loop-byte.invariant c.in_err-put_further_pair.ensures)

pub loop-byte-preserved : goal.loop-byte-preserved
loop-byte-preserved g c =
    one_more (λ b. codes " " ++ pair_text b) _ _ 0 _ (g.S.Sink.seen c.args.out.now) (g.S.Sink.seen c.loop-byte.out) (g.S.Sink.seen c.put_further_pair.new.out) _ _ _
    c.loop-byte-test.true refl c.loop-byte.invariant c.in_ok-put_further_pair.ensures
