use Rattle.std.proofs.Common.{◌≡◌}
use Rattle.c_tokens.specs.Shown.{with_space}
use Rattle.c_tokens.proofs.Writes.{one_more, one_fails, failed, not_done}
use Rattle.c_tokens.proofs.writing.show_all_spaced.Goals as goal

pub returns-in_err-show_spaced : goal.returns-in_err-show_spaced
returns-in_err-show_spaced g c =
    not_done _ _ _ _ (failed c.from_residual.result c.from_residual.ensures.0)
    (one_fails with_space _ _ _ (g.S.Sink.seen c.args.out.now) (g.S.Sink.seen c.loop-tok.out) (g.S.Sink.seen c.show_spaced.new.out)
    c.loop-tok-test.true c.tok-item.is c.loop-tok.invariant c.in_err-show_spaced.ensures)

pub loop-tok-preserved : goal.loop-tok-preserved
loop-tok-preserved g c =
    one_more with_space _ _ _ (g.S.Sink.seen c.args.out.now) (g.S.Sink.seen c.loop-tok.out) (g.S.Sink.seen c.show_spaced.new.out)
    c.loop-tok-test.true c.tok-item.is c.loop-tok.invariant c.in_ok-show_spaced.ensures
