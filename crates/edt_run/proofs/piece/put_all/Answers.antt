use Rattle.edt_run.specs.Piece.{text_of}
use Rattle.edt_run.proofs.Headers.{one_more, one_fails}
use Rattle.edt_base.proofs.Puts.{not_done, failed}
use Rattle.edt_run.proofs.piece.put_all.Goals as goal

pub returns-in_err-put_piece : goal.returns-in_err-put_piece
returns-in_err-put_piece g c =
    not_done _ _ _ _ _ _ (failed c.from_residual.result c.from_residual.ensures.0)
    (one_fails text_of _ _ _ (g.S.Sink.seen c.args.out.now) (g.S.Sink.seen c.loop-piece.out) (g.S.Sink.seen c.put_piece.new.out) _ _ _
    c.loop-piece-test.true c.piece-item.is c.loop-piece.invariant c.in_err-put_piece.ensures)

pub loop-piece-preserved : goal.loop-piece-preserved
loop-piece-preserved g c =
    one_more text_of _ _ _ (g.S.Sink.seen c.args.out.now) (g.S.Sink.seen c.loop-piece.out) (g.S.Sink.seen c.put_piece.new.out) _ _ _
    c.loop-piece-test.true c.piece-item.is c.loop-piece.invariant c.in_ok-put_piece.ensures
