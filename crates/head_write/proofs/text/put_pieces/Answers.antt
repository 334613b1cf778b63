use Rattle.std.proofs.Common.{ap}
use Rattle.dt_names.specs.Pieces.{spells}
use Rattle.head_write.proofs.Runs.{part_more, part_fails, all_put}
use Rattle.edt_base.proofs.Puts.{not_done, failed}
use Rattle.head_write.proofs.text.put_pieces.Goals as goal

pub loop-piece-preserved : goal.loop-piece-preserved
unfolding spells
loop-piece-preserved g c =
    part_more (g.S.Sink.seen c.args.out.now) (g.S.Sink.seen c.loop-piece.out) (g.S.Sink.seen c.put_piece.new.out) _ _ _ _ _ _ _ _
    c.loop-piece.invariant.1 (ap spells c.in-Some.ensures) c.loop-piece.invariant.2 c.in_ok-put_piece.ensures

pub returns-in_err-put_piece : goal.returns-in_err-put_piece
unfolding spells
returns-in_err-put_piece g c =
    not_done _ _ _ _ _ _ (failed c.from_residual.result c.from_residual.ensures.0)
    (part_fails (g.S.Sink.seen c.args.out.now) (g.S.Sink.seen c.loop-piece.out) (g.S.Sink.seen c.put_piece.new.out) _ _ _ _ _ _ (spells c.next.new.self) _
    c.loop-piece.invariant.1 (ap spells c.in-Some.ensures) c.loop-piece.invariant.2 c.in_err-put_piece.ensures)

pub returns : goal.returns
unfolding spells
returns g c =
    all_put (g.S.Sink.seen c.args.out.now) (g.S.Sink.seen c.loop-piece.out) _ _ _ _ _
    c.loop-piece.invariant.1 (ap spells c.in_default.ensures.0) c.loop-piece.invariant.2
