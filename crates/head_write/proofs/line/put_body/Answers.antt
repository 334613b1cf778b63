use Rattle.std.proofs.Common.{codes, ◌++◌}
use Rattle.dt_names.specs.Pieces.{spell, spells}
use Rattle.dt_names.specs.Inner.Words.{piece_of}
use Rattle.edt_base.proofs.Puts.{put_then, put_stops, not_done, failed}
use Rattle.head_write.proofs.line.put_body.Goals as goal

pub returns-in_err-put-in-Some : goal.returns-in_err-put-in-Some
unfolding spells
returns-in_err-put-in-Some g c =
    rw c.in-Some.ensures
    (not_done _ _ _ _ _ _ (failed c.from_residual.result c.from_residual.ensures.0)
    (put_stops (g.S.Sink.seen c.args.out.now) (g.S.Sink.seen c.put.new.out) _ _ _ (codes " ") (spell (piece_of c.in-Some.first) ++ spells c.next.new.self) c.in_err-put-in-Some.ensures))

pub returns-in_err-put_piece-in-Some : goal.returns-in_err-put_piece-in-Some
unfolding spells
returns-in_err-put_piece-in-Some g c =
    rw c.in-Some.ensures
    (not_done _ _ _ _ _ _ (failed c.from_residual-in_err-put_piece-in-Some.result c.from_residual-in_err-put_piece-in-Some.ensures.0)
    (put_then _ (g.S.Sink.seen c.put.new.out) _ _ _ _ (codes " ") _ _ c.in_ok-put-in-Some.ensures
    (put_stops _ (g.S.Sink.seen c.put_piece.new.out) _ _ _ (spell (piece_of c.in-Some.first)) (spells c.next.new.self) c.in_err-put_piece-in-Some.ensures)))

pub returns-in_ok-put_piece-in-Some : goal.returns-in_ok-put_piece-in-Some
unfolding spells
returns-in_ok-put_piece-in-Some g c =
    rw c.in-Some.ensures
    (put_then _ (g.S.Sink.seen c.put.new.out) _ _ _ _ (codes " ") _ _ c.in_ok-put-in-Some.ensures
    (put_then _ (g.S.Sink.seen c.put_piece.new.out) _ _ _ _ (spell (piece_of c.in-Some.first)) _ _ c.in_ok-put_piece-in-Some.ensures c.put_pieces.ensures))
