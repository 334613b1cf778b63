use Rattle.std.proofs.Common.{take, true}
use Rattle.std.specs.List.{flat_map}
use Rattle.edt_run.specs.Piece.{text_of}
use Rattle.edt_base.specs.Put.{Put}
use Rattle.edt_run.proofs.piece.put_all.Given as goal

abbrev pub invariant-loop-piece : goal.invariant-loop-piece
invariant-loop-piece g l =
    Put (g.S.Sink.seen l.initial.out) (g.S.Sink.seen l.out) l.initial.block l.block
    (flat_map text_of (take l.piece-index l.pieces)) true
