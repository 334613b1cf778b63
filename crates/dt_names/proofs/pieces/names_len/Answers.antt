use Rattle.std.proofs.Common.{◌∷◌, []}
use Rattle.dt_names.specs.Inner.Words.{piece_of}
use Rattle.dt_names.proofs.Lengths.{count_more, counted, piece_sized}
use Rattle.dt_names.proofs.pieces.names_len.Goals as goal

pub loop-piece-preserved : goal.loop-piece-preserved
loop-piece-preserved c =
    count_more _ _ _ _ (piece_of c.in-Some.piece ∷ []) _ _ c.in-Some.ensures (piece_sized _ _ c.piece_len.ensures) c.saturating_add-len.ensures c.loop-piece.invariant.1

pub returns : goal.returns
returns c = counted _ _ _ c.in_default.ensures.0 c.loop-piece.invariant.0 c.loop-piece.invariant.1
