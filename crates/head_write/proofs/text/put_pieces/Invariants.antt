use Rattle.std.proofs.Common.{◌≡◌, ◌++◌, List, ℕ, length, true}
use Rattle.dt_names.specs.Pieces.{spells}
use Rattle.edt_base.specs.Put.{Put}
use Rattle.head_write.proofs.text.put_pieces.Given as goal

-- the pieces so far were put, and those that are left are the rest
abbrev pub invariant-loop-piece : goal.invariant-loop-piece
invariant-loop-piece g l =
    (text : List ℕ) × (text ++ spells l.pieces ≡ spells l.fn.pieces)
    × Put (g.S.Sink.seen l.initial.out) (g.S.Sink.seen l.out) l.initial.block l.block text true

abbrev pub decreases-loop-piece : goal.decreases-loop-piece
decreases-loop-piece g l = length l.pieces
