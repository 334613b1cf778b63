use Rattle.std.proofs.Common.{◌≡◌, ◌++◌, length}
use Rattle.dt_names.specs.Pieces.{spells}
use Rattle.dt_names.proofs.spelled.spelled.Given as goal

abbrev pub invariant-loop-piece : goal.invariant-loop-piece
invariant-loop-piece l = l.text.items ++ spells l.pieces ≡ spells l.fn.pieces

abbrev pub decreases-loop-piece : goal.decreases-loop-piece
decreases-loop-piece l = length l.pieces
