use Rattle.std.proofs.Common.{◌≡◌, length}
use Rattle.dt_names.specs.Facts.{names_pieces}
use Rattle.dt_names.proofs.pieces.next_name.Given as goal

abbrev pub invariant-loop-byte : goal.invariant-loop-byte
invariant-loop-byte l = names_pieces l.left ≡ names_pieces l.path

abbrev pub decreases-loop-byte : goal.decreases-loop-byte
decreases-loop-byte l = length l.left
