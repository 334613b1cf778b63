use Rattle.std.proofs.Common.{◌≡◌, ◌++◌, take, drop}
use Rattle.dt_names.specs.Facts.{name_first, names_pieces}
use Rattle.dt_names.proofs.pieces.first_name.Given as goal

abbrev pub invariant-loop-place : goal.invariant-loop-place
invariant-loop-place l = (take l.place l.text ++ name_first (drop l.place l.text) ≡ name_first l.text) × (names_pieces (drop l.place l.text) ≡ names_pieces l.text)
