-- The parts of lines.
use Rattle.std.specs.Prelude.{ℕ, List, decimal}
use Rattle.edt_run.specs.declared.piece.Piece.{Piece}
use Rattle.edt_run.specs.declared.piece.Piece.TheVariants.{Text, Path, Id, Number}
use Rattle.edt_run.specs.Trail.{path_of, id_of}

-- the text of a part
abbrev pub text_of : Piece → List ℕ
text_of (Text t) = t.now
text_of (Path trail) = path_of trail.now
text_of (Id trail) = id_of trail.now
text_of (Number n) = decimal n
