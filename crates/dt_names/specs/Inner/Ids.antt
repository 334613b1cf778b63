-- What is left of an id, in pieces.
use Rattle.std.specs.Prelude.{List, ◌∷◌}
use Rattle.dt_names.specs.Facts.{id_pieces, names_pieces}
use Rattle.dt_names.specs.Pieces.{PieceData, form}
use Rattle.dt_names.specs.declared.pieces.IdLeft.{IdLeft}
use Rattle.dt_names.specs.declared.pieces.IdLeft.TheVariants.{Whole, Names, Name}

abbrev pub id_left : IdLeft → List PieceData
id_left (Whole id) = id_pieces id.path.now
id_left (Names path) = names_pieces path.now
id_left (Name name rest) = form name.now ∷ names_pieces rest.now
