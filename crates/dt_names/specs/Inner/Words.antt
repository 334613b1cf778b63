-- What words stand for, in pieces.
use Rattle.std.specs.Prelude.{List, [], ◌∷◌}
use Rattle.dt_names.specs.Facts.{id_pieces}
use Rattle.dt_names.specs.Pieces.{PieceData, lit, form, str, num}
use Rattle.dt_names.specs.declared.piece.Piece.{Piece}
use Rattle.dt_names.specs.declared.piece.Piece.TheVariants as piece
use Rattle.dt_names.specs.declared.word.Word.{Word}
use Rattle.dt_names.specs.declared.word.Word.TheVariants as word

-- a piece as the code has it
abbrev pub piece_of : Piece → PieceData
piece_of (piece.Lit text) = lit text.now
piece_of (piece.Form text) = form text.now
piece_of (piece.Str text) = str text.now
piece_of (piece.Num n) = num n

-- the pieces of a word
abbrev pub word_pieces : Word → List PieceData
word_pieces (word.Id id) = id_pieces id.path.now
word_pieces (word.Name name) = form name.text.now ∷ []
word_pieces (word.One p) = piece_of p ∷ []
