-- What is left of a name behind its id, in pieces.
use Rattle.std.specs.Prelude.{◌++◌, List, [], ◌∷◌, codes}
use Rattle.dt_names.specs.Inner.Lists.{listed}
use Rattle.dt_names.specs.Pieces.{PieceData, lit, form, num}
use Rattle.dt_names.specs.Inner.Rows.{at_pieces, ending_pieces}
use Rattle.dt_names.specs.declared.left.AtLeft.{AtLeft}
use Rattle.dt_names.specs.declared.left.AtLeft.TheVariants as at
use Rattle.dt_names.specs.declared.left.EndingLeft.{EndingLeft}
use Rattle.dt_names.specs.declared.left.EndingLeft.TheVariants as ending
use Rattle.dt_names.specs.declared.list.Listed.{Listed}

-- what is left of what a name speaks of
abbrev pub at_left : AtLeft → List PieceData
at_left (at.Whole whole) = at_pieces whole
at_left (at.Number i) = num i ∷ []
at_left (at.Form name) = form name.text.now ∷ []
at_left (at.Elem name i) = form name.text.now ∷ lit (codes "_IDX_") ∷ num i ∷ []
at_left (at.Entry name entry) = form name.text.now ∷ lit (codes "_NAME_") ∷ form entry.text.now ∷ []

-- what is left of how it ends
abbrev pub ending_left : EndingLeft → List PieceData
ending_left (ending.Whole whole) = ending_pieces whole
ending_left (ending.Form word) = form word.now ∷ []
ending_left (ending.FormMark word after) = form word.now ∷ lit after.now ∷ []

-- all that is left behind an id: the rest of a name, or a list
abbrev pub behind_id : AtLeft → EndingLeft → Listed → List PieceData
behind_id a e l = at_left a ++ (ending_left e ++ listed l)
