-- What is written in a name, and that its spelling tells it.
use Rattle.std.specs.Prelude.{◌≡◌, ◌++◌, ℕ, List, [], ◌∷◌, decimal}
use Rattle.std.specs.List.{Contains}
use Rattle.edt_base.specs.BoundData.{BoundData}
use Rattle.edt_base.specs.Forms.{form_of}
use Rattle.dt_names.specs.Facts.{FactData, facts, full_name}
use Rattle.dt_names.specs.Pieces.{PieceData, lit, form, str, num, quoted, spells}

-- a part of a name: a marker, or a word or number as it is spelled
pub data NamePart : Type 0 where
  marker : List ℕ → NamePart
  word : List ℕ → NamePart

-- a marker before other parts; two that stand side by side are one
abbrev pub behind_marker : List ℕ → List NamePart → List NamePart
behind_marker t [] = marker t ∷ []
behind_marker t (marker u ∷ ps) = marker (t ++ u) ∷ ps
behind_marker t (word w ∷ ps) = marker t ∷ word w ∷ ps

-- the markers, words and numbers of a name, in order
abbrev pub name_parts : List PieceData → List NamePart
name_parts [] = []
name_parts (lit t ∷ ps) = behind_marker t (name_parts ps)
name_parts (form t ∷ ps) = word (form_of t) ∷ name_parts ps
name_parts (str t ∷ ps) = word (quoted t) ∷ name_parts ps
name_parts (num n ∷ ps) = word (decimal n) ∷ name_parts ps

-- the names of two definitions, of one bound tree or of two, are spelled alike only where their markers, words and
-- numbers are the same
abbrev pub NamesAreTold : Type 0
NamesAreTold = (b c : BoundData) (f g : FactData) → Contains (facts b) f → Contains (facts c) g → spells (full_name f)
    ≡ spells (full_name g) → name_parts (full_name f) ≡ name_parts (full_name g)
