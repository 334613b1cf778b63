-- What the names and bodies of definitions are made of, and how it is spelled.
use Rattle.std.specs.Prelude.{◌==◌, ◌+◌, ◌/◌, ◌%◌, ◌++◌, ◌&&◌, ◌||◌, ℕ, List, [], ◌∷◌, decimal, nat_le, if◌then◌else◌}
use Rattle.std.specs.List.{flat_map}
use Rattle.edt_base.specs.Forms.{form_of}

-- a piece of a name or a body
pub data PieceData : Type 0 where
  -- characters as they are
  lit : List ℕ → PieceData
  -- a text, as its form
  form : List ℕ → PieceData
  -- a text, as a string literal
  str : List ℕ → PieceData
  -- a number, in decimal
  num : ℕ → PieceData

-- a byte of a string: `"` and `\` with a backslash before them, and those outside 32 to 126 as a backslash and three
-- octal digits
abbrev pub escaped : ℕ → List ℕ
escaped c =
    if (c == 34) || (c == 92) then 92 ∷ c ∷ [] else
    if nat_le 32 c && nat_le c 126 then c ∷ [] else
    92 ∷ (48 + c / 64) ∷ (48 + (c / 8) % 8) ∷ (48 + c % 8) ∷ []

-- a text as a string literal
abbrev pub quoted : List ℕ → List ℕ
quoted text = 34 ∷ (flat_map escaped text ++ 34 ∷ [])

-- how a piece is spelled
abbrev pub spell : PieceData → List ℕ
spell (lit text) = text
spell (form text) = form_of text
spell (str text) = quoted text
spell (num n) = decimal n

-- pieces, spelled one behind the other
unfoldable pub spells : List PieceData → List ℕ
spells pieces = flat_map spell pieces
