-- The header's text: a line a definition, comments before the definitions of each node and of the tree, and no
-- definition twice.
use Rattle.std.specs.Prelude.{◌+◌, ◌==◌, ◌++◌, ℕ, Bool, false, List, [], ◌∷◌, Option, None, Some, codes, if◌then◌else◌}
use Rattle.std.specs.List.{flat_map}
use Rattle.edt_base.specs.BoundData.{BoundData}
use Rattle.dt_names.specs.Facts.{FactData, facts, full_name}
use Rattle.dt_names.specs.Pieces.{PieceData, spells}
use Rattle.dt_names.specs.declared.piece.Params.{Params}
use Rattle.dt_names.specs.declared.piece.Params.TheVariants.{Plain, Fn, FnSep, FnVargs}
use Rattle.head_write.specs.declared.entry.Entry.{Entry}

-- the parameters of a definition
abbrev pub params_text : Params → List ℕ
params_text Plain = []
params_text Fn = codes "(fn)"
params_text FnSep = codes "(fn, sep)"
params_text FnVargs = codes "(fn, ...)"

-- a body with a space before it; an empty one leaves no space
abbrev pub body_text : List PieceData → List ℕ
body_text [] = []
body_text (p ∷ ps) = codes " " ++ spells (p ∷ ps)

-- the line of a definition
unfoldable pub line : FactData → List ℕ
line f = codes "#define " ++ (spells (full_name f) ++ (params_text f.params ++ (body_text f.body ++ codes "\n")))

-- the comment before a definition, where one stands there
unfoldable pub heading_text : Option (List ℕ) → List ℕ
heading_text None = []
heading_text (Some title) = codes "/* " ++ (title ++ codes " */\n")

-- the place is the first of these
abbrev pub is_first : ℕ → List ℕ → Bool
is_first place [] = false
is_first place (d ∷ ds) = place == d

-- these places, but for this one at their front
abbrev pub behind : ℕ → List ℕ → List ℕ
behind place [] = []
behind place (d ∷ ds) = if place == d then ds else d ∷ ds

-- definitions, the first at a place, each with whether it stands at one of these places, which rise
abbrev pub entries_from : ℕ → List ℕ → List FactData → List Entry
entries_from place doubles [] = []
entries_from place doubles (f ∷ fs) =
    record { fact = f; is_double = is_first place doubles } ∷ entries_from (place + 1) (behind place doubles) fs

-- all definitions of a bound tree in order, each with whether it is a double
unfoldable pub entries : BoundData → List Entry
entries b = entries_from 0 b.doubles (facts b)

-- the line of a definition that is no double
abbrev pub line_of : Entry → List ℕ
line_of e = if e.is_double then [] else line e.fact

-- the text of a definition: the comment before it, and its line
abbrev pub entry_text : Entry → List ℕ
entry_text e = heading_text e.fact.heading ++ line_of e

-- the header of a bound tree
unfoldable pub header_text : BoundData → List ℕ
header_text b = flat_map entry_text (entries b)
