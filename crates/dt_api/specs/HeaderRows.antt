-- The lines of the header, and that they are read as its definitions.
use Rattle.std.specs.Prelude.{◌≡◌, ◌++◌, ℕ, Bool, true, false, List, [], ◌∷◌, Option, Some, None, codes, map, if◌then◌else◌}
use Rattle.std.specs.List.{filter_map, list_all}
use Rattle.std.specs.Map.{lookup}
use Rattle.std.specs.Str.{bytes_eq}
use Rattle.edt_base.specs.BoundData.{BoundData}
use Rattle.edt_base.specs.TreeData.{IsWellFormed}
use Rattle.c_tokens.specs.LineData.{LineData}
use Rattle.c_tokens.specs.Lines.{AtEnd, LinesOf}
use Rattle.c_macro.specs.Directive.{Define, Directive, Nothing, all_differ, line_directive}
use Rattle.dt_names.specs.Clash.{is_repeated}
use Rattle.dt_names.specs.Facts.{FactData, facts, full_name}
use Rattle.dt_names.specs.Pieces.{spells}
use Rattle.dt_api.specs.ApiText.{text_of}
use Rattle.dt_api.specs.Defining.{Definition, defined_as}
use Rattle.dt_api.specs.HeaderDefs.{fact_macro, header_macro}
use Rattle.dt_api.specs.HeaderLaw.{HasBytes, define_text}

-- the comment before a definition, where one stands there
abbrev pub heading_rows : Option (List ℕ) → List (List ℕ)
heading_rows None = []
heading_rows (Some title) = (codes "/* " ++ (title ++ codes " */")) ∷ []

-- those of these definitions that have no earlier one's name
abbrev pub if_first : (earlier : List FactData) → FactData → List FactData
if_first earlier f = if is_repeated earlier f then [] else f ∷ []

abbrev pub firsts : (earlier : List FactData) → List FactData → List FactData
firsts earlier [] = []
firsts earlier (f ∷ fs) = if_first earlier f ++ firsts (earlier ++ f ∷ []) fs

-- the lines of these definitions, each without its newline
abbrev pub rows_from : (earlier : List FactData) → List FactData → List (List ℕ)
rows_from earlier [] = []
rows_from earlier (f ∷ fs) =
    heading_rows f.heading ++ (map define_text (if_first earlier f) ++ rows_from (earlier ++ f ∷ []) fs)

-- the lines of a header
abbrev pub header_rows : BoundData → List (List ℕ)
header_rows b = rows_from [] (facts b)

-- a definition's name and its macro
abbrev pub fact_definition : FactData → Definition
fact_definition f = (spells (full_name f), fact_macro f)

-- the header's definitions, each name once
abbrev pub header_definitions : BoundData → List Definition
header_definitions b = map fact_definition (firsts [] (facts b))

-- a line that is blank or defines a name
abbrev pub is_fine : Option Directive → Bool
is_fine (Some Nothing) = true
is_fine (Some (Define name m)) = true
is_fine _ = false

-- the header is read as lines that are blank or define exactly its definitions, no name twice, by which each name has
-- the macro of its first definition
pub record IsHeaderRead (b : BoundData) (lines : List LineData) : Type 0 where
  pub last : ℕ
  pub read : LinesOf (record { rest = text_of (header_rows b); number = 1 }) lines (AtEnd last)
  pub fine : list_all (λ line. is_fine (line_directive line)) lines ≡ true
  pub defined : filter_map (λ line. defined_as (line_directive line)) lines ≡ header_definitions b
  pub differ : all_differ (map (λ (d : Definition). d.0) (header_definitions b)) ≡ true
  pub names : (name : List ℕ) → lookup (bytes_eq name) (header_definitions b) ≡ header_macro b name

abbrev pub HeaderIsRead : Type 0
HeaderIsRead = (b : BoundData) → IsWellFormed b.tree → HasBytes b → (lines : List LineData) × IsHeaderRead b lines
