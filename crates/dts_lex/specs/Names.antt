-- Paths as references have them: nodes' names with a slash before each.
use Rattle.std.specs.Prelude.{ℕ, Bool, true, false, ◌&&◌, List, [], ◌∷◌, Option, Some, None, nat_eq, if◌then◌else◌}
use Rattle.edt_base.specs.Ascii.{at_sign, slash}
use Rattle.edt_base.specs.SourceBytes.{is_node_byte}
use Rattle.dts_lex.specs.declared.names.Row.{Row}
use Rattle.dts_lex.specs.declared.names.Row.TheVariants.{Slash, Word, At, Unit}

-- where one more byte leads in a row of nodes' names with a slash before each: after a slash, in a word, after its `@`,
-- in a unit address
abbrev pub row_step : Row → ℕ → Option Row
row_step Slash b = if is_node_byte b then Some Word else None
row_step Word b = if is_node_byte b then Some Word else if nat_eq b at_sign then Some At else if nat_eq b slash
    then Some Slash else None
row_step At b = if is_node_byte b then Some Unit else None
row_step Unit b = if is_node_byte b then Some Unit else if nat_eq b slash then Some Slash else None

-- a row ends after a name
abbrev pub row_ends : Row → Bool
row_ends Slash = false
row_ends Word = true
row_ends At = false
row_ends Unit = true

abbrev pub is_row : Row → List ℕ → Bool
is_row k [] = row_ends k
is_row k (b ∷ rest) = elim (row_step k b) [ None ↦ false | Some next ↦ is_row next rest ]

-- the root's path, or nodes' names with a slash before each
abbrev pub is_path : List ℕ → Bool
is_path [] = false
is_path (b ∷ []) = nat_eq b slash
is_path (b ∷ c ∷ rest) = nat_eq b slash && is_row Slash (c ∷ rest)
