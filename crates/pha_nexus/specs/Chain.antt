-- The chain of rows along which a specifier is followed from nexus node to nexus node.
use Rattle.std.specs.Prelude.{◌≡◌, ◌<◌, ◌+◌, ◌++◌, ℕ, zero, suc, true, List, [], ◌∷◌, Some, None, Result, Ok, Err, All, length}
use Rattle.std.specs.Option.{option_map_or}
use Rattle.edt_base.specs.NodeData.{NodeData}
use Rattle.edt_base.specs.declared.fault.Rule.{Rule}
use Rattle.edt_base.specs.declared.fault.Rule.TheVariants as rule
use Rattle.edt_base.specs.declared.node.Part.{Part}
use Rattle.pha_nexus.specs.Passing.{Hop, is_as_long, masked, passed_at, sent}
use Rattle.pha_nexus.specs.Rows.{Row, rows_of}
use Rattle.pha_nexus.specs.Space.{map_at, mask_at, pass_at}

-- at most so many rows are taken
abbrev pub most_rows : ℕ
most_rows = 16

-- What follows is told twice: as lists of rows, and as a function for those who go on with its answer. That both tell
-- the same is the law `specifiers_are_followed_along_chains`.

-- Lists of rows

-- the mask and the pass-through of the node at a place have the specifier's length
pub record AreFitting (nodes : List NodeData) (space : List ℕ) (at : ℕ) (spec : List ℕ) : Type 0 where
  pub mask : is_as_long spec (mask_at nodes space at) ≡ true
  pub pass : is_as_long spec (pass_at nodes space at) ≡ true

-- a row is whole, and is for other cells
abbrev pub IsOther : List ℕ → Result Row Rule → Type 0
IsOther cells (Ok row) = row.child ≡ cells → ⊥
IsOther cells (Err broken) = ⊥

-- rows before, none of which is for these cells, then this one, and others behind, whatever they are
pub record IsFirst (cells : List ℕ) (rows : List (Result Row Rule)) (one : Result Row Rule) : Type 0 where
  pub before : List (Result Row Rule)
  pub behind : List (Result Row Rule)
  pub cut : rows ≡ before ++ one ∷ behind
  pub others : All (IsOther cells) before

-- the row is taken by a specifier at the node at a place: it is the first whose child cells are the masked specifier
pub record IsTaken (nodes : List NodeData) (space : List ℕ) (at : ℕ) (spec : List ℕ) (row : Row) : Type 0 where
  pub map : List Part
  pub there : map_at nodes space at ≡ Some map
  pub fitting : AreFitting nodes space at spec
  pub first : IsFirst (masked spec (mask_at nodes space at)) (rows_of nodes space (length spec) map) (Ok row)
  pub same : row.child ≡ masked spec (mask_at nodes space at)

-- these rows are taken one after the other, and lead from a node and a specifier to a node and a specifier
abbrev pub IsChain : List NodeData → List ℕ → ℕ → List ℕ → List Row → ℕ → List ℕ → Type 0
IsChain nodes space at spec [] last end = (at ≡ last) × (spec ≡ end)
IsChain nodes space at spec (row ∷ rows) last end = IsTaken nodes space at spec row
    × IsChain nodes space row.node (sent spec (pass_at nodes space at) row.parent) rows last end

-- a specifier at a start ends as another at the last node, which has no map
pub record Ends (nodes : List NodeData) (space : List ℕ) (start : ℕ) (spec : List ℕ) (last : ℕ) (end : List ℕ)
    : Type 0 where
  pub rows : List Row
  pub few : length rows < most_rows + 1
  pub chain : IsChain nodes space start spec rows last end
  pub no_map : map_at nodes space last ≡ None

-- this rule is the first that is broken at the map of a node, before a row is taken: a mask or a pass-through doesn't
-- fit, a row is at fault, or all rows are for other cells
pub data IsBrokenAt (nodes : List NodeData) (space : List ℕ) (at : ℕ) (spec : List ℕ) (map : List Part)
    : Rule → Type 0 where
  unfit : (AreFitting nodes space at spec → ⊥) → IsBrokenAt nodes space at spec map rule.V28
  in_row : (broken : Rule) → AreFitting nodes space at spec
      → IsFirst (masked spec (mask_at nodes space at)) (rows_of nodes space (length spec) map) (Err broken)
      → IsBrokenAt nodes space at spec map broken
  no_row : AreFitting nodes space at spec
      → All (IsOther (masked spec (mask_at nodes space at))) (rows_of nodes space (length spec) map)
      → IsBrokenAt nodes space at spec map rule.V27

-- a specifier at a start comes to a map at which this rule is broken, or to one more when as many rows are taken as
-- may be
pub data Breaks (nodes : List NodeData) (space : List ℕ) (start : ℕ) (spec : List ℕ) : Rule → Type 0 where
  on_the_way : (rows : List Row) (last : ℕ) (end : List ℕ) (map : List Part) (broken : Rule) → length rows < most_rows
      → IsChain nodes space start spec rows last end → map_at nodes space last ≡ Some map
      → IsBrokenAt nodes space last end map broken → Breaks nodes space start spec broken
  too_far : (rows : List Row) (last : ℕ) (end : List ℕ) (map : List Part) → length rows ≡ most_rows
      → IsChain nodes space start spec rows last end → map_at nodes space last ≡ Some map
      → Breaks nodes space start spec rule.V29

-- The function

-- a step more, where there is one
abbrev pub onward : Result Hop Rule → (Hop → Result Hop Rule) → Result Hop Rule
onward (Err broken) more = Err broken
onward (Ok hop) more = more hop

-- where a specifier at a node ends when so many rows more may be taken, or the first rule that is broken on the way
unfoldable pub followed_within : ℕ → List NodeData → List ℕ → ℕ → List ℕ → Result Hop Rule
followed_within zero nodes space at spec =
    option_map_or (λ map. Err rule.V29) (map_at nodes space at) (Ok (record { node = at; spec = spec }))
followed_within (suc left) nodes space at spec = option_map_or
    (λ map. onward (passed_at nodes space at spec map) (λ hop. followed_within left nodes space hop.node hop.spec))
    (map_at nodes space at) (Ok (record { node = at; spec = spec }))

-- the same from the start: `Ok` exactly where it `Ends`, the rule exactly where it `Breaks` this one first
abbrev pub followed : List NodeData → List ℕ → ℕ → List ℕ → Result Hop Rule
followed nodes space start spec = followed_within most_rows nodes space start spec
