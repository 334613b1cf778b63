-- How the levels of an included file come to those of the including one.
use Rattle.std.specs.Prelude.{◌≡◌, ◌⊎◌, ◌+◌, ℕ, Bool, true, false, List, [], ◌∷◌, Option, Some, None, suc}
use Rattle.bind_load.specs.RecordData.{FilterLevel}
use Rattle.bind_merge.specs.Facts.{Setting, Fact, Says, Clash, IsGiven}
use Rattle.bind_merge.specs.Levels.{EntryData, LevelTable, OwnData}
use Rattle.bind_merge.specs.Ordered.{Rises, SaysAt}
use Rattle.bind_merge.specs.Passing.{lets}
use Rattle.std.specs.List.{slice_get}
use Rattle.bind_merge.specs.Joining.{JoinsLevel, passed}

abbrev pub top_filter : List FilterLevel → Option FilterLevel
top_filter [] = None
top_filter (f ∷ fs) = Some f

abbrev pub filter_below : List FilterLevel → List FilterLevel
filter_below [] = []
filter_below (f ∷ fs) = fs

-- a level comes to those that are there: behind the last, or joined with the one at its place
pub data AddsAt : List LevelTable → ℕ → LevelTable → List LevelTable → Type 0 where
  behind : (l : LevelTable) → AddsAt [] 0 l (l ∷ [])
  onto : (a : LevelTable) (rest : List LevelTable) (l j : LevelTable)
      → JoinsLevel a l j → AddsAt (a ∷ rest) 0 l (j ∷ rest)
  below : (a : LevelTable) (rest : List LevelTable) (n : ℕ) (l : LevelTable) (js : List LevelTable)
      → AddsAt rest n l js → AddsAt (a ∷ rest) (suc n) l (a ∷ js)

-- the levels of an included file come to those that are there, the first of them at level n, as far
-- as the filter lets them through
pub data AddsFrom : List LevelTable → ℕ → List LevelTable → List FilterLevel → List LevelTable → Type 0 where
  no_more : (rest : List LevelTable) (n : ℕ) (filter : List FilterLevel) → AddsFrom rest n [] filter rest
  one_more : (rest : List LevelTable) (n : ℕ) (l : LevelTable) (ls : List LevelTable) (filter : List FilterLevel)
      (bs cs : List LevelTable)
      → AddsAt rest n (passed (top_filter filter) l) bs → AddsFrom bs (suc n) ls (filter_below filter) cs
      → AddsFrom rest n (l ∷ ls) filter cs

-- a fact that an included file, the first level of which comes to level k, brings to level n
pub record Brought (k : ℕ) (ls : List LevelTable) (fs : List FilterLevel) (n : ℕ) (f : Fact) : Type 0 where
  pub step : ℕ
  pub place : n ≡ k + step
  pub says : SaysAt ls step f
  pub passes : lets (slice_get fs step) f ≡ true

-- a fact of the levels that are there, or one that is brought
abbrev pub Either : List LevelTable → ℕ → List LevelTable → List FilterLevel → ℕ → Fact → Type 0
Either ts k ls fs n f = SaysAt ts n f ⊎ Brought k ls fs n f

-- two values of one key come together
pub record ClashFrom (ts : List LevelTable) (k : ℕ) (ls : List LevelTable) (fs : List FilterLevel) : Type 0 where
  pub step : ℕ
  pub one : Fact
  pub other : Fact
  pub says_one : Either ts k ls fs step one
  pub says_other : Either ts k ls fs step other
  pub clash : Clash one other

pub record ClashAt (ts : List LevelTable) (k : ℕ) (l : LevelTable) : Type 0 where
  pub one : Fact
  pub other : Fact
  pub says_one : SaysAt ts k one
  pub says_other : Says l other
  pub clash : Clash one other

-- what the answer of adding says: the levels came, or two values of one key came together
abbrev pub Comes : Bool → List LevelTable → ℕ → List LevelTable → List FilterLevel → List LevelTable → Type 0
Comes true ts k ls fs us = AddsFrom ts k ls fs us
Comes false ts k ls fs us = ClashFrom ts k ls fs

abbrev pub ComesAt : Bool → List LevelTable → ℕ → LevelTable → List LevelTable → Type 0
ComesAt true ts k l us = AddsAt ts k l us
ComesAt false ts k l us = ClashAt ts k l

-- the entries in order
pub record IsSortedOf (es : List EntryData) (sorted : List EntryData) : Type 0 where
  pub rises : Rises sorted
  pub given : (p : List ℕ) (s : Setting) → IsGiven sorted p s → IsGiven es p s
  pub all : (p : List ℕ) (s : Setting) → IsGiven es p s → IsGiven sorted p s

-- what a level says, with its entries in order
pub record IsTableOf (own table : LevelTable) : Type 0 where
  pub described : table.described ≡ own.described
  pub buses : table.buses ≡ own.buses
  pub on_bus : table.on_bus ≡ own.on_bus
  pub spaces : IsSortedOf own.spaces table.spaces
  pub props : IsSortedOf own.props table.props

abbrev pub AreTablesOf : List OwnData → List LevelTable → Type 0
AreTablesOf [] [] = Unit {0}
AreTablesOf (o ∷ os) (t ∷ ts) = IsTableOf o.table t × AreTablesOf os ts
AreTablesOf _ _ = ⊥
