-- What a file holds: what its own record says, and what the files hold that it includes, as far as
-- the include's filter lets it through.
use Rattle.std.specs.Prelude.{◌≡◌, ◌-◌, ◌≤◌, ℕ, true, List, [], ◌∷◌, Some, Ok}
use Rattle.std.specs.List.{slice_get}
use Rattle.bind_load.specs.RecordData.{IncludeData, LevelData}
use Rattle.bind_merge.specs.Facts.{Fact, Says}
use Rattle.bind_merge.specs.Passing.{lets}
use Rattle.bind_merge.specs.Files.{FileData, record_at, named_files, includes_from, IsAmong}
use Rattle.bind_merge.specs.Levels.{own_table}

-- file k includes file t at level m: t is the one listed file of the included base name
pub record Includes (files : List FileData) (k m : ℕ) (i : IncludeData) (t : ℕ) : Type 0 where
  pub levels : List LevelData
  pub record_is : record_at files k ≡ Some (Ok levels)
  pub among : IsAmong (m, i) (includes_from 0 levels)
  pub names : named_files files i.name ≡ t ∷ []

-- the own record of file k says a fact n levels down
pub record SaysItself (files : List FileData) (k n : ℕ) (f : Fact) : Type 0 where
  pub levels : List LevelData
  pub level : LevelData
  pub record_is : record_at files k ≡ Some (Ok levels)
  pub level_is : slice_get levels n ≡ Some level
  pub says : Says (own_table level) f

-- file k holds a fact n child-binding steps down
pub data Holds (files : List FileData) : ℕ → ℕ → Fact → Type 0 where
  itself : (k n : ℕ) (f : Fact) → SaysItself files k n f → Holds files k n f
  by_include : (k n : ℕ) (f : Fact) (m : ℕ) (i : IncludeData) (t : ℕ)
      → Includes files k m i t → m ≤ n → lets (slice_get i.filter (n - m)) f ≡ true
      → Holds files t (n - m) f → Holds files k n f
