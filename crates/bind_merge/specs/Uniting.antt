-- How the includes of a file come to what it says itself, one after another.
use Rattle.std.specs.Prelude.{◌≡◌, ℕ, List, [], ◌∷◌, Option, Some}
use Rattle.bind_load.specs.RecordData.{IncludeData}
use Rattle.bind_merge.specs.Files.{FileData, named_files}
use Rattle.bind_merge.specs.Levels.{LevelTable}
use Rattle.bind_merge.specs.Adding.{AddsFrom}

-- `tables` has the merged levels of the included files
pub data Unites (files : List FileData) (tables : ℕ → Option (List LevelTable))
    : List LevelTable → List (ℕ × IncludeData) → List LevelTable → Type 0 where
  all_in : (ts : List LevelTable) → Unites files tables ts [] ts
  next_in : (ts : List LevelTable) (e : ℕ × IncludeData) (es : List (ℕ × IncludeData)) (t : ℕ)
      (included united all : List LevelTable)
      → named_files files e.1.name ≡ t ∷ [] → tables t ≡ Some included → AddsFrom ts e.0 included e.1.filter united
      → Unites files tables united es all → Unites files tables ts (e ∷ es) all
