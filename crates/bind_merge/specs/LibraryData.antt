-- A library as contracts see it.
use Rattle.std.specs.Prelude.{ℕ, List, [], ◌∷◌, if◌then◌else◌, nat_eq}
use Rattle.bind_merge.specs.Listing.{File}
use Rattle.bind_merge.specs.Levels.{LevelTable}

-- a matching binding: its file, and the merged binding, level by level
pub record BindingData : Type 0 where
  pub file : ℕ
  pub levels : List LevelTable

-- the listed files, and the matching bindings of the last load, in list order
pub record LibData : Type 0 where
  pub files : List File
  pub bindings : List BindingData

-- the merged binding of a file
abbrev pub levels_of : List BindingData → ℕ → List LevelTable
levels_of [] k = []
levels_of (b ∷ bs) k = if nat_eq b.file k then b.levels else levels_of bs k
