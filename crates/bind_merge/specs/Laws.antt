-- The laws on which resolving each file once rests.
use Rattle.std.specs.Prelude.{◌≡◌, ◌↔◌, ℕ, true, false, List, [], ◌∷◌, Option, Some, None, Ok, map}
use Rattle.bind_load.specs.RecordData.{LevelData}
use Rattle.bind_merge.specs.Cleanness.{is_clean}
use Rattle.bind_merge.specs.Conflicts.{HasConflict}
use Rattle.bind_merge.specs.Files.{FileData, record_at, includes_from}
use Rattle.bind_merge.specs.Levels.{LevelTable, own_level}
use Rattle.bind_merge.specs.Adding.{AreTablesOf}
use Rattle.bind_merge.specs.Uniting.{Unites}
use Rattle.bind_merge.specs.Merging.{IsMerged}
use Rattle.bind_merge.specs.Walks.{walk}

-- no file on this way is without fault within the depth
abbrev pub NoneClean : List FileData → ℕ → List ℕ → Type 0
NoneClean files d [] = Unit {0}
NoneClean files d (p ∷ ps) = (is_clean files d p ≡ false) × NoneClean files d ps

-- A walk that follows at most d includes below one another meets no fault exactly where the file is
-- without fault within the depth d, which is told bottom up, each file once.
abbrev pub WalksOnce : Type 0
WalksOnce = (d : ℕ) (files : List FileData) (k : ℕ) → (is_clean files d k ≡ true) ↔ (walk d files [] k ≡ None)

-- So a file that is met again, where it fits in the depth that is left, is without fault whatever the
-- way on which one came, no file of which fits.
abbrev pub MetAgain : Type 0
MetAgain = (d : ℕ) (files : List FileData) (path : List ℕ) (k : ℕ)
    → is_clean files d k ≡ true → NoneClean files d path → walk d files path k ≡ None

-- The levels of a file's own record with the merged levels of the files that it includes, each taken
-- once and in order, are its merged binding, and neither it nor what it includes is in conflict.
abbrev pub MergesOnce : Type 0
MergesOnce = (files : List FileData) (tables : ℕ → Option (List LevelTable))
    → ((t : ℕ) (ls : List LevelTable) → tables t ≡ Some ls → IsMerged files t ls × (HasConflict files t → ⊥))
    → (k : ℕ) (levels : List LevelData) → record_at files k ≡ Some (Ok levels)
    → (own united : List LevelTable) → AreTablesOf (map own_level levels) own
    → Unites files tables own (includes_from 0 levels) united
    → IsMerged files k united × (HasConflict files k → ⊥)
