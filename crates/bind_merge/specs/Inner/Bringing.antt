-- The includes of a record bring the levels of their files, one after another, or one of them can't.
use Rattle.std.specs.Prelude.{◌≡◌, ◌⊎◌, ℕ, Bool, true, false, List, [], ◌∷◌, Option, Some, None}
use Rattle.bind_load.specs.RecordData.{IncludeData}
use Rattle.bind_merge.specs.Levels.{LevelTable}
use Rattle.bind_merge.specs.Adding.{AddsFrom, ClashFrom}
use Rattle.bind_merge.specs.Inner.Resolving.{NameData, ResolvedData, found_by}

module _ (names : NameData) (resolved : List (Option ResolvedData)) where
  -- what an include names was merged, and its levels come to those that are there
  pub record Brings (ts : List LevelTable) (e : ℕ × IncludeData) (us : List LevelTable) : Type 0 where
    pub found : ResolvedData
    pub found_is : found_by names resolved e ≡ Some found
    pub levels : List LevelTable
    pub levels_are : found.levels ≡ Some levels
    pub adds : AddsFrom ts e.0 levels e.1.filter us

  -- what an include names is in conflict
  pub record IsSpoiled (e : ℕ × IncludeData) : Type 0 where
    pub found : ResolvedData
    pub found_is : found_by names resolved e ≡ Some found
    pub levels_are : found.levels ≡ None

  -- what an include names was merged, and says another value of a key than the levels that are there
  pub record Collides (ts : List LevelTable) (e : ℕ × IncludeData) : Type 0 where
    pub found : ResolvedData
    pub found_is : found_by names resolved e ≡ Some found
    pub levels : List LevelTable
    pub levels_are : found.levels ≡ Some levels
    pub clash : ClashFrom ts e.0 levels e.1.filter

  -- what bringing one include answers
  abbrev pub BringsIf : Bool → List LevelTable → ℕ × IncludeData → List LevelTable → Type 0
  BringsIf true ts e us = Brings ts e us
  BringsIf false ts e us = IsSpoiled e ⊎ Collides ts e

  -- all includes bring what they have, or one of them can't where those before it have
  pub data BringsAll : Bool → List LevelTable → List (ℕ × IncludeData) → List LevelTable → Type 0 where
    ends : (ts : List LevelTable) → BringsAll true ts [] ts
    goes_on : (b : Bool) (ts : List LevelTable) (e : ℕ × IncludeData) (us : List LevelTable)
        (es : List (ℕ × IncludeData)) (vs : List LevelTable)
        → Brings ts e us → BringsAll b us es vs → BringsAll b ts (e ∷ es) vs
    stops : (ts : List LevelTable) (e : ℕ × IncludeData) (es : List (ℕ × IncludeData)) (vs : List LevelTable)
        → IsSpoiled e ⊎ Collides ts e → BringsAll false ts (e ∷ es) vs
