-- What is known while files are resolved, those of the least height first. A file has a height where it
-- is without fault: the least depth within which it is.
use Rattle.std.specs.Prelude.{◌≡◌, ◌+◌, ◌<◌, ◌≤◌, ℕ, Bool, true, false, List, [], ◌∷◌, Option, Some, None, nat_lt}
use Rattle.std.specs.List.{list_all, slice_set}
use Rattle.bind_load.specs.RecordData.{IncludeData}
use Rattle.bind_merge.specs.Cleanness.{is_clean}
use Rattle.bind_merge.specs.Files.{FileData}
use Rattle.bind_merge.specs.Levels.{LevelTable, OwnData}
use Rattle.bind_merge.specs.declared.reading.Read.{Read}
use Rattle.bind_merge.specs.Inner.Reading.{AreRead, IsClosed, is_read_at, own_at}
use Rattle.bind_merge.specs.Inner.Resolving.{AreNames, AreSettled, Merges, NameData, ResolvedData, named_in, resolved_as, resolved_at}

abbrev pub is_below : ℕ → Option ResolvedData → Bool
is_below h None = false
is_below h (Some r) = nat_lt r.height h

-- an include names one file, which is resolved and of a height below h
abbrev pub is_low : NameData → List (Option ResolvedData) → ℕ → IncludeData → Bool
is_low names resolved h i = is_below h (resolved_as resolved (named_in names i.name))

-- each include of a record does
abbrev pub all_low : NameData → List (Option ResolvedData) → ℕ → List OwnData → Bool
all_low names resolved h own = list_all (λ (l : OwnData). list_all (is_low names resolved h) l.includes) own

-- what resolving the file k at the height h leaves: it isn't read or bad, it was resolved before, an
-- include isn't low, or else it is resolved now
pub data Resolves (names : NameData) (reads : List (Option Read)) (h k : ℕ) (old : List (Option ResolvedData))
    : List (Option ResolvedData) → Type 0 where
  not_good : own_at reads k ≡ None → Resolves names reads h k old old
  before : (r : ResolvedData) → resolved_at old k ≡ Some r → Resolves names reads h k old old
  too_high : (own : List OwnData) → own_at reads k ≡ Some own → all_low names old h own ≡ false
      → Resolves names reads h k old old
  at_once : (own : List OwnData) (levels : Option (List LevelTable)) → own_at reads k ≡ Some own
      → resolved_at old k ≡ None → all_low names old h own ≡ true → Merges names old own levels
      → Resolves names reads h k old (slice_set old k (Some (record { height = h; levels = levels })))

-- a file is resolved, and its height is at most d
pub record IsLow (resolved : List (Option ResolvedData)) (k d : ℕ) : Type 0 where
  pub found : ResolvedData
  pub found_is : resolved_at resolved k ≡ Some found
  pub low : found.height ≤ d

-- the read files of a height below h are resolved, and of the height h those with numbers below n
pub record AreResolvedTo (files : List FileData) (reads : List (Option Read)) (h n : ℕ)
    (resolved : List (Option ResolvedData)) : Type 0 where
  pub settled : AreSettled files resolved
  pub sound : (k : ℕ) (r : ResolvedData) → resolved_at resolved k ≡ Some r
      → (r.height ≤ h) × (is_clean files r.height k ≡ true)
  pub all : (k d : ℕ) → d < h → is_read_at reads k ≡ true → is_clean files d k ≡ true → IsLow resolved k d
  pub here : (k : ℕ) → k < n → is_read_at reads k ≡ true → is_clean files h k ≡ true → IsLow resolved k h

-- the read files of a height below h are resolved, and no others
pub record AreResolved (files : List FileData) (reads : List (Option Read)) (h : ℕ)
    (resolved : List (Option ResolvedData)) : Type 0 where
  pub settled : AreSettled files resolved
  pub sound : (k : ℕ) (r : ResolvedData) → resolved_at resolved k ≡ Some r
      → (r.height < h) × (is_clean files r.height k ≡ true)
  pub all : (k d : ℕ) → d < h → is_read_at reads k ≡ true → is_clean files d k ≡ true → IsLow resolved k d

-- what was resolved holds of all files that the names and the reads are of
abbrev pub AllResolved : NameData → List (Option Read) → ℕ → List (Option ResolvedData) → Type 0
AllResolved names reads h resolved = (files : List FileData) → AreNames files names → AreRead files reads
    → IsClosed names reads → AreResolved files reads h resolved

abbrev pub AllResolvedTo : NameData → List (Option Read) → ℕ → ℕ → List (Option ResolvedData) → Type 0
AllResolvedTo names reads h n resolved = (files : List FileData) → AreNames files names → AreRead files reads
    → IsClosed names reads → AreResolvedTo files reads h n resolved

-- nothing is there
abbrev pub AreNone : {X : Type 0} → List (Option X) → Type 0
AreNone [] = Unit {0}
AreNone (x ∷ xs) = (x ≡ None) × AreNone xs
