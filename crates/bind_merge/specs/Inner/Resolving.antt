-- What is known while files are resolved: the listed files by their base names, and what was resolved.
use Rattle.std.specs.Prelude.{◌≡◌, ◌+◌, ◌++◌, ℕ, Bool, List, [], ◌∷◌, Option, Some, None, Ok, is_some, map}
use Rattle.std.specs.List.{list_all, slice_get}
use Rattle.std.specs.Map.{lookup}
use Rattle.std.specs.Option.{option_and_then}
use Rattle.std.specs.Str.{bytes_eq}
use Rattle.bind_load.specs.RecordData.{IncludeData, LevelData}
use Rattle.bind_merge.specs.declared.names.Named.{Named}
use Rattle.bind_merge.specs.declared.names.Named.TheVariants.{One, Several}
use Rattle.bind_merge.specs.Conflicts.{HasConflict}
use Rattle.bind_merge.specs.Files.{FileData, record_at, named_files, at_level}
use Rattle.bind_merge.specs.Levels.{LevelTable, OwnData, own_level}
use Rattle.bind_merge.specs.Merging.{IsMerged}

-- base names, each with what it names
abbrev pub NameData : Type 0
NameData = List (List ℕ × Named)

-- what a base name names
abbrev pub named_in : NameData → List ℕ → Option Named
named_in names base = lookup (bytes_eq base) names

-- the files of one base name, told
abbrev pub told : List ℕ → Option Named
told [] = None
told (k ∷ []) = Some (One k)
told (k ∷ l ∷ ks) = Some Several

-- these are the base names of the files
abbrev pub AreNames : List FileData → NameData → Type 0
AreNames files names = (base : List ℕ) → named_in names base ≡ told (named_files files base)

-- what was resolved of a file: how many includes follow below one another at most, and its merged
-- levels; None where it, or a file that it includes at any depth, is in conflict
pub record ResolvedData : Type 0 where
  pub height : ℕ
  pub levels : Option (List LevelTable)

abbrev pub IsSettled : List FileData → ℕ → Option (List LevelTable) → Type 0
IsSettled files k (Some levels) = IsMerged files k levels × (HasConflict files k → ⊥)
IsSettled files k None = HasConflict files k

-- what was resolved of the file of this number
abbrev pub resolved_at : List (Option ResolvedData) → ℕ → Option ResolvedData
resolved_at resolved k = option_and_then (λ r. r) (slice_get resolved k)

-- all that was resolved is what the files hold
abbrev pub AreSettled : List FileData → List (Option ResolvedData) → Type 0
AreSettled files resolved = (k : ℕ) (r : ResolvedData) → resolved_at resolved k ≡ Some r → IsSettled files k r.levels

-- all includes of a record, with their levels
abbrev pub own_includes : ℕ → List OwnData → List (ℕ × IncludeData)
own_includes m [] = []
own_includes m (l ∷ ls) = at_level m l.includes ++ own_includes (m + 1) ls

-- what was resolved of the one file that is named
abbrev pub resolved_as : List (Option ResolvedData) → Option Named → Option ResolvedData
resolved_as resolved (Some (One k)) = resolved_at resolved k
resolved_as resolved _ = None

-- what was resolved of the one file that an include names
abbrev pub found_by : NameData → List (Option ResolvedData) → ℕ × IncludeData → Option ResolvedData
found_by names resolved e = resolved_as resolved (named_in names e.1.name)

-- an include names one file, which is resolved
abbrev pub is_ready : NameData → List (Option ResolvedData) → ℕ × IncludeData → Bool
is_ready names resolved e = is_some (found_by names resolved e)

-- each include of a record does
abbrev pub are_ready : NameData → List (Option ResolvedData) → List OwnData → Bool
are_ready names resolved own = list_all (is_ready names resolved) (own_includes 0 own)

-- what merging a record with what was resolved gives: the file's merged levels, or None for a conflict
abbrev pub Merges : NameData → List (Option ResolvedData) → List OwnData → Option (List LevelTable) → Type 0
Merges names resolved own levels = (files : List FileData) (k : ℕ) (record_levels : List LevelData)
    → AreNames files names → AreSettled files resolved
    → record_at files k ≡ Some (Ok record_levels) → map own_level record_levels ≡ own
    → IsSettled files k levels
