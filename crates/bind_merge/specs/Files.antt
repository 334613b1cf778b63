-- The listed files as they were read: their base names, their records, and what they include.
use Rattle.std.specs.Prelude.{◌≡◌, ◌⊎◌, ◌+◌, ◌++◌, ℕ, List, [], ◌∷◌, Option, Result, if◌then◌else◌, nat_eq, map}
use Rattle.std.specs.Str.{bytes_eq}
use Rattle.std.specs.Option.{option_map, option_map_or}
use Rattle.std.specs.List.{slice_get}
use Rattle.edt_base.specs.declared.fault.Fault.{Fault}
use Rattle.edt_base.specs.declared.fault.Place.TheVariants as place
use Rattle.edt_base.specs.declared.fault.Rule.{Rule}
use Rattle.bind_load.specs.RecordData.{IncludeData, LevelData}

-- a file: its name, and its record or the first fault that it has by itself
pub record FileData : Type 0 where
  pub name : List ℕ
  pub content : Result (List LevelData) Fault

-- what stands after the last `/` of a text; `base` is the answer so far
abbrev pub base_from : List ℕ → List ℕ → List ℕ
base_from base [] = base
base_from base (c ∷ cs) = base_from (if nat_eq c 47 then cs else base) cs

abbrev pub base_name : List ℕ → List ℕ
base_name name = base_from name name

-- the numbers of the files of this base name, in order, the first file having the number k
abbrev pub named_from : ℕ → List FileData → List ℕ → List ℕ
named_from k [] name = []
named_from k (f ∷ fs) name =
    if bytes_eq (base_name f.name) name then k ∷ named_from (k + 1) fs name else named_from (k + 1) fs name

abbrev pub named_files : List FileData → List ℕ → List ℕ
named_files files name = named_from 0 files name

-- what reading the file of this number gave; None past the last
abbrev pub record_at : List FileData → ℕ → Option (Result (List LevelData) Fault)
record_at files k = option_map (λ (f : FileData). f.content) (slice_get files k)

abbrev pub name_of : List FileData → ℕ → List ℕ
name_of files k = option_map_or (λ (f : FileData). f.name) (slice_get files k) []

-- a rule that a file breaks
abbrev pub file_fault : Rule → List ℕ → Fault
file_fault rule name = record { rule = rule; place = place.File name }

-- an include, and the level at which it stands
abbrev pub at_level : ℕ → List IncludeData → List (ℕ × IncludeData)
at_level m is = map (λ i. (m, i)) is

-- all includes of a record: those of its top in order, then those of each level below
abbrev pub includes_from : ℕ → List LevelData → List (ℕ × IncludeData)
includes_from m [] = []
includes_from m (l ∷ ls) = at_level m l.includes ++ includes_from (m + 1) ls

abbrev pub IsAmong : ℕ × IncludeData → List (ℕ × IncludeData) → Type 0
IsAmong x [] = ⊥
IsAmong x (e ∷ es) = (x ≡ e) ⊎ IsAmong x es
