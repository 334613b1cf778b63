-- What was read of the listed files, against what they hold.
use Rattle.std.specs.Prelude.{◌≡◌, ℕ, Bool, true, List, [], ◌∷◌, Option, Some, None, Result, Ok, Err, is_some, map}
use Rattle.std.specs.List.{list_all, slice_get}
use Rattle.std.specs.Option.{option_and_then}
use Rattle.edt_base.specs.declared.fault.Fault.{Fault}
use Rattle.bind_load.specs.RecordData.{IncludeData, LevelData}
use Rattle.bind_merge.specs.declared.names.Named.{Named}
use Rattle.bind_merge.specs.declared.names.Named.TheVariants.{One, Several}
use Rattle.bind_merge.specs.declared.reading.Read.{Read}
use Rattle.bind_merge.specs.declared.reading.Read.TheVariants.{Good, Bad}
use Rattle.bind_merge.specs.Files.{FileData, record_at}
use Rattle.bind_merge.specs.Levels.{OwnData, own_level}
use Rattle.bind_merge.specs.Inner.Resolving.{NameData, named_in}

-- its record, level by level, or its fault
abbrev pub IsReadOf : Read → Result (List LevelData) Fault → Type 0
IsReadOf (Good own) content = (ls : List LevelData) × (content ≡ Ok ls) × (map own_level ls ≡ own.items)
IsReadOf (Bad f) content = content ≡ Err f

-- what was read of the file of this number
abbrev pub read_at : List (Option Read) → ℕ → Option Read
read_at reads k = option_and_then (λ r. r) (slice_get reads k)

-- what was read of a file is what it holds
pub record IsReadAt (files : List FileData) (k : ℕ) (r : Read) : Type 0 where
  pub content : Result (List LevelData) Fault
  pub content_is : record_at files k ≡ Some content
  pub read : IsReadOf r content

abbrev pub AreRead : List FileData → List (Option Read) → Type 0
AreRead files reads = (k : ℕ) (r : Read) → read_at reads k ≡ Some r → IsReadAt files k r

abbrev pub is_read_at : List (Option Read) → ℕ → Bool
is_read_at reads k = is_some (read_at reads k)

-- the one file that is named is read, if there is one
abbrev pub is_read_as : List (Option Read) → Option Named → Bool
is_read_as reads (Some (One k)) = is_read_at reads k
is_read_as reads _ = true

abbrev pub leads_to_read : NameData → List (Option Read) → IncludeData → Bool
leads_to_read names reads i = is_read_as reads (named_in names i.name)

-- each file that a record includes is read
abbrev pub all_read : NameData → List (Option Read) → List OwnData → Bool
all_read names reads own = list_all (λ (l : OwnData). list_all (leads_to_read names reads) l.includes) own

abbrev pub own_in : Read → Option (List OwnData)
own_in (Good own) = Some own.items
own_in (Bad f) = None

-- the good record that was read of a file
abbrev pub own_at : List (Option Read) → ℕ → Option (List OwnData)
own_at reads k = option_and_then own_in (read_at reads k)

-- each file that a read one includes is read
abbrev pub IsClosed : NameData → List (Option Read) → Type 0
IsClosed names reads = (k : ℕ) (own : List OwnData) → own_at reads k ≡ Some own → all_read names reads own ≡ true
