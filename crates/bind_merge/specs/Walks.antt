-- The walk over a binding and its includes, and the first fault that it meets.
use Rattle.std.specs.Prelude.{◌||◌, ℕ, Bool, true, false, List, [], ◌∷◌, Option, Some, None, Result, Ok, Err, zero, suc, nat_eq}
use Rattle.std.specs.List.{list_any}
use Rattle.edt_base.specs.declared.fault.Fault.{Fault}
use Rattle.edt_base.specs.declared.fault.Rule.TheVariants as rule
use Rattle.bind_load.specs.RecordData.{IncludeData, LevelData}
use Rattle.bind_merge.specs.Options.{or_else, first_some}
use Rattle.bind_merge.specs.Files.{FileData, record_at, named_files, includes_from, file_fault, name_of}

-- the fault where the test is met
abbrev pub fault_if : Bool → Fault → Option Fault
fault_if true f = Some f
fault_if false f = None

abbrev pub is_several : List ℕ → Bool
is_several [] = false
is_several (t ∷ []) = false
is_several (t ∷ u ∷ ts) = true

-- no file has the included name, the file is among those through which one came here, or it is too deep
abbrev pub is_barred : Bool → List ℕ → List ℕ → Bool
is_barred deep path [] = true
is_barred deep path (t ∷ ts) = deep || list_any (nat_eq t) path

abbrev pub follow : (ℕ → Option Fault) → List ℕ → Option Fault
follow rest [] = None
follow rest (t ∷ ts) = rest t

-- several files have an include's base name; it is barred; the fault that follows it
abbrev pub is_double : List FileData → ℕ × IncludeData → Bool
is_double files e = is_several (named_files files e.1.name)

abbrev pub is_closed : List FileData → Bool → List ℕ → ℕ × IncludeData → Bool
is_closed files deep path e = is_barred deep path (named_files files e.1.name)

abbrev pub fault_below : List FileData → (ℕ → Option Fault) → ℕ × IncludeData → Option Fault
fault_below files rest e = follow rest (named_files files e.1.name)

-- the faults of a file with this record: B14 over all its includes, B9 over all its includes, then
-- those of the includes, each in order; `path` are the files through which one came here, itself first
abbrev pub record_walk : List FileData → Bool → (ℕ → Option Fault) → List ℕ → List ℕ → List LevelData → Option Fault
record_walk files deep rest path name levels =
    or_else (fault_if (list_any (is_double files) (includes_from 0 levels)) (file_fault rule.B14 name))
    (or_else (fault_if (list_any (is_closed files deep path) (includes_from 0 levels)) (file_fault rule.B9 name))
    (first_some (fault_below files rest) (includes_from 0 levels)))

abbrev pub file_walk : List FileData → Bool → (ℕ → Option Fault) → List ℕ → List ℕ
    → Option (Result (List LevelData) Fault) → Option Fault
file_walk files deep rest path name None = None
file_walk files deep rest path name (Some (Err f)) = Some f
file_walk files deep rest path name (Some (Ok levels)) = record_walk files deep rest path name levels

-- the first fault of file k and its includes, where at most d of them may follow below one another
abbrev pub walk : ℕ → List FileData → List ℕ → ℕ → Option Fault
walk zero files path k = file_walk files true (λ t. None) (k ∷ path) (name_of files k) (record_at files k)
walk (suc d) files path k =
    file_walk files false (walk d files (k ∷ path)) (k ∷ path) (name_of files k) (record_at files k)

-- the first fault of a binding's walk: 16 includes may follow below one another
unfoldable pub binding_walk : List FileData → ℕ → Option Fault
binding_walk files k = walk 16 files [] k
