-- Which files are without fault within a depth, told bottom up: a file is where its record is good and
-- each include names one file that is without fault within one less.
use Rattle.std.specs.Prelude.{ℕ, zero, suc, Bool, true, false, List, [], ◌∷◌, Option, Some, None, Result, Ok, Err}
use Rattle.std.specs.List.{list_all}
use Rattle.edt_base.specs.declared.fault.Fault.{Fault}
use Rattle.bind_load.specs.RecordData.{IncludeData, LevelData}
use Rattle.bind_merge.specs.Files.{FileData, record_at, named_files, includes_from}

abbrev pub the_one : (ℕ → Bool) → List ℕ → Bool
the_one test [] = false
the_one test (t ∷ []) = test t
the_one test (t ∷ u ∷ ts) = false

abbrev pub clean_include : List FileData → (ℕ → Bool) → ℕ × IncludeData → Bool
clean_include files test e = the_one test (named_files files e.1.name)

abbrev pub clean_record : List FileData → (ℕ → Bool) → Option (Result (List LevelData) Fault) → Bool
clean_record files test None = true
clean_record files test (Some (Err f)) = false
clean_record files test (Some (Ok ls)) = list_all (clean_include files test) (includes_from 0 ls)

abbrev pub is_clean : List FileData → ℕ → ℕ → Bool
is_clean files zero k = clean_record files (λ t. false) (record_at files k)
is_clean files (suc d) k = clean_record files (is_clean files d) (record_at files k)
