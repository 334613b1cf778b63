-- What the steps of loading leave.
use Rattle.std.specs.Prelude.{◌≡◌, ◌⊎◌, ◌&&◌, ℕ, Bool, true, false, List, [], ◌∷◌, Option, Some, None, Result, Ok, Err, length, map}
use Rattle.std.specs.List.{list_all}
use Rattle.std.specs.Option.{option_and_then, option_map_or}
use Rattle.edt_base.specs.declared.fault.Fault.{Fault}
use Rattle.edt_base.specs.declared.fault.End.{End}
use Rattle.edt_base.specs.declared.fault.End.TheVariants as ending
use Rattle.edt_base.specs.declared.fault.Rule.TheVariants as rule
use Rattle.yaml_profile.specs.Reading.{reading}
use Rattle.bind_merge.specs.Checks.{merged_rule}
use Rattle.bind_merge.specs.Files.{file_fault}
use Rattle.bind_merge.specs.Levels.{LevelTable}
use Rattle.bind_merge.specs.LibraryData.{BindingData}
use Rattle.bind_merge.specs.Listing.{File, read_files, record_from}
use Rattle.bind_merge.specs.Loading.{is_matching, matching, text_fault}
use Rattle.bind_merge.specs.Matching.{compatible_at, compatible_in}
use Rattle.bind_merge.specs.Options.{first_some}
use Rattle.bind_merge.specs.declared.matching.Found.{Found}
use Rattle.bind_merge.specs.declared.matching.Match.{Match}
use Rattle.bind_merge.specs.declared.reading.Read.{Read}
use Rattle.bind_merge.specs.Inner.Reading.{AreRead, IsReadOf, is_read_at}
use Rattle.bind_merge.specs.Inner.Resolving.{ResolvedData, resolved_at}
use Rattle.bind_merge.specs.Inner.Spreading.{is_among}

-- what step one makes of a file: nothing, a matching binding, or its fault as text
abbrev pub IsMatched : List (List ℕ) → File → Result (Option Found) End → Type 0
IsMatched compats f (Ok None) = (text_fault compats f ≡ None) × (is_matching compats f ≡ false)
IsMatched compats f (Ok (Some found)) = (text_fault compats f ≡ None) × (is_matching compats f ≡ true)
    × (compatible_in (reading f.1) ≡ Some found.compatible) × IsReadOf found.read (record_from f.0 (reading f.1))
IsMatched compats f (Err (ending.Fault fault)) = text_fault compats f ≡ Some fault
IsMatched compats f (Err (ending.Memory e)) = Unit {0}

abbrev pub numbers_of : List Match → List ℕ
numbers_of ms = map (λ (m : Match). m.file) ms

-- each has the compatible string of its file
abbrev pub AreStrings : List File → List Match → Type 0
AreStrings files [] = Unit {0}
AreStrings files (m ∷ ms) = (compatible_at files m.file ≡ Some m.compatible) × AreStrings files ms

-- step one is done with the first of the files
pub record HasMatched (files done : List File) (compats : List (List ℕ)) (matches : List Match)
    (reads : List (Option Read)) : Type 0 where
  pub texts : first_some (text_fault compats) done ≡ None
  pub numbers : numbers_of matches ≡ matching compats done
  pub strings : AreStrings files matches
  pub long : length reads ≡ length files
  pub sound : AreRead (read_files files) reads
  pub only : (k : ℕ) → is_read_at reads k ≡ true → is_among (numbers_of matches) k ≡ true
  pub all : list_all (is_read_at reads) (numbers_of matches) ≡ true

-- the merged levels of a file
abbrev pub levels_in : Option ResolvedData → List LevelTable
levels_in None = []
levels_in (Some r) = option_map_or (λ ls. ls) r.levels []

abbrev pub binding_at : List (Option ResolvedData) → ℕ → BindingData
binding_at resolved k = record { file = k; levels = levels_in (resolved_at resolved k) }

abbrev pub bindings_at : List (Option ResolvedData) → List ℕ → List BindingData
bindings_at resolved ks = map (binding_at resolved) ks

-- what was resolved of a file is without conflict and keeps the rules of a merged binding
abbrev pub KeepsRules : Option (List LevelTable) → Type 0
KeepsRules None = ⊥
KeepsRules (Some ls) = merged_rule ls ≡ None

-- or else the first rule that it breaks, B11 before those of the merged binding
abbrev pub BreaksRule : List ℕ → Option (List LevelTable) → Fault → Type 0
BreaksRule name None f = f ≡ file_fault rule.B11 name
BreaksRule name (Some ls) f = (merged_rule ls ≡ Some f.rule) × (f ≡ file_fault f.rule name)
