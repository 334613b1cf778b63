-- What loading answers: the matching bindings, each merged, or the first fault.
use Rattle.std.specs.Prelude.{◌≡◌, ◌⊎◌, ◌+◌, ◌||◌, ◌&&◌, ◌++◌, ℕ, Bool, true, false, List, [], ◌∷◌, Option, Some, None, Result, Ok, Err, codes, if◌then◌else◌, is_some, nat_eq, map}
use Rattle.std.specs.List.{list_any, slice_get, starts_with}
use Rattle.std.specs.Str.{bytes_eq}
use Rattle.std.specs.Option.{option_and_then, option_map_or}
use Rattle.edt_base.specs.YamlData.{Value}
use Rattle.edt_base.specs.declared.fault.End.{End}
use Rattle.edt_base.specs.declared.fault.End.TheVariants as ending
use Rattle.edt_base.specs.declared.fault.Fault.{Fault}
use Rattle.edt_base.specs.declared.fault.Rule.TheVariants as rule
use Rattle.yaml_profile.specs.Reading.{reading}
use Rattle.yaml_profile.specs.declared.stop.Broken.{Broken}
use Rattle.bind_merge.specs.Files.{FileData, file_fault, name_of}
use Rattle.bind_merge.specs.Listing.{File, byte_fault, read_files}
use Rattle.bind_merge.specs.Levels.{LevelTable}
use Rattle.bind_merge.specs.Conflicts.{HasConflict}
use Rattle.bind_merge.specs.Merging.{IsMerged}
use Rattle.bind_merge.specs.Checks.{merged_rule}
use Rattle.bind_merge.specs.Options.{first_some}
use Rattle.bind_merge.specs.Walks.{binding_walk}
use Rattle.bind_merge.specs.LibraryData.{BindingData}
use Rattle.bind_merge.specs.Matching.{bus_of, compatible_at, compatible_in, is_for}

-- a text stands somewhere in these bytes
abbrev pub is_within : List ℕ → List ℕ → Bool
is_within [] text = starts_with nat_eq [] text
is_within (b ∷ bs) text = starts_with nat_eq (b ∷ bs) text || is_within bs text

-- a file is read in the first step: one of the strings stands in it
abbrev pub is_read : List (List ℕ) → File → Bool
is_read compats f = list_any (is_within f.1) compats

-- Step one: the first fault of the files that are read, as text.
abbrev pub text_fault_in : File → Result Value Broken → Option Fault
text_fault_in f (Ok v) = None
text_fault_in f (Err b) = Some (byte_fault b f.0)

abbrev pub text_fault : List (List ℕ) → File → Option Fault
text_fault compats f = if is_read compats f then text_fault_in f (reading f.1) else None

-- a file is a matching binding
abbrev pub is_matching : List (List ℕ) → File → Bool
is_matching compats f = is_read compats f
    && option_map_or (λ c. list_any (λ s. bytes_eq s c) compats) (compatible_in (reading f.1)) false

abbrev pub matching_from : List (List ℕ) → ℕ → List File → List ℕ
matching_from compats k [] = []
matching_from compats k (f ∷ fs) =
    if is_matching compats f then k ∷ matching_from compats (k + 1) fs else matching_from compats (k + 1) fs

-- the numbers of the matching bindings, in list order
abbrev pub matching : List (List ℕ) → List File → List ℕ
matching compats files = matching_from compats 0 files

-- Step two: a matching binding with its includes is without fault.
pub record IsSound (files : List FileData) (k : ℕ) (levels : List LevelTable) : Type 0 where
  pub walked : binding_walk files k ≡ None
  pub agrees : HasConflict files k → ⊥
  pub merged : IsMerged files k levels
  pub rules : merged_rule levels ≡ None

-- the merged bindings of these files, each without fault
abbrev pub AreSound : List FileData → List BindingData → Type 0
AreSound files [] = Unit {0}
AreSound files (b ∷ bs) = IsSound files b.file b.levels × AreSound files bs

abbrev pub files_of : List BindingData → List ℕ
files_of bs = map (λ (b : BindingData). b.file) bs

-- the first rule that a file's merged binding breaks
abbrev pub BreaksRules : List FileData → ℕ → Fault → Type 0
BreaksRules files k fault = (levels : List LevelTable) × IsMerged files k levels
    × (merged_rule levels ≡ Some fault.rule) × (fault ≡ file_fault fault.rule (name_of files k))

-- B11, or else that rule
abbrev pub BreaksMerged : List FileData → ℕ → Fault → Type 0
BreaksMerged files k fault = (HasConflict files k × (fault ≡ file_fault rule.B11 (name_of files k)))
    ⊎ ((HasConflict files k → ⊥) × BreaksRules files k fault)

-- the fault of step two at a binding: the first of its walk, or else of the merged binding
abbrev pub BreaksAt : List FileData → ℕ → Fault → Type 0
BreaksAt files k fault = (binding_walk files k ≡ Some fault) ⊎ ((binding_walk files k ≡ None)
    × BreaksMerged files k fault)

-- the first fault of step two at these bindings: those before this one are without fault
pub record IsFirstBroken (files : List FileData) (ks : List ℕ) (fault : Fault) : Type 0 where
  pub before : List BindingData
  pub broken : ℕ
  pub after : List ℕ
  pub parts : ks ≡ files_of before ++ broken ∷ after
  pub sound : AreSound files before
  pub breaks : BreaksAt files broken fault

-- Step three: an earlier binding is for the same compatible string and bus as this one.
abbrev pub is_twin : List File → List BindingData → BindingData → Bool
is_twin files before b = list_any (is_for files (compatible_at files b.file) (bus_of b.levels)) before

-- the fault of the first that has such an earlier one, `before` being those that came before
abbrev pub twin_fault_from : List File → List BindingData → List BindingData → Option Fault
twin_fault_from files before [] = None
twin_fault_from files before (b ∷ bs) =
    if is_twin files before b then Some (file_fault rule.B12 (name_of (read_files files) b.file))
    else twin_fault_from files (before ++ b ∷ []) bs

abbrev pub twin_fault : List File → List BindingData → Option Fault
twin_fault files bs = twin_fault_from files [] bs

-- what a load without fault leaves: step one has none, the bindings are the matching ones, each
-- merged and without fault, and no two are for one compatible string and bus
pub record IsLoaded (files : List File) (compats : List (List ℕ)) (bindings : List BindingData) : Type 0 where
  pub texts : first_some (text_fault compats) files ≡ None
  pub files_are : files_of bindings ≡ matching compats files
  pub sound : AreSound (read_files files) bindings
  pub single : twin_fault files bindings ≡ None

-- the first fault of step three
pub record IsFirstTwin (files : List File) (compats : List (List ℕ)) (fault : Fault) : Type 0 where
  pub bindings : List BindingData
  pub files_are : files_of bindings ≡ matching compats files
  pub sound : AreSound (read_files files) bindings
  pub twin : twin_fault files bindings ≡ Some fault

-- the first fault of loading: a step is tested where the ones before it have none
abbrev pub IsFirstFault : List File → List (List ℕ) → Fault → Type 0
IsFirstFault files compats fault = (first_some (text_fault compats) files ≡ Some fault)
    ⊎ ((first_some (text_fault compats) files ≡ None)
    × (IsFirstBroken (read_files files) (matching compats files) fault ⊎ IsFirstTwin files compats fault))

-- a fault that an answer tells; want of memory tells none
abbrev pub OnFault : {X : Type 0} → Result X End → (Fault → Type 0) → Type 0
OnFault (Ok x) P = Unit {0}
OnFault (Err (ending.Fault f)) P = P f
OnFault (Err (ending.Memory e)) P = Unit {0}
