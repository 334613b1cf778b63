-- What a matching binding is for: its own compatible string, and the bus of the merged binding.
use Rattle.std.specs.Prelude.{◌&&◌, ◌||◌, ℕ, Bool, true, false, List, [], ◌∷◌, Option, Some, None, Result, Ok, Err, codes, if◌then◌else◌, nat_eq}
use Rattle.std.specs.List.{list_any, slice_get}
use Rattle.std.specs.Option.{option_and_then}
use Rattle.std.specs.Str.{bytes_eq}
use Rattle.edt_base.specs.YamlData.{Value, value_at}
use Rattle.yaml_profile.specs.Reading.{reading}
use Rattle.yaml_profile.specs.declared.stop.Broken.{Broken}
use Rattle.bind_load.specs.RecordOf.{text_in}
use Rattle.bind_merge.specs.Levels.{LevelTable}
use Rattle.bind_merge.specs.LibraryData.{BindingData}
use Rattle.bind_merge.specs.Listing.{File}

-- the compatible string of a value that is a map
abbrev pub compatible_in : Result Value Broken → Option (List ℕ)
compatible_in (Err b) = None
compatible_in (Ok v) = option_and_then text_in (value_at (codes "compatible") v)

-- the compatible string that a listed file says itself
abbrev pub compatible_at : List File → ℕ → Option (List ℕ)
compatible_at files k = option_and_then (λ (f : File). compatible_in (reading f.1)) (slice_get files k)

-- the bus that a merged binding is for
abbrev pub bus_of : List LevelTable → Option (List ℕ)
bus_of [] = None
bus_of (l ∷ ls) = l.on_bus

abbrev pub is_same : Option (List ℕ) → Option (List ℕ) → Bool
is_same None None = true
is_same (Some a) (Some b) = bytes_eq a b
is_same _ _ = false

-- a binding is for this compatible string on this bus, or on none
abbrev pub is_for : List File → Option (List ℕ) → Option (List ℕ) → BindingData → Bool
is_for files compat bus b = is_same (compatible_at files b.file) compat && is_same (bus_of b.levels) bus

-- the file of the first binding that is
abbrev pub find_in : List File → List ℕ → Option (List ℕ) → List BindingData → Option ℕ
find_in files compat bus [] = None
find_in files compat bus (b ∷ bs) =
    if is_for files (Some compat) bus b then Some b.file else find_in files compat bus bs

-- a file is that of one of the bindings
abbrev pub is_bound : List BindingData → ℕ → Bool
is_bound bs k = list_any (λ (b : BindingData). nat_eq b.file k) bs
