-- The matching bindings by compatible string and bus.
use Rattle.std.specs.Prelude.{◌≡◌, ◌&&◌, ℕ, List, Option, Some, None, if◌then◌else◌}
use Rattle.std.specs.Map.{lookup}
use Rattle.std.specs.Option.{option_and_then}
use Rattle.std.specs.Str.{bytes_eq}
use Rattle.bind_merge.specs.Listing.{File}
use Rattle.bind_merge.specs.LibraryData.{BindingData}
use Rattle.bind_merge.specs.Matching.{find_in, is_same}
use Rattle.bind_merge.specs.declared.index.Group.{Group}

-- compatible strings, each with its group
abbrev pub IndexData : Type 0
IndexData = List (List ℕ × Group)

-- the file that a group has for a bus, or for none
abbrev pub in_group : Group → Option (List ℕ) → Option ℕ
in_group g None = g.alone
in_group g (Some bus) = lookup (bytes_eq bus) g.on_buses.entries

-- the file for a compatible string on a bus, or on none
abbrev pub in_index : IndexData → List ℕ → Option (List ℕ) → Option ℕ
in_index index compat bus = option_and_then (λ (g : Group). in_group g bus) (lookup (bytes_eq compat) index)

-- the index with a file more, in place of that of this string and bus
abbrev pub HasPair : IndexData → List ℕ → Option (List ℕ) → ℕ → IndexData → Type 0
HasPair index compat bus file more = (q : List ℕ) (r : Option (List ℕ))
    → in_index more q r ≡ (if bytes_eq compat q && is_same bus r then Some file else in_index index q r)

-- the index finds these bindings
abbrev pub IsIndexOf : List File → List BindingData → IndexData → Type 0
IsIndexOf files bs index = (compat : List ℕ) (bus : Option (List ℕ))
    → in_index index compat bus ≡ find_in files compat bus bs
