-- A merged binding as its views show it: the list of its levels, a view's own level first. A view's
-- entries stand in byte order of their names, and each of its properties has a type.
use Rattle.std.specs.Prelude.{ℕ, Bool, List, [], ◌∷◌, Option, Some, None, is_some, IsTrue, map}
use Rattle.std.specs.List.{list_all}
use Rattle.std.specs.Option.{option_and_then}
use Rattle.bind_merge.specs.Levels.{EntryData, LevelTable}
use Rattle.bind_merge.specs.Looking.{entry_named}

-- the declared properties, the spaces, the buses and the bus of a view
abbrev pub props_in : List LevelTable → List EntryData
props_in [] = []
props_in (l ∷ ls) = l.props

abbrev pub spaces_in : List LevelTable → List EntryData
spaces_in [] = []
spaces_in (l ∷ ls) = l.spaces

abbrev pub buses_in : List LevelTable → Option (List (List ℕ))
buses_in [] = None
buses_in (l ∷ ls) = l.buses

abbrev pub bus_in : List LevelTable → Option (List ℕ)
bus_in [] = None
bus_in (l ∷ ls) = l.on_bus

-- the view of the child-binding, where there is one
abbrev pub child_in : List LevelTable → Option (List LevelTable)
child_in [] = None
child_in (l ∷ []) = None
child_in (l ∷ m ∷ ls) = Some (m ∷ ls)

-- the names of the declared properties
abbrev pub names_in : List LevelTable → List (List ℕ)
names_in levels = map (λ (e : EntryData). e.name) (props_in levels)

-- the settings of a property, where it is declared
abbrev pub prop_in : List ℕ → List LevelTable → Option EntryData
prop_in name levels = entry_named name (props_in levels)

-- the names of a space's cells
abbrev pub cells_in : List ℕ → List LevelTable → Option (List (List ℕ))
cells_in space levels = option_and_then (λ (e : EntryData). e.cells) (entry_named space (spaces_in levels))

-- each property has a type
abbrev pub are_typed : List EntryData → Bool
are_typed props = list_all (λ (e : EntryData). is_some e.ty) props

abbrev pub AreTyped : List LevelTable → Type 0
AreTyped levels = IsTrue (list_all (λ (l : LevelTable). are_typed l.props) levels)
