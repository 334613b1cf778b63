-- Values as the code holds them, and the data that they stand for.
use Rattle.std.specs.Prelude.{ℕ, List, [], ◌∷◌, Option, Some, None, map}
use Rattle.edt_base.specs.YamlData.{Pairs, Items, value_of, pair_of, pairs_from, items_from}
use Rattle.edt_base.specs.declared.yaml.Yaml.{Yaml}
use Rattle.std.specs.Borrow.{Bor}
use Rattle.bind_load.specs.FileMaps.{MapData, levels_below}
use Rattle.bind_load.specs.declared.maps.Map.{Map}

-- the pairs of a map
abbrev pub pairs_of : List (List ℕ × Yaml) → Pairs
pairs_of es = pairs_from (map pair_of es)

-- the items of a list
abbrev pub items_of : List Yaml → Items
items_of ys = items_from (map value_of ys)

-- a map with the keys that it takes
abbrev pub map_data : Map → MapData
map_data m = record { keys = m.keys; pairs = pairs_of m.pairs.now }

-- a map, as the code holds it while it goes over levels
abbrev pub level_data : Bor (List (List ℕ × Yaml)) → Pairs
level_data ps = pairs_of ps.now

-- the levels from a map on, where there is one
abbrev pub levels_from : Option (Bor (List (List ℕ × Yaml))) → List Pairs
levels_from None = []
levels_from (Some ps) = pairs_of ps.now ∷ levels_below (pairs_of ps.now)
