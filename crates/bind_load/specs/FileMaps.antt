-- The maps of a binding file, each with the keys that it takes. A file is seen as its levels, from the
-- top down through the child-bindings.
use Rattle.std.specs.Prelude.{◌++◌, ℕ, List, [], ◌∷◌, codes, map, if◌then◌else◌}
use Rattle.std.specs.List.{flat_map}
use Rattle.std.specs.Option.{option_map_or}
use Rattle.std.specs.Str.{bytes_eq}
use Rattle.edt_base.specs.YamlData.{Value, a_map, a_list, a_text, Pairs, last, pair, entry_of, item_list, pair_list}
use Rattle.bind_load.specs.declared.form.Keys.{Keys}
use Rattle.bind_load.specs.declared.form.Keys.TheVariants as keys

-- a map, and which keys it takes
pub record MapData : Type 0 where
  pub keys : Keys
  pub pairs : Pairs

abbrev mutual
  -- the map itself, that of its `child-binding`, that of this one's, and so on
  pub levels : Value → List Pairs
  levels (a_map ps) = ps ∷ levels_below ps
  levels _ = []

  pub levels_below : Pairs → List Pairs
  levels_below last = []
  levels_below (pair k v rest) = if bytes_eq k (codes "child-binding") then levels v else levels_below rest

-- the pairs of a map, as a list; none of another value
abbrev pub pairs_in : Value → List (List ℕ × Value)
pairs_in (a_map ps) = pair_list ps
pairs_in _ = []

-- the items of a list; a text stands for the list of it alone
abbrev pub items_in : Value → List Value
items_in (a_list items) = item_list items
items_in (a_text t) = a_text t ∷ []
items_in _ = []

-- the properties of a level with their settings
abbrev pub properties_of : Pairs → List (List ℕ × Value)
properties_of ps = option_map_or pairs_in (entry_of (codes "properties") ps) []

-- what a level includes
abbrev pub includes_of : Pairs → List Value
includes_of ps = option_map_or items_in (entry_of (codes "include") ps) []

-- the settings of a property, where they are a map
abbrev pub settings_map : List ℕ × Value → List MapData
settings_map (name, a_map ps) = record { keys = keys.Settings; pairs = ps } ∷ []
settings_map _ = []

abbrev pub filter_map : Pairs → MapData
filter_map ps = record { keys = keys.Filter; pairs = ps }

-- the maps of an include: the one that names the file, and the deeper levels of its filter
abbrev pub include_maps : Value → List MapData
include_maps (a_map ps) = record { keys = keys.Include; pairs = ps } ∷ map filter_map (levels_below ps)
include_maps _ = []

-- the maps of a level
abbrev pub level_maps : Pairs → List MapData
level_maps ps = record {
  keys = keys.Level;
  pairs = ps;
} ∷ (flat_map settings_map (properties_of ps) ++ flat_map include_maps (includes_of ps))

-- all maps of a file
abbrev pub file_maps : Value → List MapData
file_maps v = flat_map level_maps (levels v)
