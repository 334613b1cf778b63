-- The record that a file's value has, key by key. Of a key that stands twice in a map the first pair
-- counts. The definition is total: what has the wrong form is read as nothing, and the rules tell
-- where that is.
use Rattle.std.specs.Prelude.{ℕ, Bool, List, [], ◌∷◌, Option, Some, None, codes, map, option_and_then}
use Rattle.std.specs.List.{flat_map}
use Rattle.std.specs.Option.{option_map_or}
use Rattle.edt_base.specs.YamlData.{Value, a_map, a_list, a_text, a_truth, other, Pairs, entry_of, item_list, pair_list}
use Rattle.edt_base.specs.declared.bound.PropType.{PropType}
use Rattle.bind_load.specs.FileMaps.{levels, levels_below, properties_of, includes_of}
use Rattle.bind_load.specs.Forms.{space_of, type_named}
use Rattle.bind_load.specs.RecordData.{FilterLevel, IncludeData, SpecData, LevelData}

abbrev pub text_in : Value → Option (List ℕ)
text_in (a_text t) = Some t
text_in _ = None

abbrev pub truth_in : Value → Option Bool
truth_in (a_truth b) = Some b
truth_in _ = None

-- the text of a description; Other is kept as the empty text
abbrev pub description_in : Value → Option (List ℕ)
description_in (a_text t) = Some t
description_in other = Some []
description_in _ = None

abbrev pub type_in : Value → Option PropType
type_in v = option_and_then type_named (text_in v)

abbrev pub one_text : Value → List (List ℕ)
one_text (a_text t) = t ∷ []
one_text _ = []

-- the texts of a list
abbrev pub texts_in : Value → Option (List (List ℕ))
texts_in (a_list items) = Some (flat_map one_text (item_list items))
texts_in _ = None

-- the texts of a list, or the one text
abbrev pub text_or_texts_in : Value → Option (List (List ℕ))
text_or_texts_in (a_list items) = Some (flat_map one_text (item_list items))
text_or_texts_in (a_text t) = Some (t ∷ [])
text_or_texts_in _ = None

abbrev pub list_in : Value → Option (List Value)
list_in (a_list items) = Some (item_list items)
list_in _ = None

-- the value of a key, as it is read
abbrev pub read_at : {A : Type 0} → List ℕ → (Value → Option A) → Pairs → Option A
read_at key read ps = option_and_then read (entry_of key ps)

abbrev pub filter_level : Pairs → FilterLevel
filter_level ps = record {
  allow = read_at (codes "property-allowlist") texts_in ps;
  block = read_at (codes "property-blocklist") texts_in ps;
}

-- what lets all through
abbrev pub no_filter : FilterLevel
no_filter = record { allow = None; block = None }

-- an include: a file's name, or a map with the name and a filter
abbrev pub include_in : Value → List IncludeData
include_in (a_text t) = record { name = t; filter = no_filter ∷ [] } ∷ []
include_in (a_map ps) = option_map_or (λ name. record {
  name = name;
  filter = filter_level ps ∷ map filter_level (levels_below ps);
} ∷ []) (read_at (codes "name") text_in ps) []
include_in _ = []

abbrev pub spec_in : Pairs → SpecData
spec_in ps = record {
  ty = read_at (codes "type") type_in ps;
  required = read_at (codes "required") truth_in ps;
  deprecated = read_at (codes "deprecated") truth_in ps;
  default = entry_of (codes "default") ps;
  constant = entry_of (codes "const") ps;
  choices = read_at (codes "enum") list_in ps;
  space = read_at (codes "specifier-space") text_in ps;
  description = read_at (codes "description") description_in ps;
}

-- a property with its settings
abbrev pub prop_in : List ℕ × Value → List (List ℕ × SpecData)
prop_in (name, a_map ps) = (name, spec_in ps) ∷ []
prop_in _ = []

-- the names of a space's cells
abbrev pub cells_with : Option (List ℕ) → Value → List (List ℕ × List (List ℕ))
cells_with (Some space) (a_list items) = (space, flat_map one_text (item_list items)) ∷ []
cells_with _ _ = []

abbrev pub cells_in : List ℕ × Value → List (List ℕ × List (List ℕ))
cells_in e = cells_with (space_of e.0) e.1

abbrev pub level_in : Pairs → LevelData
level_in ps = record {
  description = read_at (codes "description") description_in ps;
  compatible = read_at (codes "compatible") text_in ps;
  buses = read_at (codes "bus") text_or_texts_in ps;
  on_bus = read_at (codes "on-bus") text_in ps;
  cells = flat_map cells_in (pair_list ps);
  includes = flat_map include_in (includes_of ps);
  props = flat_map prop_in (properties_of ps);
}

-- the record of a file
abbrev pub record_in : Value → List LevelData
record_in v = map level_in (levels v)
