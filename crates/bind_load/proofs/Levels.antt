-- Where the levels below a map come from.
use Rattle.std.proofs.Common.{◌≡◌, ◌++◌, List, [], ◌∷◌, map, Bool, true, false, Option, Some, refl, codes, if◌then◌else◌}
use Rattle.std.specs.Option.{option_map_or}
use Rattle.std.specs.Str.{bytes_eq}
use Rattle.edt_base.specs.YamlData.{Value, a_map, Pairs, last, pair, entry_of, item_list, items_from}
use Rattle.bind_load.specs.FileMaps.{MapData, levels, levels_below, include_maps, filter_map}
use Rattle.bind_load.specs.declared.form.Keys.TheVariants as keys
use Rattle.std.proofs.lemmas.List.{append_assoc}

step : (b : Bool) (v : Value) (x : List Pairs) (o : Option Value) → x ≡ option_map_or levels o [] → (if b then levels v else x) ≡ option_map_or levels (if b then Some v else o) []
step true v x o h = refl
step false v x o h = h

pub below_is : (ps : Pairs) → levels_below ps ≡ option_map_or levels (entry_of (codes "child-binding") ps) []
below_is last = refl
below_is (pair k v rest) = step (bytes_eq k (codes "child-binding")) v _ _ (below_is rest)

-- the maps of an include, from the one that names the file and the levels below it
pub include_step : (before pushed after : List MapData) (ps : Pairs) (deeper : List Pairs) → pushed ≡ before ++ record { keys = keys.Include; pairs = ps } ∷ [] → deeper ≡ levels_below ps → after ≡ pushed ++ map filter_map deeper → after ≡ before ++ include_maps (a_map ps)
include_step before pushed after ps deeper p d a = rw a (rw d (rw p (append_assoc before _ _)))

-- the list of the items that a list makes
pub items_are : (vs : List Value) → item_list (items_from vs) ≡ vs
items_are [] = refl
items_are (v ∷ vs) = rw (items_are vs) refl
