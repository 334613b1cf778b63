-- A YAML value as plain data.
use Rattle.std.specs.Prelude.{ℕ, ℤ, Bool, List, [], ◌∷◌, Option, Some, None, if◌then◌else◌}
use Rattle.std.specs.Str.{bytes_eq}
use Rattle.edt_base.specs.declared.yaml.Yaml.{Yaml, fold-Yaml}
use Rattle.edt_base.specs.declared.yaml.Yaml.TheOpen.{Yaml-F}
use Rattle.edt_base.specs.declared.yaml.Yaml.TheOpen as layer

mutual
  -- a value: its text is in bytes
  pub data Value : Type 0 where
    a_map : Pairs → Value
    a_list : Items → Value
    a_text : List ℕ → Value
    a_number : ℤ → Value
    a_truth : Bool → Value
    null : Value
    other : Value

  -- the items of a list, in order
  pub data Items : Type 0 where
    end : Items
    item : Value → Items → Items

  -- the keys of a map with their values, in order
  pub data Pairs : Type 0 where
    last : Pairs
    pair : List ℕ → Value → Pairs → Pairs

abbrev pub items_from : List Value → Items
items_from [] = end
items_from (v ∷ vs) = item v (items_from vs)

abbrev pub pairs_from : List (List ℕ × Value) → Pairs
pairs_from [] = last
pairs_from (e ∷ es) = pair e.0 e.1 (pairs_from es)

-- one layer of a value, whose parts are data already
abbrev pub value_from : Yaml-F Value → Value
value_from (layer.Map pairs) = a_map (pairs_from pairs.items)
value_from (layer.List items) = a_list (items_from items.items)
value_from (layer.Str text) = a_text text
value_from (layer.Int number) = a_number number
value_from (layer.Bool truth) = a_truth truth
value_from layer.Null = null
value_from layer.Other = other

-- the data of a value
abbrev pub value_of : Yaml → Value
value_of = fold-Yaml Value value_from

-- a pair with its value's data
abbrev pub pair_of : (List ℕ × Yaml) → (List ℕ × Value)
pair_of e = (e.0, value_of e.1)

-- the value of a key, the first of its pairs
abbrev pub entry_of : List ℕ → Pairs → Option Value
entry_of key last = None
entry_of key (pair k v rest) = if bytes_eq k key then Some v else entry_of key rest

-- the value of a key in a value that is a map
abbrev pub value_at : List ℕ → Value → Option Value
value_at key (a_map pairs) = entry_of key pairs
value_at key _ = None

-- the items of a list, as a list
abbrev pub item_list : Items → List Value
item_list end = []
item_list (item v rest) = v ∷ item_list rest

-- the pairs of a map, as a list
abbrev pub pair_list : Pairs → List (List ℕ × Value)
pair_list last = []
pair_list (pair k v rest) = (k, v) ∷ pair_list rest
