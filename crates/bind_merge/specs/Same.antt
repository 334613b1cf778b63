-- Whether two YAML values are the same: maps with their keys in the same order.
use Rattle.std.specs.Prelude.{◌&&◌, Bool, true, false, List, [], ◌∷◌, Option, Some, None}
use Rattle.std.specs.Ordering.{int_eq}
use Rattle.std.specs.Str.{bytes_eq}
use Rattle.edt_base.specs.YamlData.{Value, a_map, a_list, a_text, a_number, a_truth, null, other, Items, end, item, Pairs, last, pair}

abbrev pub same_truth : Bool → Bool → Bool
same_truth true b = b
same_truth false true = false
same_truth false false = true

-- the pairs of a map, and the items of a list
abbrev pub pairs_in : Value → Option Pairs
pairs_in (a_map ps) = Some ps
pairs_in _ = None

abbrev pub items_in : Value → Option Items
items_in (a_list xs) = Some xs
items_in _ = None

abbrev pub is_null : Value → Bool
is_null null = true
is_null _ = false

abbrev pub is_other : Value → Bool
is_other other = true
is_other _ = false

abbrev mutual
  pub same : Value → Value → Bool
  same (a_map ps) (a_map qs) = same_pairs ps qs
  same (a_list xs) (a_list ys) = same_items xs ys
  same (a_text s) (a_text t) = bytes_eq s t
  same (a_number m) (a_number n) = int_eq m n
  same (a_truth b) (a_truth c) = same_truth b c
  same null w = is_null w
  same other w = is_other w
  same _ _ = false

  pub same_items : Items → Items → Bool
  same_items end end = true
  same_items (item v xs) (item w ys) = same v w && same_items xs ys
  same_items _ _ = false

  pub same_pairs : Pairs → Pairs → Bool
  same_pairs last last = true
  same_pairs (pair k v ps) (pair l w qs) = bytes_eq k l && (same v w && same_pairs ps qs)
  same_pairs _ _ = false

abbrev pub same_list : List Value → List Value → Bool
same_list [] [] = true
same_list (v ∷ vs) (w ∷ ws) = same v w && same_list vs ws
same_list _ _ = false
