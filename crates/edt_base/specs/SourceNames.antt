-- The names of the source format: of labels, nodes and properties (Devicetree Specification v0.4, 2.2.1, 2.2.4, 6.2).
use Rattle.std.specs.Prelude.{ℕ, Bool, true, false, ◌&&◌, not, List, [], ◌∷◌, nat_eq, drop, take}
use Rattle.std.specs.List.{list_all, prefix_len}
use Rattle.edt_base.specs.Ascii.{at_sign}
use Rattle.edt_base.specs.SourceBytes.{is_plain, begins_label, is_node_byte, is_prop_byte}

-- a letter or `_`, then letters, digits and `_`
abbrev pub is_label : List ℕ → Bool
is_label [] = false
is_label (b ∷ rest) = begins_label b && list_all is_plain rest

-- at least one byte of names
abbrev pub is_node_word : List ℕ → Bool
is_node_word [] = false
is_node_word (b ∷ rest) = list_all is_node_byte (b ∷ rest)

-- nothing, or `@` and a unit address
abbrev pub is_unit : List ℕ → Bool
is_unit [] = true
is_unit (b ∷ rest) = nat_eq b at_sign && is_node_word rest

abbrev pub is_no_at : ℕ → Bool
is_no_at b = not (nat_eq b at_sign)

-- a node's name: a word, then optionally `@` and a unit address
abbrev pub is_node_name : List ℕ → Bool
is_node_name name = is_node_word (take (prefix_len is_no_at name) name) && is_unit (drop (prefix_len is_no_at name) name)

-- a property's name
abbrev pub is_prop_name : List ℕ → Bool
is_prop_name [] = false
is_prop_name (b ∷ rest) = list_all is_prop_byte (b ∷ rest)
