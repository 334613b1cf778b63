-- Which entries of `enum` a property's values are.
use Rattle.std.specs.Prelude.{ℕ, Bool, List, [], ◌∷◌, Option, Some, false, decimal, map, nat_eq, option_map, position}
use Rattle.std.specs.Option.{option_map_or}
use Rattle.std.specs.Str.{bytes_eq}
use Rattle.edt_base.specs.Forms.{form_of}
use Rattle.edt_base.specs.ValData.{ValData, int_val, ints_val, u8s_val, str_val, strs_val}
use Rattle.edt_base.specs.YamlData.{Value}
use Rattle.prop_types.specs.AllThere.{all_there}
use Rattle.prop_types.specs.Given.{cell_in, byte_in, text_in}

-- an entry is this number, as the function reads numbers; it is this text
abbrev pub is_number : (Value → Option ℕ) → ℕ → Value → Bool
is_number read n entry = option_map_or (nat_eq n) (read entry) false

abbrev pub is_text : List ℕ → Value → Bool
is_text t entry = option_map_or (λ e. bytes_eq e t) (text_in entry) false

-- the choice of a value: the place of the first entry that it is, and the value's form
abbrev pub number_choice : (Value → Option ℕ) → List Value → ℕ → Option (ℕ × List ℕ)
number_choice read entries n = option_map (λ at. (at, decimal n)) (position (is_number read n) entries)

abbrev pub text_choice : List Value → List ℕ → Option (ℕ × List ℕ)
text_choice entries t = option_map (λ at. (at, form_of t)) (position (is_text t) entries)

-- the choices of the values that `enum` is tested on: one number or text, or each element; None where one is no entry
unfoldable pub choices_of : List Value → ValData → Option (List (ℕ × List ℕ))
choices_of entries (int_val n) = all_there (number_choice cell_in entries n ∷ [])
choices_of entries (ints_val ns) = all_there (map (number_choice cell_in entries) ns)
choices_of entries (u8s_val bs) = all_there (map (number_choice byte_in entries) bs)
choices_of entries (str_val t) = all_there (text_choice entries t ∷ [])
choices_of entries (strs_val ts) = all_there (map (text_choice entries) ts)
choices_of entries _ = Some []
