-- The values that a binding gives: a `default` and a `const`, by the type.
use Rattle.std.specs.Prelude.{◌^◌, ℕ, ℤ, pos, negsuc, Bool, false, List, Option, Some, None, map, option_map, nat_eq, nat_lt, unsigned_abs, if◌then◌else◌}
use Rattle.std.specs.Int.{int_rem_euclid}
use Rattle.std.specs.Cmp.Lexicographic.{pointwise}
use Rattle.std.specs.Option.{option_map_or}
use Rattle.std.specs.Str.{bytes_eq}
use Rattle.edt_base.specs.ValData.{ValData, int_val, ints_val, u8s_val, str_val, strs_val}
use Rattle.edt_base.specs.YamlData.{Value, a_list, a_text, a_number, item_list}
use Rattle.edt_base.specs.declared.bound.PropType.{PropType}
use Rattle.edt_base.specs.declared.bound.PropType.TheVariants as type
use Rattle.prop_types.specs.AllThere.{all_there}

-- the cell of a number: the number modulo 2^32
abbrev pub cell_of_number : ℤ → ℕ
cell_of_number n = unsigned_abs (int_rem_euclid n (pos (2 ^ 32)))

-- the byte of a number from 0 to 255
abbrev pub byte_of_number : ℤ → Option ℕ
byte_of_number (pos n) = if nat_lt n 256 then Some n else None
byte_of_number (negsuc n) = None

-- the cell, the byte, the text that a value is
abbrev pub cell_in : Value → Option ℕ
cell_in (a_number n) = Some (cell_of_number n)
cell_in _ = None

abbrev pub byte_in : Value → Option ℕ
byte_in (a_number n) = byte_of_number n
byte_in _ = None

abbrev pub text_in : Value → Option (List ℕ)
text_in (a_text t) = Some t
text_in _ = None

-- what the items of a list are, each as the function says
abbrev pub list_in : {X : Type 0} → (Value → Option X) → Value → Option (List X)
list_in f (a_list items) = all_there (map f (item_list items))
list_in f _ = None

-- the value that a binding gives to a property of a type; no value of another form, nor of a type that has none
unfoldable pub given : PropType → Value → Option ValData
given type.Int v = option_map int_val (cell_in v)
given type.Array v = option_map ints_val (list_in cell_in v)
given type.U8Array v = option_map u8s_val (list_in byte_in v)
given type.Str v = option_map str_val (text_in v)
given type.StrArray v = option_map strs_val (list_in text_in v)
given _ v = None

-- two values of one type that may be given are equal
abbrev pub same_val : ValData → ValData → Bool
same_val (int_val a) (int_val b) = nat_eq a b
same_val (ints_val a) (ints_val b) = pointwise nat_eq a b
same_val (u8s_val a) (u8s_val b) = bytes_eq a b
same_val (str_val a) (str_val b) = bytes_eq a b
same_val (strs_val a) (strs_val b) = pointwise bytes_eq a b
same_val _ _ = false

-- a value is the one that a binding wants
abbrev pub is_constant : PropType → Value → ValData → Bool
is_constant ty wanted val = option_map_or (same_val val) (given ty wanted) false
