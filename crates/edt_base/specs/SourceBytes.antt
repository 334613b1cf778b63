-- Bytes of the source format, by what they may be part of.
use Rattle.std.specs.Prelude.{ℕ, Bool, ◌&&◌, ◌||◌, nat_eq, nat_le}
use Rattle.edt_base.specs.Ascii.{tab, carriage_return, space, hash, plus, comma, hyphen, full_stop, question, at_sign, underscore, digit_0, digit_7, digit_9, upper_a, upper_f, upper_z, lower_a, lower_f, lower_z}

-- space, tab, newline, vertical tab, form feed, carriage return
abbrev pub is_blank : ℕ → Bool
is_blank b = nat_eq b space || (nat_le tab b && nat_le b carriage_return)

abbrev pub is_digit : ℕ → Bool
is_digit b = nat_le digit_0 b && nat_le b digit_9

abbrev pub is_octal : ℕ → Bool
is_octal b = nat_le digit_0 b && nat_le b digit_7

abbrev pub is_letter : ℕ → Bool
is_letter b = (nat_le lower_a b && nat_le b lower_z) || (nat_le upper_a b && nat_le b upper_z)

abbrev pub is_hex : ℕ → Bool
is_hex b = is_digit b || (nat_le lower_a b && nat_le b lower_f) || (nat_le upper_a b && nat_le b upper_f)

-- a label begins with a letter or `_`
abbrev pub begins_label : ℕ → Bool
begins_label b = is_letter b || nat_eq b underscore

-- letters, digits and `_`: the bytes of labels and numbers
abbrev pub is_plain : ℕ → Bool
is_plain b = begins_label b || is_digit b

-- letters, digits and `, . _ + -`: the bytes of a node's name, and of its unit address
abbrev pub is_node_byte : ℕ → Bool
is_node_byte b = is_plain b || nat_eq b comma || nat_eq b full_stop || nat_eq b plus || nat_eq b hyphen

-- these and `? #`: the bytes of a property's name
abbrev pub is_prop_byte : ℕ → Bool
is_prop_byte b = is_node_byte b || nat_eq b question || nat_eq b hash

-- these and `@`: the bytes of words where names stand
abbrev pub is_wide : ℕ → Bool
is_wide b = is_prop_byte b || nat_eq b at_sign
