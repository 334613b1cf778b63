-- The form of a text in names of C: letters in lower case, digits, and `_` for every other character.
use Rattle.std.specs.Prelude.{◌+◌, ◌&&◌, ◌||◌, ℕ, List, [], ◌∷◌, nat_lt, nat_le, if◌then◌else◌}
use Rattle.std.specs.List.{flat_map}
use Rattle.edt_base.specs.Ascii.{underscore, digit_0, digit_9, upper_a, upper_z, lower_a, lower_z, beyond_ascii}

-- the form of an ASCII character: letters in lower case, digits as they are, and `_` for every other
abbrev pub form_byte : ℕ → ℕ
form_byte c =
    if nat_le upper_a c && nat_le c upper_z then c + 32 else
    if (nat_le lower_a c && nat_le c lower_z) || (nat_le digit_0 c && nat_le c digit_9) then c else underscore

-- what a byte of a text gives to its form: one `_` for each character beyond ASCII, whose further bytes are those from
-- 128 to 191
abbrev pub form_char : ℕ → List ℕ
form_char c = if nat_lt c beyond_ascii then form_byte c ∷ [] else if nat_lt c 192 then [] else underscore ∷ []

-- the form of a text
unfoldable pub form_of : List ℕ → List ℕ
form_of text = flat_map form_char text
