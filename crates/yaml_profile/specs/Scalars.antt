-- Which value a plain text is.
use Rattle.std.specs.Prelude.{ℕ, ℤ, pos, ◌-ℤ◌, ◌+◌, ◌-◌, ◌*◌, Bool, true, false, ◌&&◌, ◌||◌, ◌==◌, nat_le, nat_lt, List, [], ◌∷◌, Option, Some, None, codes, if◌then◌else◌}
use Rattle.std.specs.Str.{bytes_eq}
use Rattle.std.specs.Option.{option_map}
use Rattle.edt_base.specs.Ascii.{colon, digit_0, digit_9, full_stop, hyphen, lower_a, lower_e, lower_f, lower_x, plus, underscore, upper_a, upper_f}
use Rattle.edt_base.specs.YamlData.{Value, a_text, a_number, a_truth, null, other}
use Rattle.yaml_profile.specs.Signs.{is_digit}

abbrev pub is_one_of : List (List ℕ) → List ℕ → Bool
is_one_of [] t = false
is_one_of (w ∷ ws) t = bytes_eq t w || is_one_of ws t

abbrev pub is_null : List ℕ → Bool
is_null = is_one_of ([] ∷ codes "~" ∷ codes "null" ∷ codes "Null" ∷ codes "NULL" ∷ [])

abbrev pub is_true : List ℕ → Bool
is_true = is_one_of (codes "true" ∷ codes "True" ∷ codes "TRUE" ∷ codes "yes" ∷ codes "Yes" ∷ codes "YES" ∷ codes "on"
    ∷ codes "On" ∷ codes "ON" ∷ [])

abbrev pub is_false : List ℕ → Bool
is_false = is_one_of (codes "false" ∷ codes "False" ∷ codes "FALSE" ∷ codes "no" ∷ codes "No" ∷ codes "NO" ∷ codes "off"
    ∷ codes "Off" ∷ codes "OFF" ∷ [])

-- the value of a digit, 16 and more where it is none
abbrev pub digit : ℕ → ℕ
digit c = if nat_lt c digit_0 then 16 else if nat_le c digit_9 then c - digit_0 else if nat_lt c upper_a then 16
    else if nat_le c upper_f then c - 55 else if nat_lt c lower_a then 16 else if nat_le c lower_f then c - 87 else 16

-- the number that digits of this base spell after others, where it stays below 2^64
abbrev pub spelled : ℕ → ℕ → List ℕ → Option ℕ
spelled base so_far [] = Some so_far
spelled base so_far (c ∷ cs) = if nat_lt (digit c) base && nat_lt (so_far * base + digit c) 0x1_0000_0000_0000_0000
    then spelled base (so_far * base + digit c) cs else None

-- after a 0: nothing, or `x` and hexadecimal digits
abbrev pub behind_zero : List ℕ → Option ℕ
behind_zero [] = Some 0
behind_zero (c ∷ []) = None
behind_zero (c ∷ d ∷ ds) = if c == lower_x then spelled 16 0 (d ∷ ds) else None

-- a magnitude: 0, or a digit 1 to 9 and digits, or `0x` and hexadecimal digits
abbrev pub magnitude : List ℕ → Option ℕ
magnitude [] = None
magnitude (c ∷ cs) = if c == digit_0 then behind_zero cs else spelled 10 0 (c ∷ cs)

abbrev pub minus : ℕ → ℤ
minus n = pos 0 -ℤ pos n

-- a whole number: a sign or none, and a magnitude
abbrev pub whole_number : List ℕ → Option ℤ
whole_number [] = None
whole_number (c ∷ cs) = if c == hyphen then option_map minus (magnitude cs) else if c == plus
    then option_map pos (magnitude cs)
    else option_map pos (magnitude (c ∷ cs))

abbrev pub is_sign : ℕ → Bool
is_sign c = (c == plus) || (c == hyphen)

abbrev pub is_exponent : ℕ → Bool
is_exponent c = (c == lower_e) || (c == 69)

-- only characters of numbers, with signs after an `e` or `E` alone; `behind_e` says that one stands before
abbrev pub goes_on : Bool → List ℕ → Bool
goes_on behind_e [] = true
goes_on behind_e (c ∷ cs) = (is_digit c || (c == full_stop) || (c == underscore) || (c == colon) || is_exponent c
    || (is_sign c && behind_e)) && goes_on (is_exponent c) cs

-- what looks like a number and is no whole one
abbrev pub is_other : List ℕ → Bool
is_other [] = false
is_other (c ∷ cs) = (is_digit c || (c == full_stop) || is_sign c) && goes_on false cs

abbrev pub number_or_text : List ℕ → Option ℤ → Value
number_or_text t (Some n) = a_number n
number_or_text t None = if is_other t then other else a_text t

-- the value of a plain text
unfoldable pub scalar_of : List ℕ → Value
scalar_of t = if is_null t then null else if is_true t then a_truth true else if is_false t then a_truth false
    else number_or_text t (whole_number t)
