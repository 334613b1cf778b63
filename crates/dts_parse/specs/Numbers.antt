-- Numbers: decimal, octal with a leading 0 or hexadecimal after `0x`, and a suffix U, L, UL, LL or ULL in either case.
use Rattle.std.specs.Prelude.{ℕ, ◌+◌, ◌*◌, ◌^◌, Bool, true, false, ◌&&◌, ◌||◌, List, [], ◌∷◌, Option, Some, None, nat_eq, nat_lt, drop, take, codes, if◌then◌else◌}
use Rattle.std.specs.List.{prefix_len, starts_with}
use Rattle.edt_base.specs.Ascii.{lower_l, lower_u, upper_l, upper_u}
use Rattle.edt_base.specs.SourceBytes.{is_digit, is_octal, is_hex}
use Rattle.dts_parse.specs.Texts.{digit}
use Rattle.dts_parse.specs.declared.terminal.Terminal.{Terminal}
use Rattle.dts_parse.specs.declared.terminal.Terminal.TheVariants as terminal

abbrev pub is_u : ℕ → Bool
is_u b = nat_eq b upper_u || nat_eq b lower_u

abbrev pub is_l : ℕ → Bool
is_l b = nat_eq b upper_l || nat_eq b lower_l

abbrev pub is_long : List ℕ → Bool
is_long [] = true
is_long (a ∷ []) = is_l a
is_long (a ∷ b ∷ []) = is_l a && is_l b
is_long (a ∷ b ∷ c ∷ rest) = false

abbrev pub is_suffix : List ℕ → Bool
is_suffix [] = true
is_suffix (a ∷ rest) = (is_u a && is_long rest) || is_long (a ∷ rest)

-- one digit more; none where the number is 2 ^ 64 or more
abbrev pub with_digit : ℕ → ℕ → Option ℕ → Option ℕ
with_digit base d None = None
with_digit base d (Some n) = if nat_lt (n * base + d) (2 ^ 64) then Some (n * base + d) else None

abbrev pub digits_worth : ℕ → Option ℕ → List ℕ → Option ℕ
digits_worth base so_far [] = so_far
digits_worth base so_far (b ∷ rest) = digits_worth base (with_digit base (digit b) so_far) rest

abbrev pub number_terminal : Option ℕ → Terminal
number_terminal None = terminal.Huge
number_terminal (Some n) = terminal.Number n

-- n digits at the front, at least one, and a suffix after them
abbrev pub number_of_digits : ℕ → ℕ → List ℕ → Terminal
number_of_digits base n text =
    if nat_lt 0 n && is_suffix (drop n text) then number_terminal (digits_worth base (Some 0) (take n text))
    else terminal.Other

-- a word as a number
abbrev pub number : List ℕ → Terminal
number text =
    if starts_with nat_eq text (codes "0x") then number_of_digits 16 (prefix_len is_hex (drop 2 text)) (drop 2 text)
    else if starts_with nat_eq text (codes "0") then number_of_digits 8 (prefix_len is_octal text) text
    else number_of_digits 10 (prefix_len is_digit text) text
