-- What numbers, characters, texts and references stand for.
use Rattle.std.specs.Prelude.{ℕ, zero, suc, ◌+◌, ◌-◌, ◌*◌, ◌%◌, ◌^◌, Bool, true, false, ◌&&◌, ◌||◌, List, [], ◌∷◌, ◌++◌, Option, Some, None, nat_eq, nat_lt, nat_le, drop, take, length, if◌then◌else◌}
use Rattle.std.specs.Int.{w16, w64, to_be_bytes}
use Rattle.edt_base.specs.Ascii.{backslash, carriage_return, digit_0, digit_3, digit_9, form_feed, left_brace, lower_a, lower_b, lower_f, lower_n, lower_r, lower_t, lower_v, lower_x, newline, tab, upper_z, vertical_tab}
use Rattle.edt_base.specs.SourceBytes.{is_octal, is_hex}
use Rattle.dts_lex.specs.Tokens.{escape}
use Rattle.dts_parse.specs.declared.script.Target.{Target}
use Rattle.dts_parse.specs.declared.script.Target.TheVariants as target
use Rattle.dts_parse.specs.declared.terminal.Width.{Width}
use Rattle.dts_parse.specs.declared.terminal.Width.TheVariants.{Bits8, Bits16, Bits32, Bits64}

-- ---- digits

abbrev pub digit : ℕ → ℕ
digit b = if nat_le b digit_9 then b - digit_0 else if nat_le b upper_z then b - 55 else b - 87

-- a byte of two digits
abbrev pub two_digits : ℕ → ℕ → ℕ → ℕ
two_digits base a b = (a * base + b) % 256

-- two hexadecimal digits
abbrev pub pair_worth : List ℕ → ℕ
pair_worth (a ∷ b ∷ rest) = two_digits 16 (digit a) (digit b)
pair_worth _ = 0

-- ---- escapes

-- up to three octal digits, up to 377
abbrev pub octal_two : ℕ → ℕ → List ℕ → ℕ
octal_two a b [] = two_digits 8 (a - digit_0) (b - digit_0)
octal_two a b (c ∷ rest) = if nat_le a digit_3 && is_octal c
    then two_digits 8 (two_digits 8 (a - digit_0) (b - digit_0)) (c - digit_0)
    else two_digits 8 (a - digit_0) (b - digit_0)

abbrev pub octal : ℕ → List ℕ → ℕ
octal a [] = a - digit_0
octal a (b ∷ rest) = if is_octal b then octal_two a b rest else a - digit_0

-- after `x` up to two hexadecimal digits; without one it stands for itself
abbrev pub hexes_two : ℕ → List ℕ → ℕ
hexes_two a [] = digit a
hexes_two a (b ∷ rest) = if is_hex b then two_digits 16 (digit a) (digit b) else digit a

abbrev pub hexes : List ℕ → ℕ
hexes [] = 120
hexes (a ∷ rest) = if is_hex a then hexes_two a rest else 120

-- `\a \b \t \n \v \f \r`; another character stands for itself
abbrev pub letter : ℕ → ℕ
letter b =
    if nat_eq b lower_a then 7 else if nat_eq b lower_b then 8 else if nat_eq b lower_t then tab
    else if nat_eq b lower_n then newline
    else if nat_eq b lower_v then vertical_tab else if nat_eq b lower_f then form_feed else if nat_eq b lower_r
    then carriage_return else b

-- the byte of the escape whose backslash stands before
abbrev pub escaped : List ℕ → ℕ
escaped [] = 92
escaped (b ∷ rest) = if is_octal b then octal b rest else if nat_eq b lower_x then hexes rest else letter b

-- the bytes of a text, of which some at the front belong to an escape that is read
abbrev pub unescaped : ℕ → List ℕ → List ℕ
unescaped skip [] = []
unescaped (suc skip) (b ∷ rest) = unescaped skip rest
unescaped zero (b ∷ rest) = if nat_eq b backslash then escaped rest ∷ unescaped (escape rest) rest
    else b ∷ unescaped 0 rest

-- what stands between quotes or braces: without the first so many bytes and without the last
abbrev pub within : ℕ → List ℕ → List ℕ
within n text = take (length (drop n text) - 1) (drop n text)

-- the bytes of a text in quotes, and a zero
abbrev pub text_bytes : List ℕ → List ℕ
text_bytes text = unescaped 0 (within 1 text) ++ 0 ∷ []

-- the byte of a character in quotes
abbrev pub char_worth : List ℕ → ℕ
char_worth (quote ∷ b ∷ rest) = if nat_eq b backslash then escaped rest else b
char_worth _ = 0

-- ---- references

abbrev pub begins_path : List ℕ → Bool
begins_path [] = false
begins_path (b ∷ rest) = nat_eq b left_brace

-- what a reference names: after its `&` a path in braces, or a label
abbrev pub target_of : List ℕ → Target
target_of [] = target.ByLabel []
target_of (a ∷ rest) = if begins_path rest then target.ByPath (within 1 rest) else target.ByLabel rest

-- ---- elements

-- below 2 ^ b, or at least 2 ^ 64 - 2 ^ (b - 1)
abbrev pub fits : Width → ℕ → Bool
fits Bits8 n = nat_lt n (2 ^ 8) || nat_le (2 ^ 64 - 2 ^ 7) n
fits Bits16 n = nat_lt n (2 ^ 16) || nat_le (2 ^ 64 - 2 ^ 15) n
fits Bits32 n = nat_lt n (2 ^ 32) || nat_le (2 ^ 64 - 2 ^ 31) n
fits Bits64 n = true

abbrev pub element_bytes : Width → ℕ → List ℕ
element_bytes Bits8 n = n % 2 ^ 8 ∷ []
element_bytes Bits16 n = to_be_bytes w16 (n % 2 ^ 16)
element_bytes Bits32 n = []
element_bytes Bits64 n = to_be_bytes w64 n

-- the number after `/bits/`
abbrev pub width_of : ℕ → Option Width
width_of n = if nat_eq n 8 then Some Bits8 else if nat_eq n 16 then Some Bits16 else if nat_eq n 32 then Some Bits32
    else if nat_eq n 64 then Some Bits64 else None
