-- The bytes of C text by what they begin or continue.
use Rattle.std.specs.Prelude.{ℕ, Bool, ◌&&◌, ◌||◌, List, nat_eq, nat_le, slice_index_or}

-- the byte at a place, 0 past the end
abbrev pub byte_at : List ℕ → ℕ → ℕ
byte_at bytes k = slice_index_or bytes k 0

-- a space, a tab, a vertical tab, a form feed or a carriage return
abbrev pub is_blank : ℕ → Bool
is_blank b = nat_eq b 32 || nat_eq b 9 || nat_eq b 11 || nat_eq b 12 || nat_eq b 13

-- a digit
abbrev pub is_digit : ℕ → Bool
is_digit b = nat_le 48 b && nat_le b 57

-- a letter or `_`
abbrev pub is_letter : ℕ → Bool
is_letter b = (nat_le 97 b && nat_le b 122) || (nat_le 65 b && nat_le b 90) || nat_eq b 95

-- a letter, a digit or `_`
abbrev pub is_word_byte : ℕ → Bool
is_word_byte b = is_letter b || is_digit b

-- `e`, `E`, `p` or `P`: behind it a sign belongs to a number
abbrev pub is_exponent : ℕ → Bool
is_exponent b = nat_eq b 101 || nat_eq b 69 || nat_eq b 112 || nat_eq b 80

-- `+` or `-`
abbrev pub is_sign : ℕ → Bool
is_sign b = nat_eq b 43 || nat_eq b 45

-- `"` or `'`
abbrev pub is_quote : ℕ → Bool
is_quote b = nat_eq b 34 || nat_eq b 39

-- `L`, `u` or `U`
abbrev pub is_prefix : ℕ → Bool
is_prefix b = nat_eq b 76 || nat_eq b 117 || nat_eq b 85

-- a punctuator by itself: one of `[ ] ( ) { } . & * + - ~ ! / % < > ^ | ? : ; = , #`
abbrev pub is_punctuator : ℕ → Bool
is_punctuator b = nat_eq b 91 || nat_eq b 93 || nat_eq b 40 || nat_eq b 41 || nat_eq b 123 || nat_eq b 125 || nat_eq b 46
    || nat_eq b 38 || nat_eq b 42 || nat_eq b 43 || nat_eq b 45 || nat_eq b 126 || nat_eq b 33 || nat_eq b 47 || nat_eq b 37
    || nat_eq b 60 || nat_eq b 62 || nat_eq b 94 || nat_eq b 124 || nat_eq b 63 || nat_eq b 58 || nat_eq b 59 || nat_eq b 61
    || nat_eq b 44 || nat_eq b 35

-- a punctuator that makes another with a `=` behind it: one of `< > = ! * / % + - & ^ |`
abbrev pub takes_equals : ℕ → Bool
takes_equals b = nat_eq b 60 || nat_eq b 62 || nat_eq b 61 || nat_eq b 33 || nat_eq b 42 || nat_eq b 47 || nat_eq b 37
    || nat_eq b 43 || nat_eq b 45 || nat_eq b 38 || nat_eq b 94 || nat_eq b 124

-- a punctuator that makes another when it is doubled: one of `+ - & | < > #`
abbrev pub is_doubled : ℕ → Bool
is_doubled b = nat_eq b 43 || nat_eq b 45 || nat_eq b 38 || nat_eq b 124 || nat_eq b 60 || nat_eq b 62 || nat_eq b 35

-- a printable character that is a token by itself and no punctuator of C: one of `$ @ \` and the backquote
abbrev pub is_other : ℕ → Bool
is_other b = nat_eq b 36 || nat_eq b 64 || nat_eq b 92 || nat_eq b 96
