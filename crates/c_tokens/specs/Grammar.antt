-- What stands at the front of a line of C text: white space, a comment or a token, as long as it can be.
use Rattle.std.specs.Prelude.{ℕ, zero, suc, ◌+◌, ◌<◌, ◌≤◌, Bool, true, false, not, ◌&&◌, ◌||◌, List, [], ◌∷◌, Option, Some, None, option_map, length, drop, nat_eq, if◌then◌else◌}
use Rattle.std.specs.List.{prefix_len}
use Rattle.c_tokens.specs.declared.tok.TokKind.{TokKind}
use Rattle.c_tokens.specs.declared.tok.TokKind.TheVariants as kind
use Rattle.c_tokens.specs.declared.grammar.Piece.{Piece}
use Rattle.c_tokens.specs.declared.grammar.Piece.TheVariants as piece
use Rattle.c_tokens.specs.Bytes.{byte_at, is_blank, is_digit, is_letter, is_word_byte, is_exponent, is_sign, is_quote, is_prefix, is_punctuator, takes_equals, is_doubled, is_other}

-- how long a comment is from behind its `/*` to its `*/`, and `None` where it isn't closed; `star` says that a `*` stands before these bytes
abbrev pub comment_end : (star : Bool) → List ℕ → Option ℕ
comment_end star [] = None
comment_end star (b ∷ bs) = if star && nat_eq b 47 then Some 1 else option_map suc (comment_end (nat_eq b 42) bs)

-- how long a literal is from behind its quote to the next that no backslash escapes
abbrev pub literal_end : (quote : ℕ) → (escaped : Bool) → List ℕ → Option ℕ
literal_end quote escaped [] = None
literal_end quote escaped (b ∷ bs) = if not escaped && nat_eq b quote then Some 1 else option_map suc (literal_end quote (not escaped && nat_eq b 92) bs)

-- how many bytes more belong to a number; `exponent` says that the byte before them may have a sign behind it
abbrev pub number_rest : (exponent : Bool) → List ℕ → ℕ
number_rest exponent [] = 0
number_rest exponent (b ∷ bs) = if is_word_byte b || nat_eq b 46 || (exponent && is_sign b) then suc (number_rest (is_exponent b) bs) else 0

-- where the quote of a literal stands that begins with these bytes: first, or behind `L`, `u`, `U` or, for a string, `u8`
abbrev pub quote_place : (a b c : ℕ) → Option ℕ
quote_place a b c = if is_quote a then Some 0 else if is_prefix a && is_quote b then Some 1
    else if nat_eq a 117 && nat_eq b 56 && nat_eq c 34 then Some 2 else None

-- a number begins with a digit, or with a dot and a digit
abbrev pub begins_number : (a b : ℕ) → Bool
begins_number a b = is_digit a || (nat_eq a 46 && is_digit b)

-- `...`, `<<=` or `>>=`
abbrev pub is_three : (a b c : ℕ) → Bool
is_three a b c = (nat_eq a 46 && nat_eq b 46 && nat_eq c 46) || ((nat_eq a 60 || nat_eq a 62) && nat_eq b a && nat_eq c 61)

-- `->`, a doubled one, or one with `=`
abbrev pub is_two : (a b : ℕ) → Bool
is_two a b = (nat_eq a 45 && nat_eq b 62) || (is_doubled a && nat_eq b a) || (takes_equals a && nat_eq b 61)

-- how long the punctuator is that begins with these bytes, 0 where none does
abbrev pub punctuator_length : (a b c : ℕ) → ℕ
punctuator_length a b c = if is_three a b c then 3 else if is_two a b then 2 else if is_punctuator a then 1 else 0

-- a punctuator, another printable character, or nothing
abbrev pub sign_of_length : ℕ → ℕ → Piece
sign_of_length zero a = if is_other a then piece.Token kind.Other 1 else piece.Nothing
sign_of_length (suc n) a = piece.Token kind.Punct (suc n)

-- a literal whose quote stands at the place and whose rest has this length; an empty character constant is none
abbrev pub literal_of : (quote place : ℕ) → Option ℕ → Piece
literal_of quote place None = piece.Nothing
literal_of quote place (Some n) = if nat_eq quote 34 then piece.Token kind.Str (place + 1 + n)
    else if nat_eq n 1 then piece.Nothing else piece.Token kind.Char (place + 1 + n)

abbrev pub comment_of : Option ℕ → Piece
comment_of None = piece.Unclosed
comment_of (Some n) = piece.Gap (2 + n)

-- an identifier, a number or a sign
abbrev pub plain_front : List ℕ → Piece
plain_front bytes = let a = byte_at bytes 0 in let b = byte_at bytes 1 in
    if is_letter a then piece.Token kind.Ident (prefix_len is_word_byte bytes)
    else if begins_number a b then piece.Token kind.Number (1 + number_rest false (drop 1 bytes))
    else sign_of_length (punctuator_length a b (byte_at bytes 2)) a

-- a literal, if its quote stands at a place
abbrev pub token_front : Option ℕ → List ℕ → Piece
token_front None bytes = plain_front bytes
token_front (Some place) bytes = literal_of (byte_at bytes place) place (literal_end (byte_at bytes place) false (drop (place + 1) bytes))

-- what stands at the front: one byte of white space, a comment, the rest of the line behind `//`, or a token
abbrev pub front : List ℕ → Piece
front bytes = let a = byte_at bytes 0 in let b = byte_at bytes 1 in
    if is_blank a then piece.Gap 1
    else if nat_eq a 47 && nat_eq b 42 then comment_of (comment_end false (drop 2 bytes))
    else if nat_eq a 47 && nat_eq b 47 then piece.Gap (length bytes)
    else token_front (quote_place a b (byte_at bytes 2)) bytes

abbrev pub kind_of_front : Piece → ℕ → Option TokKind
kind_of_front (piece.Token k n) m = if nat_eq n m then Some k else None
kind_of_front _ m = None

-- the kind of the one token that these bytes are, if they are one
abbrev pub kind_of : List ℕ → Option TokKind
kind_of bytes = kind_of_front (front bytes) (length bytes)

-- what stands at the front of so many bytes has one of them at least and ends within them
abbrev pub IsWithin : ℕ → Piece → Type 0
IsWithin size (piece.Gap n) = (0 < n) × (n ≤ size)
IsWithin size (piece.Token k n) = (0 < n) × (n ≤ size)
IsWithin size _ = Unit {0}
