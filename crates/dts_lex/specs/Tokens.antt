-- The tokens of a source: which one stands where, and what is open after it.
use Rattle.std.specs.Prelude.{◌≡◌, ℕ, zero, suc, ◌+◌, ◌-◌, max, Bool, true, false, ◌&&◌, ◌||◌, not, List, [], ◌∷◌, Option, Some, None, Result, Ok, Err, nat_eq, nat_lt, nat_le, drop, take, length, codes, option_map, if◌then◌else◌}
use Rattle.std.specs.List.{prefix_len, starts_with}
use Rattle.edt_base.specs.Ascii.{ampersand, asterisk, backslash, caret, colon, comma, digit_3, double_quote, equals, exclamation, greater_than, hyphen, left_brace, left_bracket, left_parenthesis, less_than, lower_x, newline, percent, plus, question, right_brace, right_bracket, right_parenthesis, semicolon, single_quote, slash, tilde, vertical_bar}
use Rattle.edt_base.specs.SourceBytes.{is_plain, is_wide, is_hex, is_octal, begins_label}
use Rattle.dts_lex.specs.Between.{gap, start}
use Rattle.dts_lex.specs.Names.{is_path}
use Rattle.dts_lex.specs.Left.{Left}
use Rattle.dts_lex.specs.declared.opened.Opened.{Opened}
use Rattle.dts_lex.specs.declared.token.Found.{Found}
use Rattle.dts_lex.specs.declared.lexer.SpanKind.{SpanKind}
use Rattle.dts_lex.specs.declared.lexer.SpanKind.TheVariants as kind
use Rattle.dts_lex.specs.declared.lexer.Span.{Span}
use Rattle.dts_lex.specs.declared.lexer.LexFault.{LexFault}

abbrev pub found : SpanKind → ℕ → Option Found
found k n = Some (record { kind = k; size = n })

-- ---- words

-- lists, parentheses and values have plain words alone
abbrev pub is_narrow : Opened → Bool
is_narrow o = nat_lt 0 o.rounds || nat_lt 0 o.angles || o.value

abbrev pub in_rounds : Opened → Bool
in_rounds o = nat_lt 0 o.rounds

abbrev pub is_word_byte : Bool → ℕ → Bool
is_word_byte narrow b = if narrow then is_plain b else is_wide b

-- a colon stands at the start
abbrev pub at_colon : List ℕ → Bool
at_colon [] = false
at_colon (b ∷ rest) = nat_eq b colon

-- two hexadecimal digits stand at the start
abbrev pub at_pair : List ℕ → Bool
at_pair (a ∷ b ∷ rest) = is_hex a && is_hex b
at_pair _ = false

-- a pair of hexadecimal digits
abbrev pub pair : List ℕ → Option Found
pair bytes = if at_pair bytes then found kind.HexPair 2 else None

abbrev pub at_word : Bool → List ℕ → Bool
at_word narrow [] = false
at_word narrow (b ∷ rest) = is_word_byte narrow b

-- the token of a word of n bytes: before a colon a name; within `[ ]` a pair of digits; in a list, or where a number is
-- wanted, a number; else a name
abbrev pub word : Opened → ℕ → List ℕ → Option Found
word o n bytes =
    if not (in_rounds o) && at_colon (drop n bytes) then found kind.Name n
    else if not (in_rounds o) && nat_lt 0 o.squares then pair bytes
    else if nat_lt 0 o.angles || nat_lt 0 o.numbers then found kind.Number n
    else found kind.Name n

-- ---- quotes

-- whether the byte after this one is escaped, none at the closing quote; after a backslash any byte is text
abbrev pub escapes : Bool → ℕ → Option Bool
escapes true b = Some false
escapes false b = if nat_eq b double_quote then None else Some (nat_eq b backslash)

-- how many bytes a string literal has, its closing quote with it, where one stands
abbrev pub quoted : Bool → List ℕ → Option ℕ
quoted escaped [] = None
quoted escaped (b ∷ rest) = elim (escapes escaped b) [
  | None ↦ Some 1
  | Some next ↦ option_map (λ n. suc n)
      (quoted next rest)
]

-- how many bytes an escape has after its backslash: up to three octal digits, up to 377; `x` and up to two hexadecimal
-- digits; else one byte
abbrev pub escape : List ℕ → ℕ
escape [] = 0
escape (b ∷ rest) =
    if is_octal b then suc (prefix_len is_octal (take (if nat_le b digit_3 then 2 else 1) rest))
    else if nat_eq b lower_x then suc (prefix_len is_hex (take 2 rest))
    else 1

abbrev pub at_quote : List ℕ → Bool
at_quote [] = false
at_quote (b ∷ rest) = nat_eq b single_quote

-- how many bytes stand between the quotes of a character: one, no quote, backslash or newline, or one escape
abbrev pub char_size : List ℕ → ℕ
char_size [] = 0
char_size (b ∷ rest) = if nat_eq b backslash then (if nat_eq (escape rest) 0 then 0 else suc (escape rest))
    else if nat_eq b single_quote
    || nat_eq b newline then 0 else 1

-- ---- references

abbrev pub is_no_brace : ℕ → Bool
is_no_brace b = not (nat_eq b right_brace)

-- a path, its closing brace with it
abbrev pub path_reference : List ℕ → Option Found
path_reference rest =
    if is_path (take (prefix_len is_no_brace rest) rest) && nat_lt (prefix_len is_no_brace rest) (length rest)
    then found kind.PathRef (3 + prefix_len is_no_brace rest) else None

-- a path in braces, or a label, as far as it goes
abbrev pub reference : List ℕ → Option Found
reference [] = None
reference (b ∷ rest) =
    if nat_eq b left_brace then path_reference rest
    else if begins_label b then found kind.Ref (2 + prefix_len is_plain rest)
    else None

-- ---- directives and punctuators

abbrev pub directives : List (List ℕ)
directives = codes "/dts-v1/" ∷ codes "/plugin/" ∷ codes "/memreserve/" ∷ codes "/delete-node/"
    ∷ codes "/delete-property/"
    ∷ codes "/omit-if-no-ref/" ∷ codes "/bits/" ∷ codes "/include/" ∷ codes "/incbin/" ∷ []

-- how many bytes the directive at the start has, 0 without one
abbrev pub directive_in : List (List ℕ) → List ℕ → ℕ
directive_in [] bytes = 0
directive_in (d ∷ ds) bytes = if starts_with nat_eq bytes d then length d else directive_in ds bytes

-- the punctuators outside parentheses: ( ) [ ] { } < > / : ; = ,
abbrev pub is_outer_punctuator : ℕ → Bool
is_outer_punctuator b = nat_eq b left_parenthesis || nat_eq b right_parenthesis || nat_eq b left_bracket
    || nat_eq b right_bracket || nat_eq b left_brace || nat_eq b right_brace
    || nat_eq b less_than || nat_eq b greater_than
    || nat_eq b slash || nat_eq b colon || nat_eq b semicolon || nat_eq b equals || nat_eq b comma

-- the operators of one byte that are no punctuators outside: - ~ ! * % + & ^ | ?
abbrev pub is_operator : ℕ → Bool
is_operator b = nat_eq b hyphen || nat_eq b tilde || nat_eq b exclamation || nat_eq b asterisk || nat_eq b percent
    || nat_eq b plus || nat_eq b ampersand
    || nat_eq b caret
    || nat_eq b vertical_bar || nat_eq b question

-- the operators of two bytes: << <= >> >= == != && ||
abbrev pub is_double : ℕ → ℕ → Bool
is_double a b =
    (nat_eq a less_than && (nat_eq b less_than || nat_eq b equals)) || (nat_eq a greater_than
    && (nat_eq b greater_than || nat_eq b equals))
    || (nat_eq b equals && (nat_eq a equals || nat_eq a exclamation))
    || (nat_eq a ampersand && nat_eq b ampersand) || (nat_eq a vertical_bar && nat_eq b vertical_bar)

abbrev pub at_double : List ℕ → Bool
at_double (a ∷ b ∷ rest) = is_double a b
at_double _ = false

-- how many bytes the punctuator at the start has, 0 without one; an open comment is none
abbrev pub punctuator : Bool → List ℕ → ℕ
punctuator rounds [] = 0
punctuator rounds (b ∷ rest) =
    if starts_with nat_eq (b ∷ rest) (codes "/*") then 0
    else if rounds && at_double (b ∷ rest) then 2
    else if is_outer_punctuator b || (rounds && is_operator b) then 1
    else 0

abbrev pub sized : SpanKind → ℕ → Option Found
sized k zero = None
sized k (suc n) = found k (suc n)

-- ---- the token at the start

-- a character, both quotes with it
abbrev pub char : List ℕ → Option Found
char rest = if nat_lt 0 (char_size rest) && at_quote (drop (char_size rest) rest)
    then found kind.Char (2 + char_size rest) else None

-- a directive, or a punctuator
abbrev pub mark : Opened → List ℕ → Option Found
mark o bytes = if not (in_rounds o) && nat_lt 0 (directive_in directives bytes)
    then found kind.Directive (directive_in directives bytes)
    else sized kind.Punct (punctuator (in_rounds o) bytes)

-- a text, both quotes with it
abbrev pub text : List ℕ → Option Found
text rest = option_map (λ n. record { kind = kind.Str; size = suc n }) (quoted false rest)

-- what stands at the start, where no gap stands; none where no token does
abbrev pub stands : Opened → List ℕ → Option Found
stands o [] = None
stands o (b ∷ rest) =
    if is_word_byte (is_narrow o) b then word o (prefix_len (is_word_byte (is_narrow o)) (b ∷ rest)) (b ∷ rest)
    else if nat_eq b double_quote then text rest
    else if nat_eq b single_quote then char rest
    else if nat_eq b ampersand && not (in_rounds o) then reference rest
    else mark o (b ∷ rest)

-- ---- what is open after a token

abbrev pub below : ℕ → ℕ
below zero = zero
below (suc n) = n

-- after a punctuator of one byte; within parentheses `<` and `>` are operators
abbrev pub behind_punctuator : Opened → ℕ → Opened
behind_punctuator o b =
    if nat_eq b left_parenthesis then record o { rounds = suc o.rounds }
    else if nat_eq b right_parenthesis then record o { rounds = below o.rounds }
    else if nat_eq b left_bracket then record o { squares = suc o.squares }
    else if nat_eq b right_bracket then record o { squares = below o.squares }
    else if nat_eq b less_than && not (in_rounds o) then record o { angles = suc o.angles }
    else if nat_eq b greater_than && not (in_rounds o) then record o { angles = below o.angles }
    else if nat_eq b equals then record o { value = true }
    else if nat_eq b semicolon then record o { value = false }
    else o

abbrev pub at_least : ℕ → ℕ → ℕ
at_least n m = if nat_lt n m then m else n

abbrev pub behind_directive : Opened → List ℕ → Opened
behind_directive o text =
    if starts_with nat_eq text (codes "/bits/") then record o { numbers = at_least o.numbers 1 }
    else if starts_with nat_eq text (codes "/memreserve/") then record o { numbers = at_least o.numbers 2 }
    else o

abbrev pub behind : Opened → SpanKind → List ℕ → Opened
behind o kind.Number text = record o { numbers = below o.numbers }
behind o kind.Directive text = behind_directive o text
behind o kind.Punct (b ∷ []) = behind_punctuator o b
behind o _ text = o

-- ---- the next token

abbrev pub next_at : Left → List ℕ → ℕ → Option Found → Result (Option (Span × Left)) LexFault
next_at l [] at f = Ok None
next_at l (b ∷ rest) at None = Err (record { at = at })
next_at l (b ∷ rest) at (Some f) = Ok (Some (
  record { kind = f.kind; start = at; end = at + f.size },
  record { bytes = drop f.size (b ∷ rest); at = at + f.size; opened = behind l.opened f.kind (take f.size (b ∷ rest)) },
))

-- the bytes after the gap, and where they begin
abbrev pub rest_of : Left → List ℕ
rest_of l = drop (gap (start l.at) l.bytes) l.bytes

abbrev pub place_of : Left → ℕ
place_of l = l.at + gap (start l.at) l.bytes

-- the next token with what is left after it; none where only a gap is left; a fault where no token stands
abbrev pub next_of : Left → Result (Option (Span × Left)) LexFault
next_of l = next_at l (rest_of l) (place_of l) (stands l.opened (rest_of l))

-- What a call gives, and what it leaves: a fault or none leaves all as it is, and so comes again.
abbrev pub Reads : Left → Result (Option Span) LexFault → Left → Type 0
Reads old (Ok (Some span)) new = next_of old ≡ Ok (Some (span, new))
Reads old (Ok None) new = (next_of old ≡ Ok None) × (new ≡ old)
Reads old (Err fault) new = (next_of old ≡ Err fault) × (new ≡ old)
