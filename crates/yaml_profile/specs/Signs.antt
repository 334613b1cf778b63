-- Characters that mean something, and what may follow them. A list of characters ends where the file does.
use Rattle.std.specs.Prelude.{ℕ, ◌+◌, Bool, true, false, ◌&&◌, ◌||◌, ◌==◌, List, [], ◌∷◌, if◌then◌else◌, nat_le}
use Rattle.edt_base.specs.Ascii.{ampersand, asterisk, at_sign, backquote, carriage_return, colon, comma, digit_0, digit_9, exclamation, full_stop, hash, hyphen, left_brace, left_bracket, newline, percent, question, right_brace, right_bracket, space, tab}

-- a space or a tab
abbrev pub is_blank : ℕ → Bool
is_blank c = (c == space) || (c == tab)

-- the next character is this one
abbrev pub begins_with : ℕ → List ℕ → Bool
begins_with d [] = false
begins_with d (c ∷ cs) = c == d

-- a line ends here: a line feed, with a carriage return before it or without, or the end of the file
abbrev pub ends_line : List ℕ → Bool
ends_line [] = true
ends_line (c ∷ cs) = (c == newline) || ((c == carriage_return) && begins_with newline cs)

-- a space stands here, or a line ends
abbrev pub ends_word : List ℕ → Bool
ends_word rest = begins_with space rest || ends_line rest

-- a character at this place is taken and what stands after it is not: a carriage return may still begin a
-- line end, and then it is the byte after that
abbrev pub behind : ℕ → List ℕ → ℕ
behind at rest = if begins_with carriage_return rest then at + 2 else at + 1

-- this character isn't taken
abbrev pub place_of : ℕ → ℕ → ℕ
place_of at c = if c == carriage_return then at + 1 else at

-- `---` or `...` as a word begins with this character
abbrev pub begins_mark : ℕ → List ℕ → Bool
begins_mark c (d ∷ e ∷ more) = ((c == hyphen) || (c == full_stop)) && (d == c) && (e == c) && ends_word more
begins_mark c _ = false

-- what ends a plain text inside a flow list: `,`, `[`, `]`, `{` and `}`
abbrev pub is_flow_sign : ℕ → Bool
is_flow_sign c = (c == comma) || (c == left_bracket) || (c == right_bracket) || (c == left_brace) || (c == right_brace)

-- `-`, `?` and `:` begin a plain text only before a character that isn't a space
abbrev pub is_word_sign : ℕ → Bool
is_word_sign c = (c == hyphen) || (c == question) || (c == colon)

-- where a value begins these make a form that is left out: `&`, `*`, `!`, `%` and `{`
abbrev pub is_left_out : ℕ → Bool
is_left_out c = (c == ampersand) || (c == asterisk) || (c == exclamation) || (c == percent) || (c == left_brace)

-- nothing begins with these: `,`, `]`, `}`, `#`, `@` and the backquote
abbrev pub begins_nothing : ℕ → Bool
begins_nothing c = (c == comma) || (c == right_bracket) || (c == right_brace) || (c == hash) || (c == at_sign)
    || (c == backquote)

abbrev pub is_digit : ℕ → Bool
is_digit c = nat_le digit_0 c && nat_le c digit_9

-- after a text, a character that is broken off counts as one that means nothing
abbrev pub broken_off : Bool → List ℕ
broken_off true = 0xE9 ∷ []
broken_off false = []

abbrev pub broken_len : Bool → ℕ
broken_len true = 2
broken_len false = 0

-- what is left of a file, and the byte at which that begins
pub record Left : Type 0 where
  pub at : ℕ
  pub chars : List ℕ
