-- The logical lines of a text.
use Rattle.std.specs.Prelude.{◌≡◌, ℕ, ◌+◌, ◌<◌, Bool, true, false, ◌&&◌, List, [], ◌∷◌, ◌++◌, Option, Some, None, length, nat_eq, if◌then◌else◌}
use Rattle.std.specs.Str.{bytes_eq}
use Rattle.c_tokens.specs.declared.tok.Tok.{Tok}
use Rattle.c_tokens.specs.declared.tok.TokKind.{TokKind}
use Rattle.c_tokens.specs.declared.tok.TokKind.TheVariants as kind
use Rattle.c_tokens.specs.LineData.{LineData}
use Rattle.c_tokens.specs.Lexed.{Lexed, lexed}

-- ---- lines joined at a backslash

-- the first line with those that are joined to it: its bytes, what is left behind it, and how many newlines it took
pub record Cut : Type 0 where
  pub bytes : List ℕ
  pub rest : List ℕ
  pub newlines : ℕ

abbrev pub cut_end : (rest : List ℕ) → (newlines : ℕ) → Cut
cut_end rest newlines = record { bytes = []; rest = rest; newlines = newlines }

abbrev pub with_byte : ℕ → Cut → Cut
with_byte b c = record { bytes = b ∷ c.bytes; rest = c.rest; newlines = c.newlines }

abbrev pub with_newline : Cut → Cut
with_newline c = record { bytes = c.bytes; rest = c.rest; newlines = c.newlines + 1 }

-- a newline ends the line, but not behind a backslash: the two are left out
abbrev pub cut : List ℕ → Cut
cut [] = cut_end [] 0
cut (b ∷ []) = if nat_eq b 10 then cut_end [] 1 else with_byte b (cut_end [] 0)
cut (b ∷ c ∷ bs) = if nat_eq b 92 && nat_eq c 10 then with_newline (cut bs)
    else if nat_eq b 10 then cut_end (c ∷ bs) 1 else with_byte b (cut (c ∷ bs))

-- ---- lines joined by comments

-- a logical line: its tokens, what is left behind it, and how many newlines it took
pub record Logical : Type 0 where
  pub toks : List Tok
  pub rest : List ℕ
  pub newlines : ℕ

-- a logical line that goes on as another one does
abbrev pub going_on : List Tok → ℕ → Option Logical → Option Logical
going_on toks newlines None = None
going_on toks newlines (Some l) = Some (record { toks = toks ++ l.toks; rest = l.rest; newlines = newlines + l.newlines })

-- the logical line at the front of a text, `None` where it isn't made of tokens; `commented` says that the text begins within a comment of it
pub data LogicalLine : (commented : Bool) → List ℕ → Option Logical → Type 0 where
  -- no comment is left open at the end of the joined line
  closes : (commented : Bool) (text : List ℕ) (toks : List Tok) → lexed commented (cut text).bytes ≡ Some (record { toks = toks; unclosed = false })
      → LogicalLine commented text (Some (record { toks = toks; rest = (cut text).rest; newlines = (cut text).newlines }))
  -- one is left open, and the next joined line goes on with it
  goes_on : (commented : Bool) (text : List ℕ) (toks : List Tok) (o : Option Logical) → lexed commented (cut text).bytes ≡ Some (record { toks = toks; unclosed = true })
      → 0 < length (cut text).rest → LogicalLine true (cut text).rest o → LogicalLine commented text (going_on toks (cut text).newlines o)
  -- one is left open at the end of the text
  stays_open : (commented : Bool) (text : List ℕ) (toks : List Tok) → lexed commented (cut text).bytes ≡ Some (record { toks = toks; unclosed = true })
      → length (cut text).rest ≡ 0 → LogicalLine commented text None
  -- no token stands at some place
  no_token : (commented : Bool) (text : List ℕ) → lexed commented (cut text).bytes ≡ None → LogicalLine commented text None

-- ---- the lines of a text

-- what is left of a text, and the number of the line at which it begins
pub record Unread : Type 0 where
  pub rest : List ℕ
  pub number : ℕ

abbrev pub is_hash_kind : TokKind → Bool
is_hash_kind kind.Punct = true
is_hash_kind _ = false

-- the token is `#`
abbrev pub is_hash : Tok → Bool
is_hash t = is_hash_kind t.kind && bytes_eq t.spell (35 ∷ [])

-- the line is a directive: its first token is `#`
abbrev pub begins_hash : List Tok → Bool
begins_hash [] = false
begins_hash (t ∷ ts) = is_hash t

-- a logical line with its number
abbrev pub line_of : ℕ → Logical → LineData
line_of number l = record { number = number; directive = begins_hash l.toks; toks = l.toks }

-- what is left behind a logical line
abbrev pub left_behind : Unread → Logical → Unread
left_behind u l = record { rest = l.rest; number = u.number + l.newlines }

-- how the lines of a text end: at its end, or at the line of this number, which isn't made of tokens
pub data Ending : Type 0 where
  AtEnd : (number : ℕ) → Ending
  NoTokens : (number : ℕ) → Ending

-- the lines of a text
pub data LinesOf : Unread → List LineData → Ending → Type 0 where
  no_more : (u : Unread) → length u.rest ≡ 0 → LinesOf u [] (AtEnd u.number)
  one_more : (u : Unread) (l : Logical) (ls : List LineData) (e : Ending) → 0 < length u.rest → LogicalLine false u.rest (Some l)
      → LinesOf (left_behind u l) ls e → LinesOf u (line_of u.number l ∷ ls) e
  refused : (u : Unread) → 0 < length u.rest → LogicalLine false u.rest None → LinesOf u [] (NoTokens u.number)

-- each text has one list of lines
abbrev pub HasOneList : Type 0
HasOneList = (u : Unread) → (ls : List LineData) × (e : Ending) × LinesOf u ls e × ((ks : List LineData) (f : Ending) → LinesOf u ks f → (ls ≡ ks) × (e ≡ f))
