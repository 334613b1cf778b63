-- Laws of tokens and lines, for those who reason about texts.
use Rattle.std.specs.Prelude.{◌≡◌, ◌↔◌, ℕ, suc, ◌+◌, Bool, true, false, ◌&&◌, ◌||◌, List, [], ◌∷◌, ◌++◌, Option, Some, option_map, map, nat_eq, if◌then◌else◌}
use Rattle.std.specs.List.{list_all}
use Rattle.std.specs.Str.{is_utf8}
use Rattle.c_tokens.specs.declared.tok.Tok.{Tok}
use Rattle.c_tokens.specs.declared.tok.TokKind.TheVariants as kind
use Rattle.c_tokens.specs.LineData.{LineData}
use Rattle.c_tokens.specs.Bytes.{is_letter, is_word_byte, is_quote, is_doubled}
use Rattle.c_tokens.specs.Grammar.{kind_of}
use Rattle.c_tokens.specs.Lexed.{lexed, lexed_behind, with_tok}
use Rattle.c_tokens.specs.Lines.{Unread, LinesOf, AtEnd}
use Rattle.c_tokens.specs.Shown.{shown}

-- a letter, and behind it letters and digits
abbrev pub is_identifier : List ℕ → Bool
is_identifier [] = false
is_identifier (b ∷ bs) = is_letter b && list_all is_word_byte bs

-- these spellings and no others are identifiers
abbrev pub IdentifiersAreWords : Type 0
IdentifiersAreWords = (bytes : List ℕ) → (kind_of bytes ≡ Some kind.Ident) ↔ (is_identifier bytes ≡ true)

-- an identifier with letters and digits behind it is one identifier
abbrev pub IdentifiersGrow : Type 0
IdentifiersGrow = (word more : List ℕ) → kind_of word ≡ Some kind.Ident → list_all is_word_byte more ≡ true → kind_of (word ++ more) ≡ Some kind.Ident

-- the token is what its spelling is
pub record IsToken (t : Tok) : Type 0 where
  pub told : kind_of t.spell ≡ Some t.kind
  pub utf8 : is_utf8 t.spell ≡ true

-- a byte that may belong to the token before it or make another thing of it
abbrev pub continues : ℕ → Bool
continues b = is_word_byte b || (is_quote b || (is_doubled b || (nat_eq b 46 || (nat_eq b 61 || (nat_eq b 42 || nat_eq b 47)))))

abbrev pub respaced : (spaced : Bool) → Tok → Tok
respaced spaced t = record { spell = t.spell; kind = t.kind; spaced = spaced }

-- before any other byte a spelling is read as itself
abbrev pub SpellingsAreRead : Type 0
SpellingsAreRead = (spaced : Bool) (t : Tok) (b : ℕ) (rest : List ℕ) → IsToken t → continues b ≡ false
    → lexed_behind spaced 0 (t.spell ++ b ∷ rest) ≡ option_map (λ l. with_tok (respaced spaced t) l) (lexed_behind false 0 (b ∷ rest))

abbrev pub AreTokens : List Tok → Type 0
AreTokens [] = Unit {0}
AreTokens (t ∷ ts) = IsToken t × AreTokens ts

-- tokens as they are read from their spellings with spaces between
abbrev pub read_toks : List Tok → List Tok
read_toks [] = []
read_toks (t ∷ ts) = respaced false t ∷ map (respaced true) ts

-- spellings with spaces between are read as their tokens
abbrev pub ShownTokensAreRead : Type 0
ShownTokensAreRead = (ts : List Tok) → AreTokens ts → lexed false (shown ts) ≡ Some (record { toks = read_toks ts; unclosed = false })

abbrev pub newlines_in : List ℕ → ℕ
newlines_in [] = 0
newlines_in (b ∷ bs) = if nat_eq b 10 then suc (newlines_in bs) else newlines_in bs

-- the number at the end of a text counts its newlines
abbrev pub NumbersCountNewlines : Type 0
NumbersCountNewlines = (u : Unread) (ls : List LineData) (n : ℕ) → LinesOf u ls (AtEnd n) → n ≡ u.number + newlines_in u.rest
