-- Tokens spelled with blanks between them, and when they are read from that text again.
use Rattle.std.specs.Prelude.{◌≡◌, ℕ, ◌+◌, Bool, true, false, ◌&&◌, ◌||◌, not, List, [], ◌∷◌, ◌++◌, Some, None, Ok, nat_eq, length}
use Rattle.std.specs.List.{list_all}
use Rattle.edt_base.specs.Ascii.{asterisk, colon, hash, newline, slash}
use Rattle.edt_base.specs.SourceBytes.{is_blank, is_letter, is_plain}
use Rattle.dts_lex.specs.Left.{Left}
use Rattle.dts_lex.specs.Tokens.{behind, found, in_rounds, is_double, is_narrow, is_word_byte, next_of, stands}
use Rattle.dts_lex.specs.declared.lexer.Span.{Span}
use Rattle.dts_lex.specs.declared.lexer.SpanKind.{SpanKind}
use Rattle.dts_lex.specs.declared.lexer.SpanKind.TheVariants as kind
use Rattle.dts_lex.specs.declared.opened.Opened.{Opened}

-- ---- the text

-- a token by its kind and its bytes, with the blanks before it
pub record Spelling : Type 0 where
  pub blanks : List ℕ
  pub kind : SpanKind
  pub text : List ℕ

-- the bytes of tokens one after another, and what follows them
abbrev pub spelled : List Spelling → List ℕ → List ℕ
spelled [] after = after
spelled (t ∷ ts) after = t.blanks ++ (t.text ++ spelled ts after)

-- where the token stands whose blanks begin at a byte
abbrev pub span_of : ℕ → Spelling → Span
span_of at t = record { kind = t.kind; start = at + length t.blanks; end = at + length t.blanks + length t.text }

abbrev pub spans_of : ℕ → List Spelling → List Span
spans_of at [] = []
spans_of at (t ∷ ts) = span_of at t ∷ spans_of (span_of at t).end ts

-- what is left after the tokens
abbrev pub left_after : ℕ → Opened → List Spelling → List ℕ → Left
left_after at o [] after = record { bytes = after; at = at; opened = o }
left_after at o (t ∷ ts) after = left_after (span_of at t).end (behind o t.kind t.text) ts after

-- ---- tokens that don't run together

-- a byte right after a token that belongs to it, or makes another thing of it: after a word another byte of words,
-- after a number or a pair of digits also a colon; after a slash what makes a comment or a directive of it; in
-- parentheses the second byte of an operator
abbrev pub goes_on : Opened → SpanKind → List ℕ → ℕ → Bool
goes_on o kind.Name text b = is_word_byte (is_narrow o) b
goes_on o kind.Number text b = is_word_byte (is_narrow o) b || nat_eq b colon
goes_on o kind.HexPair text b = is_word_byte (is_narrow o) b || nat_eq b colon
goes_on o kind.Ref text b = is_plain b
goes_on o kind.Punct (a ∷ []) b =
    (nat_eq a slash && (nat_eq b slash || (nat_eq b asterisk || is_letter b))) || (in_rounds o && is_double a b)
goes_on o _ text b = false

-- no such byte stands right after it
abbrev pub is_apart : Opened → SpanKind → List ℕ → List ℕ → Bool
is_apart o k text [] = true
is_apart o k text (b ∷ rest) = not (goes_on o k text b)

-- a line begins after blanks
abbrev pub at_line : Bool → List ℕ → Bool
at_line begun [] = begun
at_line begun (b ∷ blanks) = at_line (nat_eq b newline) blanks

abbrev pub begins_hash : List ℕ → Bool
begins_hash [] = false
begins_hash (b ∷ rest) = nat_eq b hash

-- where so much is open, and before what follows: all its bytes are a token of its kind, with blanks before it, where
-- no line begins with `#`, and without a byte after it that goes on with it
pub record IsFit (begun : Bool) (o : Opened) (t : Spelling) (after : List ℕ) : Type 0 where
  pub blank : list_all is_blank t.blanks ≡ true
  pub within : (at_line begun t.blanks && begins_hash t.text) ≡ false
  pub whole : stands o t.text ≡ found t.kind (length t.text)
  pub apart : is_apart o t.kind t.text after ≡ true

-- each token is fit where it stands; a line has begun at the start of a source alone
abbrev pub AreFit : Bool → Opened → List Spelling → List ℕ → Type 0
AreFit begun o [] after = Unit {0}
AreFit begun o (t ∷ ts) after =
    IsFit begun o t (spelled ts after) × AreFit false (behind o t.kind t.text) ts after

-- ---- the laws

-- these tokens stand one after another, and this is left after the last
abbrev pub AreRead : Left → List Span → Left → Type 0
AreRead l [] to = l ≡ to
AreRead l (span ∷ spans) to = (next : Left) × (next_of l ≡ Ok (Some (span, next))) × AreRead next spans to

-- spelled with blanks between them, tokens are read as these tokens
abbrev pub SpelledTokensAreRead : Type 0
SpelledTokensAreRead = (at : ℕ) (o : Opened) (ts : List Spelling) (after : List ℕ) → AreFit (nat_eq at 0) o ts after
    → AreRead (record { bytes = spelled ts after; at = at; opened = o }) (spans_of at ts) (left_after at o ts after)

-- after blanks alone nothing is left
abbrev pub BlanksAreNoTokens : Type 0
BlanksAreNoTokens = (l : Left) → list_all is_blank l.bytes ≡ true → next_of l ≡ Ok None
