-- The tokens of one line whose backslashes at the end are gone.
use Rattle.std.specs.Prelude.{ℕ, zero, suc, ◌-◌, Bool, true, false, List, [], ◌∷◌, Option, Some, None, option_map, take, if◌then◌else◌}
use Rattle.std.specs.Str.{is_utf8}
use Rattle.c_tokens.specs.declared.tok.Tok.{Tok}
use Rattle.c_tokens.specs.declared.grammar.Piece.{Piece}
use Rattle.c_tokens.specs.declared.grammar.Piece.TheVariants as piece
use Rattle.c_tokens.specs.Grammar.{front, comment_end}

-- the tokens, and whether a comment is left open behind them
pub record Lexed : Type 0 where
  pub toks : List Tok
  pub unclosed : Bool

abbrev pub lexed_end : (unclosed : Bool) → Option Lexed
lexed_end unclosed = Some (record { toks = []; unclosed = unclosed })

-- these tokens stand before the others
abbrev pub with_tok : Tok → Lexed → Lexed
with_tok t l = record { toks = t ∷ l.toks; unclosed = l.unclosed }

-- the token of the first bytes; a token is UTF-8
abbrev pub first_tok : (spaced : Bool) → Piece → List ℕ → Option Lexed → Option Lexed
first_tok spaced (piece.Token k n) bytes behind =
    if is_utf8 (take n bytes) then option_map (λ l. with_tok (record { spell = take n bytes; kind = k; spaced = spaced }) l) behind else None
first_tok spaced _ bytes behind = None

-- the tokens from what stands at the front on; `go` gives those behind so many bytes
abbrev pub after_front : Piece → (spaced : Bool) → List ℕ → ((spaced : Bool) → ℕ → Option Lexed) → Option Lexed
after_front (piece.Gap n) spaced bytes go = go true n
after_front piece.Unclosed spaced bytes go = lexed_end true
after_front (piece.Token k n) spaced bytes go = first_tok spaced (piece.Token k n) bytes (go false n)
after_front piece.Nothing spaced bytes go = None

-- the tokens behind so many bytes; `spaced` says that white space or a comment stands before the first, and `None` that no token stands at some place
unfoldable pub lexed_behind : (spaced : Bool) → (skip : ℕ) → List ℕ → Option Lexed
lexed_behind spaced skip [] = lexed_end false
lexed_behind spaced (suc skip) (b ∷ bs) = lexed_behind spaced skip bs
lexed_behind spaced zero (b ∷ bs) = after_front (front (b ∷ bs)) spaced (b ∷ bs) (λ s n. lexed_behind s (n - 1) bs)

-- the tokens behind the end of a comment
abbrev pub lexed_uncommented : Option ℕ → List ℕ → Option Lexed
lexed_uncommented None bytes = lexed_end true
lexed_uncommented (Some n) bytes = lexed_behind true n bytes

-- the tokens of a line, within a comment at its front or not
abbrev pub lexed : (commented : Bool) → List ℕ → Option Lexed
lexed false bytes = lexed_behind false 0 bytes
lexed true bytes = lexed_uncommented (comment_end false bytes) bytes
