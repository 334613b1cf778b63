-- A token is a slice of what is left: a gap stands before it, and what is left after it is after it.
use Rattle.std.specs.Prelude.{◌≡◌, ℕ, ◌+◌, ◌<◌, ◌≤◌, List, ◌++◌, Option, Some, None, Result, Ok, Err, length}
use Rattle.dts_lex.specs.Between.{gap, start}
use Rattle.dts_lex.specs.Left.{Left}
use Rattle.dts_lex.specs.Tokens.{next_of}
use Rattle.dts_lex.specs.declared.lexer.Span.{Span}
use Rattle.dts_lex.specs.declared.lexer.LexFault.{LexFault}

pub record IsSlice (l : Left) (span : Span) (next : Left) : Type 0 where
  pub between : List ℕ
  pub text : List ℕ
  pub parts : l.bytes ≡ between ++ (text ++ next.bytes)
  pub gap_is : length between ≡ gap (start l.at) l.bytes
  pub begins : span.start ≡ l.at + length between
  pub ends : span.end ≡ span.start + length text
  pub some : 0 < length text
  pub goes_on : next.at ≡ span.end

abbrev pub AreSlices : Type 0
AreSlices = (l next : Left) (span : Span) → next_of l ≡ Ok (Some (span, next)) → IsSlice l span next

-- a fault stands at a byte of what is left
abbrev pub AreFaultsWithin : Type 0
AreFaultsWithin = (l : Left) (f : LexFault) → next_of l ≡ Err f → (l.at ≤ f.at) × (f.at < l.at + length l.bytes)

-- where nothing is left, all of it is a gap
abbrev pub AreEndsGaps : Type 0
AreEndsGaps = (l : Left) → next_of l ≡ Ok None → gap (start l.at) l.bytes ≡ length l.bytes
