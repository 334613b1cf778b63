-- A logical line as data, and what is left of a text.
use Rattle.std.specs.Prelude.{ℕ, Bool, List}
use Rattle.c_tokens.specs.declared.tok.Tok.{Tok}

-- a logical line: the number of its first line, whether it begins with `#`, and its tokens
pub record LineData : Type 0 where
  pub number : ℕ
  pub directive : Bool
  pub toks : List Tok
