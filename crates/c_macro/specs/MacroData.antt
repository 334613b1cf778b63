-- A definition as data.
use Rattle.std.specs.Prelude.{ℕ, Bool, List, Option}
use Rattle.c_tokens.specs.declared.tok.Tok.{Tok}

-- a macro: its parameters if it is function-like, whether it takes a variable part behind them, and its body
pub record Macro : Type 0 where
  pub params : Option (List (List ℕ))
  pub variadic : Bool
  pub body : List Tok
