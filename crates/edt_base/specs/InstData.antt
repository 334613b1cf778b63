-- The instances of a compatible string, as contracts see them.
use Rattle.std.specs.Prelude.{ℕ, List}

-- the string, its nodes with the okay ones first, and how many of them are okay
pub record InstData : Type 0 where
  pub compat : List ℕ
  pub nodes : List ℕ
  pub okay : ℕ
