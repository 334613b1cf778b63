-- An entry of a phandle-array or an interrupt, as contracts see it.
use Rattle.std.specs.Prelude.{ℕ, List, Option}

-- the controller's place, the cells with their names, and the entry's name
pub record EntryData : Type 0 where
  pub controller : ℕ
  pub cells : List (List ℕ × ℕ)
  pub name : Option (List ℕ)
