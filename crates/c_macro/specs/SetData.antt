-- Sets of names by their places in a table.
use Rattle.std.specs.Prelude.{◌≡◌, ℕ, ◌<◌, ◌≤◌, ◌+◌, Bool, true, false, cond, List, Option, Some, None, length}
use Rattle.std.specs.Map.{lookup}
use Rattle.std.specs.Str.{bytes_eq}
use Rattle.c_macro.specs.declared.numbers.Node.{Node}
use Rattle.c_macro.specs.NumberData.{Numbers, numbers_of, sets_count, AllBelow}
use Rattle.c_macro.specs.Marked.{Bars}

-- names with their numbers, and sets of numbers
pub record SetTable : Type 0 where
  pub numbers : List (List ℕ × ℕ)
  pub nodes : List Node

abbrev pub number_in : SetTable → List ℕ → Option ℕ
number_in s name = lookup (bytes_eq name) s.numbers

abbrev pub has_number : Numbers → Option ℕ → Bool
has_number set None = false
has_number set (Some n) = set n

-- the names of the set at a place
abbrev pub bars_of : SetTable → ℕ → Bars
bars_of s k = λ name. has_number (numbers_of s.nodes k) (number_in s name)

abbrev pub set_count : SetTable → ℕ
set_count s = sets_count s.nodes

-- the table has no fewer sets, and those that it had stand where they stood
pub record Grown (old new : SetTable) : Type 0 where
  pub more : set_count old ≤ set_count new
  pub same : (k : ℕ) → k < set_count old → bars_of new k ≡ bars_of old k

-- a number is that of one name; it and all numbers in sets are at most the count of the names
pub record AreNumbered (numbers : List (List ℕ × ℕ)) (nodes : List Node) : Type 0 where
  pub below : (name : List ℕ) (n : ℕ) → lookup (bytes_eq name) numbers ≡ Some n → n < length numbers + 1
  pub apart : (a b : List ℕ) (n : ℕ) → lookup (bytes_eq a) numbers ≡ Some n → lookup (bytes_eq b) numbers ≡ Some n → bytes_eq a b ≡ true
  pub sets : AllBelow (length numbers + 1) nodes

-- a name that had no number is given the next one
pub record Named (old new : List (List ℕ × ℕ)) (name : List ℕ) (number : ℕ) : Type 0 where
  pub absent : lookup (bytes_eq name) old ≡ None
  pub next : number ≡ length old + 1
  pub one_more : length new ≡ length old + 1
  pub updates : (q : List ℕ) → lookup (bytes_eq q) new ≡ cond (bytes_eq name q) (Some number) (lookup (bytes_eq q) old)
