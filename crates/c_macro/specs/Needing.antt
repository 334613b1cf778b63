-- How the program tells which arguments a body needs.
use Rattle.std.specs.Prelude.{◌≡◌, ◌<◌, ◌+◌, ◌||◌, ℕ, Bool, false, List, Option, Some, None, length, slice_index_or, if◌then◌else◌}
use Rattle.std.specs.List.{list_any}
use Rattle.c_macro.specs.declared.needs.Needs.{Needs}
use Rattle.c_macro.specs.MacroData.{Macro}
use Rattle.c_macro.specs.Bodies.{Part, is_written, is_full, parts_of}

-- the needs of these parts, for so many arguments
pub record NeedsOf (ps : List Part) (count : ℕ) (n : Needs) : Type 0 where
  pub written : (i : ℕ) → i < count → slice_index_or n.written.items i false ≡ list_any (is_written i) ps
  pub full : (i : ℕ) → i < count → slice_index_or n.full.items i false ≡ list_any (is_full i) ps

-- what a part needs was noted too
pub record Noted (old : Needs) (p : Part) (new : Needs) : Type 0 where
  pub written_count : length new.written.items ≡ length old.written.items
  pub full_count : length new.full.items ≡ length old.full.items
  pub written : (i : ℕ) → i < length old.written.items → slice_index_or new.written.items i false ≡ (slice_index_or old.written.items i false || is_written i p)
  pub full : (i : ℕ) → i < length old.full.items → slice_index_or new.full.items i false ≡ (slice_index_or old.full.items i false || is_full i p)

-- while the needs of parts are noted: these parts are left
pub record Noting (whole left : List Part) (count : ℕ) (n : Needs) : Type 0 where
  pub written_count : length n.written.items ≡ count
  pub full_count : length n.full.items ≡ count
  pub written : (i : ℕ) → i < count → (slice_index_or n.written.items i false || list_any (is_written i) left) ≡ list_any (is_written i) whole
  pub full : (i : ℕ) → i < count → (slice_index_or n.full.items i false || list_any (is_full i) left) ≡ list_any (is_full i) whole

-- how many arguments a call has, the variable part included
abbrev pub count_of : Option (List (List ℕ)) → (variadic : Bool) → ℕ
count_of None variadic = 0
count_of (Some names) variadic = if variadic then length names + 1 else length names

abbrev pub args_count : Macro → ℕ
args_count m = count_of m.params m.variadic

-- these are the parts of a macro's body, and what they need of its arguments
pub record IsReady (m : Macro) (ps : List Part) (n : Needs) : Type 0 where
  pub parts : ps ≡ parts_of m m.params
  pub needs : NeedsOf ps (args_count m) n
