-- What a table of definitions holds: a map from names to macros, and the names that are locked.
use Rattle.std.specs.Prelude.{◌≡◌, ℕ, ◌<◌, ◌≤◌, Bool, false, List, Option, Some, None, option_map, is_some, nat_lt}
use Rattle.c_macro.specs.Directive.{Known}
use Rattle.std.specs.Map.{lookup}
use Rattle.std.specs.Str.{bytes_eq}
use Rattle.c_macro.specs.declared.defs.Entry.{Entry}
use Rattle.c_macro.specs.MacroData.{Macro}

-- definitions by their names, each with its number in the order in which they were made, of which those before a number are locked
pub record Table : Type 0 where
  pub entries : List (List ℕ × Entry)
  pub locked : ℕ

abbrev pub macro_in : Option Entry → Option Macro
macro_in o = option_map (λ e. e.ready) o

-- the macro of a name
abbrev pub defs_of : Table → List ℕ → Option Macro
defs_of t name = macro_in (lookup (bytes_eq name) t.entries)

abbrev pub is_before : ℕ → Option Entry → Bool
is_before number None = false
is_before number (Some e) = nat_lt e.at number

-- the name is locked
abbrev pub is_locked : Table → List ℕ → Bool
is_locked t name = is_before t.locked (lookup (bytes_eq name) t.entries)

-- so many definitions were made
pub record IsTable (entries : List (List ℕ × Entry)) (locked count : ℕ) : Type 0 where
  pub below : (name : List ℕ) (e : Entry) → lookup (bytes_eq name) entries ≡ Some e → e.at < count
  pub fits : locked ≤ count

-- the map and the locked names of a table
abbrev pub known_of : Table → Known
known_of t = record { defs = defs_of t; locked = is_locked t }
