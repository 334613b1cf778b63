-- How the program tells a joined line.
use Rattle.std.specs.Prelude.{◌≡◌, ℕ, ◌+◌, Bool, not, nat_eq, List, [], ◌∷◌, ◌++◌}
use Rattle.c_tokens.specs.declared.join.Behind.{Behind}
use Rattle.c_tokens.specs.Lines.{Cut}

abbrev pub is_no_newline : ℕ → Bool
is_no_newline b = not (nat_eq b 10)

-- a joined line behind these bytes
abbrev pub joined_behind : List ℕ → ℕ → Cut → Cut
joined_behind bytes newlines c = record { bytes = bytes ++ c.bytes; rest = c.rest; newlines = newlines + c.newlines }

-- these bytes, and what is left
abbrev pub cut_of : List ℕ → Behind → Cut
cut_of bytes b = record { bytes = bytes; rest = b.rest.now; newlines = b.newlines }

-- the line doesn't end with a backslash
abbrev pub EndsElsewhere : List ℕ → Type 0
EndsElsewhere line = (front : List ℕ) → line ≡ front ++ 92 ∷ [] → ⊥
