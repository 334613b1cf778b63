-- What is left of a source, and what is open there.
use Rattle.std.specs.Prelude.{ℕ, false, List}
use Rattle.dts_lex.specs.declared.opened.Opened.{Opened}

pub record Left : Type 0 where
  pub bytes : List ℕ
  pub at : ℕ  -- where they begin in the source
  pub opened : Opened

abbrev pub nothing_open : Opened
nothing_open = record { rounds = 0; squares = 0; angles = 0; numbers = 0; value = false }

-- the whole of a source
abbrev pub whole : List ℕ → Left
whole src = record { bytes = src; at = 0; opened = nothing_open }
