-- No more is open than there are bytes before.
use Rattle.std.specs.Prelude.{◌≡◌, ℕ, ◌≤◌, ◌<◌, List}
use Rattle.std.specs.List.{prefix_len}
use Rattle.dts_lex.specs.Tokens.{is_narrow, is_word_byte}
use Rattle.dts_lex.specs.declared.opened.Opened.{Opened}

pub record AreAtMost (o : Opened) (most : ℕ) : Type 0 where
  pub rounds : o.rounds ≤ most
  pub squares : o.squares ≤ most
  pub angles : o.angles ≤ most

-- how many bytes the word at the start has, where that is known: no more than one look at each byte is taken for a row
-- of pairs of digits
abbrev pub IsKnown : Opened → List ℕ → ℕ → Type 0
IsKnown o bytes known = 0 < known → prefix_len (is_word_byte (is_narrow o)) bytes ≡ known
