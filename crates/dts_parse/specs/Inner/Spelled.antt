-- What the terminal of a token says of its text.
use Rattle.std.specs.Prelude.{◌≡◌, ℕ, true, List}
use Rattle.std.specs.List.{list_all}
use Rattle.dts_parse.specs.Token.{is_ascii}
use Rattle.dts_parse.specs.declared.terminal.Terminal.{Terminal}
use Rattle.dts_parse.specs.declared.terminal.Terminal.TheVariants as terminal

-- names and references are ASCII
abbrev pub IsSpelled : Terminal → List ℕ → Type 0
IsSpelled (terminal.Name f) text = list_all is_ascii text ≡ true
IsSpelled terminal.Ref text = list_all is_ascii text ≡ true
IsSpelled _ text = Unit {0}
