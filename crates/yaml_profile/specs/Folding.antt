-- A text over several lines, as plain and quoted texts fold.
use Rattle.std.specs.Prelude.{ℕ, List, [], ◌∷◌, ◌++◌}
use Rattle.std.specs.Char.{encode_utf8}
use Rattle.edt_base.specs.Ascii.{newline, space}
use Rattle.yaml_profile.specs.declared.folding.Seam.{Seam}
use Rattle.yaml_profile.specs.declared.folding.Seam.TheVariants.{Inside, Folds, Joins}

-- a text so far; the blanks after it on its line; what ended the line, and the line feeds of the blank lines since then
pub record Folding : Type 0 where
  pub text : List ℕ
  pub blanks : List ℕ
  pub seam : Seam
  pub feeds : List ℕ

abbrev pub nothing_yet : Folding
nothing_yet = record { text = []; blanks = []; seam = Inside; feeds = [] }

-- a line end folds to one space and k blank lines to k line feeds; after a backslash there is no space
abbrev pub joint : Seam → List ℕ → List ℕ
joint Inside feeds = []
joint Folds [] = space ∷ []
joint Folds (f ∷ fs) = f ∷ fs
joint Joins feeds = feeds

-- with all that stands before the next character
abbrev pub caught_up : Folding → List ℕ
caught_up t = t.text ++ joint t.seam t.feeds ++ t.blanks

-- one character more
abbrev pub put : Folding → ℕ → Folding
put t c = record { text = caught_up t ++ encode_utf8 c; blanks = []; seam = Inside; feeds = [] }

abbrev pub after_blank : Seam → Folding → ℕ → Folding
after_blank Inside t c = record { text = t.text; blanks = t.blanks ++ encode_utf8 c; seam = t.seam; feeds = t.feeds }
after_blank _ t c = t

-- one blank more: at the start of a further line it is no part of the text
abbrev pub put_blank : Folding → ℕ → Folding
put_blank t c = after_blank t.seam t c

abbrev pub after_line : Seam → Folding → Folding
after_line Inside t = record { text = t.text; blanks = []; seam = Folds; feeds = [] }
after_line _ t = record { text = t.text; blanks = []; seam = t.seam; feeds = t.feeds ++ newline ∷ [] }

-- the line ends: the blanks before it are no part of the text
abbrev pub end_line : Folding → Folding
end_line t = after_line t.seam t

-- the line ends after a backslash: the blanks before that stay
abbrev pub join_line : Folding → Folding
join_line t = record { text = caught_up t; blanks = []; seam = Joins; feeds = [] }
