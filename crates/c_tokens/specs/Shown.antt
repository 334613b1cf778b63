-- Tokens as text.
use Rattle.std.specs.Prelude.{ℕ, List, [], ◌∷◌, ◌++◌, codes}
use Rattle.std.specs.List.{flat_map}
use Rattle.c_tokens.specs.declared.tok.Tok.{Tok}

-- the spelling with a space before it
abbrev pub with_space : Tok → List ℕ
with_space t = codes " " ++ t.spell

-- the spellings, one space between every two
abbrev pub shown : List Tok → List ℕ
shown [] = []
shown (t ∷ ts) = t.spell ++ flat_map with_space ts
