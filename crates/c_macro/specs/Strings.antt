-- How the program tells the spellings in a string.
use Rattle.std.specs.Prelude.{ℕ, List, [], ◌∷◌, ◌++◌, if◌then◌else◌}
use Rattle.std.specs.List.{flat_map}
use Rattle.c_macro.specs.declared.pend.Pend.{Pend}
use Rattle.c_macro.specs.Bodies.{text_spelling}

abbrev pub pend_spaced : Pend → List ℕ
pend_spaced p = if p.tok.spaced then 32 ∷ text_spelling p.tok else text_spelling p.tok

abbrev pub pend_spellings : List Pend → List ℕ
pend_spellings [] = []
pend_spellings (p ∷ ps) = text_spelling p.tok ++ flat_map pend_spaced ps
