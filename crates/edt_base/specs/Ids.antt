-- The id of a node: how the header's names of the node begin.
use Rattle.std.specs.Prelude.{◌==◌, ◌-◌, ◌^◌, ◌++◌, ℕ, Bool, true, false, not, List, [], ◌∷◌, codes, length, min, if◌then◌else◌}
use Rattle.edt_base.specs.Ascii.{slash}
use Rattle.edt_base.specs.Forms.{form_char}

-- a name stands here, and neither the end nor another `/`
abbrev pub begins_name : List ℕ → Bool
begins_name [] = false
begins_name (c ∷ cs) = not (c == slash)

-- of a path that is left, and of whether a `/` was before it: each `/` before a name as `_S_`, and the names' forms
abbrev pub id_rest : Bool → List ℕ → List ℕ
id_rest within [] = []
id_rest within (c ∷ cs) =
    if c == slash then (if begins_name cs then codes "_S_" else []) ++ id_rest true cs else
    (if within then form_char c else []) ++ id_rest within cs

-- the id of the node of a path: `DT_N`, and for each name on the path `_S_` and the name's form
unfoldable pub id_text : List ℕ → List ℕ
id_text path = codes "DT_N" ++ id_rest false path

-- the length of an id, at most the greatest 64-bit number
abbrev pub id_size : List ℕ → ℕ
id_size path = min (length (id_text path)) (2 ^ 64 - 1)
