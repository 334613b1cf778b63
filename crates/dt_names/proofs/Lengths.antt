-- How the lengths of pieces add up, and that an id's pieces spell its text.
use Rattle.std.proofs.Common.{◌≡◌, ◌==◌, ◌+◌, ◌-◌, ◌^◌, ◌++◌, ◌∷◌, ◌∙◌, ◌<◌, not, ℕ, Bool, true, false, List, [], length, min, codes, sym, ap, refl, append_assoc, arith, length-append, if◌then◌else◌}
use Rattle.std.proofs.lemmas.List.{append-nil}
use Rattle.std.proofs.lemmas.List.Concat.{flat_map-append}
use Rattle.edt_base.specs.Forms.{form_of, form_char}
use Rattle.edt_base.specs.Ids.{begins_name, id_rest, id_text}
use Rattle.dt_names.specs.Facts.{name_first, name_pieces, names_pieces, id_pieces}
use Rattle.dt_names.specs.Inner.Lengths.{spelled_size}
use Rattle.dt_names.specs.Pieces.{PieceData, spell, spells}

-- pieces behind others are spelled behind them
pub spells-append : (a b : List PieceData) → spells (a ++ b) ≡ spells a ++ spells b
unfolding spells
spells-append a b = flat_map-append spell a b

-- a piece alone
pub one_spelled : (p : PieceData) → spells (p ∷ []) ≡ spell p
unfolding spells
one_spelled p = append-nil (spell p)

pub none_spelled : spells [] ≡ []
unfolding spells
none_spelled = refl

pub nothing_sized : spelled_size [] ≡ 0
unfolding spells
nothing_sized = refl

-- the length of pieces with so many behind them
pub size_front : (a b : List PieceData) → min (spelled_size a + spelled_size b) (2 ^ 64 - 1) ≡ spelled_size (a ++ b)
size_front a b = omega (arith, ap length (spells-append a b), length-append (spells a) (spells b))

-- pieces more behind what is counted
pub count_more : (old n new whole : ℕ) (front rest both : List PieceData) → both ≡ front ++ rest → n ≡ spelled_size front → new ≡ min (old + n) (2 ^ 64 - 1)
    → min (old + spelled_size both) (2 ^ 64 - 1) ≡ whole → (new < 2 ^ 64) × (min (new + spelled_size rest) (2 ^ 64 - 1) ≡ whole)
count_more old n new whole front rest both parts is sum before =
    (omega arith, omega (arith, ap spelled_size parts, size_front front rest))

-- nothing is left to count
pub counted : (old whole : ℕ) (rest : List PieceData) → rest ≡ [] → old < 2 ^ 64 → min (old + spelled_size rest) (2 ^ 64 - 1) ≡ whole → old ≡ whole
counted old whole rest none fits all = omega (arith, ap spelled_size none, nothing_sized)

-- two parts
pub two_parts : (x y xy : ℕ) (a b : List PieceData) → x ≡ spelled_size a → y ≡ spelled_size b → xy ≡ min (x + y) (2 ^ 64 - 1) → xy ≡ spelled_size (a ++ b)
two_parts x y xy a b xs ys sum = omega (arith, size_front a b)

-- a piece alone
pub piece_sized : (n : ℕ) (p : PieceData) → n ≡ min (length (spell p)) (2 ^ 64 - 1) → n ≡ spelled_size (p ∷ [])
piece_sized n p e = omega (arith, ap length (one_spelled p))

-- an id's pieces, spelled

here_cases : (b : Bool) (c : ℕ) (name : List ℕ) → (if not b then codes "_S_" else []) ++ form_of (if b then [] else c ∷ name) ≡ spells (name_pieces (if b then [] else c ∷ name))
unfolding spells form_of
here_cases true c name = refl
here_cases false c name = ap (λ t. codes "_S_" ++ t) (sym (append-nil (form_of (c ∷ name))))

-- the name that stands here is told by its first character
name_here : (cs : List ℕ) → (if begins_name cs then codes "_S_" else []) ++ form_of (name_first cs) ≡ spells (name_pieces (name_first cs))
unfolding spells form_of
name_here [] = refl
name_here (c ∷ cs) = here_cases (c == 47) c (name_first cs)

-- behind a `/`
behind_slash : (cs : List ℕ) → id_rest true cs ≡ form_of (name_first cs) ++ spells (names_pieces cs)
    → (if begins_name cs then codes "_S_" else []) ++ id_rest true cs ≡ spells (name_pieces (name_first cs) ++ names_pieces cs)
behind_slash cs rest =
    let mark : List ℕ = if begins_name cs then codes "_S_" else [] in
    ap (λ t. mark ++ t) rest ∙ (sym (append_assoc mark (form_of (name_first cs)) (spells (names_pieces cs)))
    ∙ (ap (λ t. t ++ spells (names_pieces cs)) (name_here cs) ∙ sym (spells-append (name_pieces (name_first cs)) (names_pieces cs))))

rest_cases : (b : Bool) (c : ℕ) (cs : List ℕ) → id_rest true cs ≡ form_of (name_first cs) ++ spells (names_pieces cs)
    → (if b then (if begins_name cs then codes "_S_" else []) ++ id_rest true cs else form_char c ++ id_rest true cs)
    ≡ form_of (if b then [] else c ∷ name_first cs) ++ spells (if b then name_pieces (name_first cs) ++ names_pieces cs else names_pieces cs)
unfolding form_of
rest_cases true c cs rest = behind_slash cs rest
rest_cases false c cs rest = ap (λ t. form_char c ++ t) rest ∙ sym (append_assoc (form_char c) (form_of (name_first cs)) (spells (names_pieces cs)))

name_rest : (path : List ℕ) → id_rest true path ≡ form_of (name_first path) ++ spells (names_pieces path)
unfolding spells form_of
name_rest [] = refl
name_rest (c ∷ cs) = rest_cases (c == 47) c cs (name_rest cs)

between_cases : (b : Bool) (cs : List ℕ) → id_rest false cs ≡ spells (names_pieces cs)
    → (if b then (if begins_name cs then codes "_S_" else []) ++ id_rest true cs else id_rest false cs)
    ≡ spells (if b then name_pieces (name_first cs) ++ names_pieces cs else names_pieces cs)
between_cases true cs rest = behind_slash cs (name_rest cs)
between_cases false cs rest = rest

between_names : (path : List ℕ) → id_rest false path ≡ spells (names_pieces path)
unfolding spells
between_names [] = refl
between_names (c ∷ cs) = between_cases (c == 47) cs (between_names cs)

pub spells_id : (path : List ℕ) → spells (id_pieces path) ≡ id_text path
unfolding spells id_text
spells_id path = ap (λ t. codes "DT_N" ++ t) (sym (between_names path))
