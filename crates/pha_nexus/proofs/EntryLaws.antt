-- Entries, read one at a time.
use Rattle.std.proofs.Common.{◌≡◌, ◌∙◌, ◌+◌, ◌++◌, ◌∷◌, [], ℕ, zero, suc, Bool, true, false, List, Option, Some, Result, Ok, Err, length, drop, refl, sym, ap, subst, append_assoc, append-nil, length-append}
use Rattle.std.specs.Option.{option_map_or}
use Rattle.edt_base.specs.EntryData.{EntryData}
use Rattle.edt_base.specs.NodeData.{NodeData}
use Rattle.edt_base.specs.Nodes.{prop_at}
use Rattle.edt_base.specs.Refusals.{IsStop}
use Rattle.edt_base.specs.Values.{entry_name}
use Rattle.edt_base.specs.declared.fault.Rule.{Rule}
use Rattle.edt_base.specs.declared.fault.Rule.TheVariants as rule
use Rattle.edt_base.specs.declared.node.Part.{Part}
use Rattle.edt_base.specs.declared.stop.Stop.{Stop}
use Rattle.bind_merge.specs.LibraryData.{LibData}
use Rattle.pha_nexus.specs.Cutting.{and_entries, cells_behind, cut_after, first_entry}
use Rattle.pha_nexus.specs.Naming.{CellNames, and_rest, cell_names, entries_from, entries_in, entries_of, entry_of, names_at}
use Rattle.pha_nexus.specs.Passing.{Hop}

-- entries before, and those after them
abbrev pub joined : {X : Type 0} → List X → Result (List X) Rule → Result (List X) Rule
joined before (Err broken) = Err broken
joined before (Ok rest) = Ok (before ++ rest)

-- the entries of cells, from a place on
abbrev pub entries_left : List NodeData → List ℕ → CellNames → List Part → ℕ → Bool → List ℕ
    → Result (List (Option EntryData)) Rule
entries_left nodes space names parts at rest cells =
    entries_from nodes space names parts at (cut_after nodes space rest 0 cells)

-- the cells up to the next entry may as well be cut off
behind : (nodes : List NodeData) (space : List ℕ) (rest : Bool) (skip : ℕ) (cells : List ℕ)
    → cut_after nodes space rest skip cells ≡ cut_after nodes space rest 0 (drop skip cells)
behind nodes space rest zero cells = refl
behind nodes space rest (suc skip) [] = refl
behind nodes space rest (suc skip) (c ∷ cs) = behind nodes space rest skip cs

left_bad : (nodes : List NodeData) (space : List ℕ) (names : CellNames) (parts : List Part) (at : ℕ) (rest : Bool) (c : ℕ) (cs : List ℕ) (b : Rule)
    → first_entry nodes space c cs ≡ Err b → entries_left nodes space names parts at rest (c ∷ cs) ≡ Err b
left_bad nodes space names parts at rest c cs b e = ap (λ (r : Result (Option Hop) Rule). entries_from nodes space names parts at
    (and_entries r (λ (entry : Option Hop). cut_after nodes space rest (cells_behind entry) cs))) e

left_next : (nodes : List NodeData) (space : List ℕ) (names : CellNames) (parts : List Part) (at : ℕ) (rest : Bool) (c : ℕ) (cs : List ℕ) (start : Option Hop)
    → first_entry nodes space c cs ≡ Ok start → entries_left nodes space names parts at rest (c ∷ cs)
    ≡ and_rest (entry_of nodes space names (entry_name parts at) start) (entries_left nodes space names parts (at + 1) rest (drop (cells_behind start) cs))
left_next nodes space names parts at rest c cs start e = ap (λ (r : Result (Option Hop) Rule). entries_from nodes space names parts at
    (and_entries r (λ (entry : Option Hop). cut_after nodes space rest (cells_behind entry) cs))) e
    ∙ ap (λ (cuts : List (Result (Option Hop) Rule)). and_rest (entry_of nodes space names (entry_name parts at) start) (entries_from nodes space names parts (at + 1) cuts))
    (behind nodes space rest (cells_behind start) cs)

-- one more of those that are read
joined_next : {X : Type 0} (before : List X) (x : X) (r : Result (List X) Rule) → joined before (and_rest (Ok x) r) ≡ joined (before ++ x ∷ []) r
joined_next before x (Err b) = refl
joined_next before x (Ok xs) = ap (λ ys. Ok ys) (sym (append_assoc before (x ∷ []) xs))

pub cut_bad : (nodes : List NodeData) (space : List ℕ) (names : CellNames) (parts : List Part) (rest : Bool) (cells left cs : List ℕ) (c : ℕ) (items : List (Option EntryData)) (b : Rule)
    → left ≡ c ∷ cs → first_entry nodes space c cs ≡ Err b
    → joined items (entries_left nodes space names parts (length items) rest left) ≡ entries_left nodes space names parts 0 rest cells
    → entries_left nodes space names parts 0 rest cells ≡ Err b
cut_bad nodes space names parts rest cells left cs c items b l e inv = sym inv
    ∙ ap (joined items) (ap (entries_left nodes space names parts (length items) rest) l ∙ left_bad nodes space names parts (length items) rest c cs b e)

-- what the next entry makes of those that are left
step : (nodes : List NodeData) (space : List ℕ) (names : CellNames) (parts : List Part) (rest : Bool) (left cs next : List ℕ) (c at : ℕ) (start : Option Hop)
    (name : Option (List ℕ)) (q : Result (Option EntryData) Rule) → left ≡ c ∷ cs → first_entry nodes space c cs ≡ Ok start → next ≡ drop (cells_behind start) cs
    → name ≡ entry_name parts at → entry_of nodes space names name start ≡ q
    → entries_left nodes space names parts at rest left ≡ and_rest q (entries_left nodes space names parts (at + 1) rest next)
step nodes space names parts rest left cs next c at start name q l e n named h =
    ap (entries_left nodes space names parts at rest) l ∙ (left_next nodes space names parts at rest c cs start e
    ∙ (ap (λ (xs : List ℕ). and_rest (entry_of nodes space names (entry_name parts at) start) (entries_left nodes space names parts (at + 1) rest xs)) (sym n)
    ∙ ap (λ (r : Result (Option EntryData) Rule). and_rest r (entries_left nodes space names parts (at + 1) rest next))
    (ap (λ (m : Option (List ℕ)). entry_of nodes space names m start) (sym named) ∙ h)))

pub entry_bad : (nodes : List NodeData) (space : List ℕ) (names : CellNames) (parts : List Part) (rest : Bool) (cells left cs next : List ℕ) (c : ℕ) (start : Option Hop)
    (name : Option (List ℕ)) (items : List (Option EntryData)) (b : Rule) → left ≡ c ∷ cs → first_entry nodes space c cs ≡ Ok start → next ≡ drop (cells_behind start) cs
    → name ≡ entry_name parts (length items) → entry_of nodes space names name start ≡ Err b
    → joined items (entries_left nodes space names parts (length items) rest left) ≡ entries_left nodes space names parts 0 rest cells
    → entries_left nodes space names parts 0 rest cells ≡ Err b
entry_bad nodes space names parts rest cells left cs next c start name items b l e n named h inv = sym inv
    ∙ ap (joined items) (step nodes space names parts rest left cs next c (length items) start name (Err b) l e n named h)

pub entry_read : (nodes : List NodeData) (space : List ℕ) (names : CellNames) (parts : List Part) (rest : Bool) (cells left cs next : List ℕ) (c : ℕ) (start : Option Hop)
    (name : Option (List ℕ)) (items more : List (Option EntryData)) (entry : Option EntryData) → left ≡ c ∷ cs → first_entry nodes space c cs ≡ Ok start
    → next ≡ drop (cells_behind start) cs → name ≡ entry_name parts (length items) → entry_of nodes space names name start ≡ Ok entry → more ≡ items ++ entry ∷ []
    → joined items (entries_left nodes space names parts (length items) rest left) ≡ entries_left nodes space names parts 0 rest cells
    → joined more (entries_left nodes space names parts (length more) rest next) ≡ entries_left nodes space names parts 0 rest cells
entry_read nodes space names parts rest cells left cs next c start name items more entry l e n named h m inv =
    let len : length more ≡ length items + 1 = ap length m ∙ length-append items (entry ∷ []) in
    ap (λ (k : ℕ). joined more (entries_left nodes space names parts k rest next)) len
    ∙ (ap (λ (xs : List (Option EntryData)). joined xs (entries_left nodes space names parts (length items + 1) rest next)) m
    ∙ (sym (joined_next items entry (entries_left nodes space names parts (length items + 1) rest next))
    ∙ (ap (joined items) (sym (step nodes space names parts rest left cs next c (length items) start name (Ok entry) l e n named h)) ∙ inv)))

pub rest_bad : (nodes : List NodeData) (space : List ℕ) (names : CellNames) (parts : List Part) (rest : Bool) (cells left : List ℕ) (items : List (Option EntryData))
    → left ≡ [] → rest ≡ true
    → joined items (entries_left nodes space names parts (length items) rest left) ≡ entries_left nodes space names parts 0 rest cells
    → entries_left nodes space names parts 0 rest cells ≡ Err rule.V20
rest_bad nodes space names parts rest cells left items l r inv = sym inv
    ∙ ap (joined items) (ap (entries_left nodes space names parts (length items) rest) l
    ∙ ap (λ (t : Bool). entries_left nodes space names parts (length items) t []) r)

pub all_read : (nodes : List NodeData) (space : List ℕ) (names : CellNames) (parts : List Part) (rest : Bool) (cells left : List ℕ) (items : List (Option EntryData))
    → left ≡ [] → rest ≡ false
    → joined items (entries_left nodes space names parts (length items) rest left) ≡ entries_left nodes space names parts 0 rest cells
    → entries_left nodes space names parts 0 rest cells ≡ Ok items
all_read nodes space names parts rest cells left items l r inv = sym inv
    ∙ (ap (joined items) (ap (entries_left nodes space names parts (length items) rest) l
    ∙ ap (λ (t : Bool). entries_left nodes space names parts (length items) t []) r)
    ∙ ap (λ (xs : List (Option EntryData)). Ok xs) (append-nil items))

-- a stop of the property's value is one of the property
pub stop_at : (nodes : List NodeData) (lib : LibData) (id : ℕ) (name space other : List ℕ) (value : List Part) (names : Option (List Part)) (s : Stop)
    → other ≡ space → Some value ≡ prop_at nodes id name → names ≡ names_at nodes id name space
    → IsStop (entries_in nodes other (cell_names nodes lib other) names value) s → IsStop (entries_of nodes lib id name space) s
stop_at nodes lib id name space other value names s same there named is =
    let of : entries_in nodes other (cell_names nodes lib other) names value ≡ entries_of nodes lib id name space =
    ap (λ (x : List ℕ). entries_in nodes x (cell_names nodes lib x) names value) same
    ∙ (ap (λ (n : Option (List Part)). entries_in nodes space (cell_names nodes lib space) n value) named
    ∙ ap (λ (v : Option (List Part)). option_map_or (entries_in nodes space (cell_names nodes lib space) (names_at nodes id name space)) v (Ok [])) there) in
    subst (λ (r : Result (List (Option EntryData)) Rule). IsStop r s) of is
