-- Rows, read one at a time.
use Rattle.std.proofs.Common.{◌≡◌, ◌∙◌, ◌+◌, ◌-◌, ◌*◌, ◌%◌, ◌<◌, ◌≤◌, ◌∷◌, [], ℕ, zero, suc, Bool, true, false, List, Result, Ok, Err, length, take, drop, nat_lt, position, refl, sym, ap, subst, arith, length-drop, if◌then◌else◌}
use Rattle.std.proofs.Math.Nat.{add-mul-mod_self_left}
use Rattle.std.proofs.lemmas.Bool.Decides.{nat_tests}
use Rattle.std.proofs.lemmas.List.{drop-drop, length-take-le}
use Rattle.std.proofs.lemmas.Slice.Eq.{bytes_eq-Decides}
use Rattle.edt_base.specs.Cells.{cells_of}
use Rattle.edt_base.specs.NodeData.{NodeData, has_phandle}
use Rattle.edt_base.specs.Refusals.{IsStop}
use Rattle.edt_base.specs.declared.fault.Rule.{Rule}
use Rattle.edt_base.specs.declared.fault.Rule.TheVariants as rule
use Rattle.edt_base.specs.declared.stop.Stop.{Stop}
use Rattle.edt_base.specs.declared.stop.Stop.TheVariants as stop
use Rattle.pha_nexus.specs.Inner.Reading.{parent_cells, rows_left}
use Rattle.pha_nexus.specs.Rows.{Row, and_more, are_same, first_row, has_rest, lead_to, row_from, rows_after, taken, whole_row}
use Rattle.pha_nexus.specs.declared.rows.Lead.{Lead}
use Rattle.pha_nexus.proofs.CellLaws.{cells_drop, cells_fit}

-- a stop that tells of one answer tells of another with the same rules
pub stop_on : {X Y : Type 0} (a : Result X Rule) (b : Result Y Rule) (s : Stop) → ((r : Rule) → a ≡ Err r → b ≡ Err r) → IsStop a s → IsStop b s
stop_on a b (stop.Broken r) h is = h r is
stop_on a b (stop.Memory e) h is = tt

-- the cells up to the next row may as well be cut off
behind : (nodes : List NodeData) (space : List ℕ) (width : ℕ) (rest : Bool) (skip : ℕ) (cells : List ℕ)
    → rows_after nodes space width rest skip cells ≡ rows_after nodes space width rest 0 (drop skip cells)
behind nodes space width rest zero cells = refl
behind nodes space width rest (suc skip) [] = refl
behind nodes space width rest (suc skip) (c ∷ cs) = behind nodes space width rest skip cs

more_alike : (r : Result Row Rule) (f g : Row → List (Result Row Rule)) → ((row : Row) → f row ≡ g row) → and_more r f ≡ and_more r g
more_alike (Ok row) f g h = ap (λ (rows : List (Result Row Rule)). Ok row ∷ rows) (h row)
more_alike (Err b) f g h = refl

first_none : (nodes : List NodeData) (space : List ℕ) (width : ℕ) → first_row nodes space width [] ≡ Err rule.V26
first_none nodes space zero = refl
first_none nodes space (suc n) = refl

-- the rows behind the first one, of these bytes
abbrev after_first : List NodeData → List ℕ → ℕ → List ℕ → Row → List (Result Row Rule)
after_first nodes space width bytes row =
    rows_after nodes space width (has_rest (length bytes)) 0 (drop (width + 1 + length row.parent) (cells_of bytes))

short_rows : (r : Result Row Rule) (f : Row → List (Result Row Rule)) → r ≡ Err rule.V26 → Err rule.V26 ∷ [] ≡ and_more r f
short_rows r f e = subst (λ (q : Result Row Rule). Err rule.V26 ∷ [] ≡ and_more q f) (sym e) refl

-- where bytes are left there is a first row, and more behind it
rows_begin : (nodes : List NodeData) (space : List ℕ) (width : ℕ) (bs : List ℕ) → 0 < length bs
    → rows_left nodes space width bs ≡ and_more (first_row nodes space width (cells_of bs)) (after_first nodes space width bs)
rows_begin nodes space width [] h = absurd (omega arith)
rows_begin nodes space width (a ∷ []) h = short_rows _ (after_first nodes space width (a ∷ [])) (first_none nodes space width)
rows_begin nodes space width (a ∷ b ∷ []) h = short_rows _ (after_first nodes space width (a ∷ b ∷ [])) (first_none nodes space width)
rows_begin nodes space width (a ∷ b ∷ c ∷ []) h = short_rows _ (after_first nodes space width (a ∷ b ∷ c ∷ [])) (first_none nodes space width)
rows_begin nodes space width (a ∷ b ∷ c ∷ d ∷ bs) h =
    let all : List ℕ = a ∷ b ∷ c ∷ d ∷ bs in
    let rest : Bool = has_rest (length (a ∷ b ∷ c ∷ d ∷ bs)) in
    more_alike (first_row nodes space width (cells_of (a ∷ b ∷ c ∷ d ∷ bs)))
    (λ (row : Row). rows_after nodes space width (has_rest (length (a ∷ b ∷ c ∷ d ∷ bs))) (width + length row.parent) (cells_of bs))
    (after_first nodes space width (a ∷ b ∷ c ∷ d ∷ bs))
    (λ (row : Row). let sum : suc (width + length row.parent) ≡ width + 1 + length row.parent = omega arith in
    behind nodes space width (has_rest (length (a ∷ b ∷ c ∷ d ∷ bs))) (width + length row.parent) (cells_of bs)
    ∙ ap (λ (k : ℕ). rows_after nodes space width (has_rest (length (a ∷ b ∷ c ∷ d ∷ bs))) 0 (drop k (cells_of (a ∷ b ∷ c ∷ d ∷ bs)))) sum)

-- what is read of a first row: its child cells are passed over, then comes its phandle
row_is : (nodes : List NodeData) (space child bs b1 b2 : List ℕ) (phandle : ℕ) → b1 ≡ drop (4 * length child) bs → cells_of b1 ≡ phandle ∷ cells_of b2
    → first_row nodes space (length child) (cells_of bs)
    ≡ whole_row (take (length child) (cells_of bs)) (cells_of b2) (lead_to nodes space (position (has_phandle phandle) nodes))
row_is nodes space child bs b1 b2 phandle e h =
    let at : drop (length child) (cells_of bs) ≡ phandle ∷ cells_of b2 = cells_drop (length child) bs ∙ (ap cells_of (sym e) ∙ h) in
    ap (row_from nodes space (take (length child) (cells_of bs))) at

taken_bad : (nodes : List NodeData) (space child bs : List ℕ) (b : Rule) → 0 < length bs → first_row nodes space (length child) (cells_of bs) ≡ Err b
    → taken child (rows_left nodes space (length child) bs) ≡ Err b
taken_bad nodes space child bs b some e = ap (taken child) (rows_begin nodes space (length child) bs some)
    ∙ ap (λ (r : Result Row Rule). taken child (and_more r (after_first nodes space (length child) bs))) e

-- the first row's child cells are compared
taken_by : (nodes : List NodeData) (space child bs : List ℕ) (row : Row) (t : Bool) → 0 < length bs → first_row nodes space (length child) (cells_of bs) ≡ Ok row
    → are_same row.child child ≡ t
    → taken child (rows_left nodes space (length child) bs) ≡ (if t then Ok row else taken child (after_first nodes space (length child) bs row))
taken_by nodes space child bs row t some e h = ap (taken child) (rows_begin nodes space (length child) bs some)
    ∙ (ap (λ (r : Result Row Rule). taken child (and_more r (after_first nodes space (length child) bs))) e
    ∙ ap (λ (b : Bool). if b then Ok row else taken child (after_first nodes space (length child) bs row)) h)

pub no_phandle : (nodes : List NodeData) (space child bs b1 : List ℕ) → 0 < length bs → b1 ≡ drop (4 * length child) bs → cells_of b1 ≡ []
    → taken child (rows_left nodes space (length child) bs) ≡ Err rule.V26
no_phandle nodes space child bs b1 some e h =
    let at : drop (length child) (cells_of bs) ≡ [] = cells_drop (length child) bs ∙ (ap cells_of (sym e) ∙ h) in
    taken_bad nodes space child bs rule.V26 some (ap (row_from nodes space (take (length child) (cells_of bs))) at)

pub no_lead : (nodes : List NodeData) (space child bs b1 b2 : List ℕ) (phandle : ℕ) (b : Rule) → 0 < length bs → b1 ≡ drop (4 * length child) bs
    → cells_of b1 ≡ phandle ∷ cells_of b2 → Err b ≡ lead_to nodes space (position (has_phandle phandle) nodes)
    → taken child (rows_left nodes space (length child) bs) ≡ Err b
no_lead nodes space child bs b1 b2 phandle b some e h lead = taken_bad nodes space child bs b some
    (row_is nodes space child bs b1 b2 phandle e h ∙ ap (whole_row (take (length child) (cells_of bs)) (cells_of b2)) (sym lead))

whole_bad : (t : Bool) (xs : List ℕ) (row : Row) (b : Rule) → (if t then Err rule.V26 else Ok xs) ≡ Err b → (if t then Err rule.V26 else Ok row) ≡ Err b
whole_bad true xs row b e = let same : rule.V26 ≡ b = cc in ap (λ (r : Rule). Err r) same
whole_bad false xs row b e = cc

abbrev row_with : List ℕ → ℕ → List ℕ → Row
row_with child node parent = record { child = child; node = node; parent = parent }

whole_good : (t : Bool) (xs ys child : List ℕ) (node : ℕ) → (if t then Err rule.V26 else Ok xs) ≡ Ok ys
    → (if t then Err rule.V26 else Ok (row_with child node xs)) ≡ Ok (row_with child node ys)
whole_good true xs ys child node e = cc
whole_good false xs ys child node e = let same : xs ≡ ys = cc in ap (λ (zs : List ℕ). Ok (row_with child node zs)) same

pub no_parent : (nodes : List NodeData) (space child bs b1 b2 : List ℕ) (phandle : ℕ) (lead : Lead) (b : Rule) → 0 < length bs → b1 ≡ drop (4 * length child) bs
    → cells_of b1 ≡ phandle ∷ cells_of b2 → Ok lead ≡ lead_to nodes space (position (has_phandle phandle) nodes)
    → parent_cells lead.width (cells_of b2) ≡ Err b → taken child (rows_left nodes space (length child) bs) ≡ Err b
no_parent nodes space child bs b1 b2 phandle lead b some e h led short = taken_bad nodes space child bs b some
    (row_is nodes space child bs b1 b2 phandle e h ∙ (ap (whole_row (take (length child) (cells_of bs)) (cells_of b2)) (sym led)
    ∙ whole_bad (nat_lt (length (cells_of b2)) lead.width) (take lead.width (cells_of b2)) _ b short))

pub too_few : (width : ℕ) (behind : List ℕ) → length behind < width → parent_cells width behind ≡ Err rule.V26
too_few width behind h =
    let t : nat_lt (length behind) width ≡ true = grind (arith, nat_tests) in
    ap (λ (b : Bool). if b then Err rule.V26 else Ok (take width behind)) t

same_lists : (xs ys : List ℕ) → are_same xs ys ≡ true → xs ≡ ys
same_lists xs ys e = (bytes_eq-Decides xs ys).0 e

pub row_taken : (nodes : List NodeData) (space child bs b1 b2 parent : List ℕ) (phandle : ℕ) (lead : Lead) → 0 < length bs → b1 ≡ drop (4 * length child) bs
    → true ≡ are_same (take (length child) (cells_of bs)) child → cells_of b1 ≡ phandle ∷ cells_of b2
    → Ok lead ≡ lead_to nodes space (position (has_phandle phandle) nodes) → parent_cells lead.width (cells_of b2) ≡ Ok parent
    → taken child (rows_left nodes space (length child) bs) ≡ Ok (record { child = child; node = lead.node; parent = parent })
row_taken nodes space child bs b1 b2 parent phandle lead some e same h led whole =
    let is : first_row nodes space (length child) (cells_of bs) ≡ Ok (row_with (take (length child) (cells_of bs)) lead.node parent) =
    row_is nodes space child bs b1 b2 phandle e h ∙ (ap (whole_row (take (length child) (cells_of bs)) (cells_of b2)) (sym led)
    ∙ whole_good (nat_lt (length (cells_of b2)) lead.width) (take lead.width (cells_of b2)) parent (take (length child) (cells_of bs)) lead.node whole) in
    taken_by nodes space child bs (row_with (take (length child) (cells_of bs)) lead.node parent) true some is (sym same)
    ∙ ap (λ (xs : List ℕ). Ok (row_with xs lead.node parent)) (same_lists (take (length child) (cells_of bs)) child (sym same))

pub row_passed : (nodes : List NodeData) (space child bs b1 b2 b3 : List ℕ) (phandle : ℕ) (lead : Lead) → 0 < length bs → b1 ≡ drop (4 * length child) bs
    → false ≡ are_same (take (length child) (cells_of bs)) child → cells_of b1 ≡ phandle ∷ cells_of b2 → b2 ≡ drop 4 b1 → 4 ≤ length b1
    → Ok lead ≡ lead_to nodes space (position (has_phandle phandle) nodes) → b3 ≡ drop (4 * lead.width) b2 → lead.width ≤ length (cells_of b2)
    → (taken child (rows_left nodes space (length child) bs) ≡ taken child (rows_left nodes space (length child) b3)) × (length b3 < length bs)
row_passed nodes space child bs b1 b2 b3 phandle lead some e other h g four led k3 le =
    let fits : nat_lt (length (cells_of b2)) lead.width ≡ false = grind (arith, nat_tests) in
    let is : first_row nodes space (length child) (cells_of bs) ≡ Ok (row_with (take (length child) (cells_of bs)) lead.node (take lead.width (cells_of b2))) =
    row_is nodes space child bs b1 b2 phandle e h ∙ (ap (whole_row (take (length child) (cells_of bs)) (cells_of b2)) (sym led)
    ∙ ap (λ (b : Bool). if b then Err rule.V26 else Ok (row_with (take (length child) (cells_of bs)) lead.node (take lead.width (cells_of b2)))) fits) in
    let len : length (take lead.width (cells_of b2)) ≡ lead.width = length-take-le lead.width (cells_of b2) le in
    let l1 : length b1 ≡ length bs - 4 * length child = ap length e ∙ length-drop (4 * length child) bs in
    let l2 : length b2 ≡ length b1 - 4 = ap length g ∙ length-drop 4 b1 in
    let l3 : length b3 ≡ length b2 - 4 * lead.width = ap length k3 ∙ length-drop (4 * lead.width) b2 in
    let room : 4 * length (cells_of b2) ≤ length b2 = cells_fit b2 in
    let total : length bs ≡ length b3 + 4 * (length child + 1 + length (take lead.width (cells_of b2))) = omega arith in
    let far : 4 * length child + (4 + 4 * lead.width) ≡ 4 * (length child + 1 + length (take lead.width (cells_of b2))) = omega arith in
    let at : b3 ≡ drop (4 * (length child + 1 + length (take lead.width (cells_of b2)))) bs =
    k3 ∙ (ap (drop (4 * lead.width)) g ∙ (drop-drop (4 * lead.width) 4 b1 ∙ (ap (drop (4 + 4 * lead.width)) e
    ∙ (drop-drop (4 + 4 * lead.width) (4 * length child) bs ∙ ap (λ (j : ℕ). drop j bs) far)))) in
    let cells : drop (length child + 1 + length (take lead.width (cells_of b2))) (cells_of bs) ≡ cells_of b3 =
    cells_drop (length child + 1 + length (take lead.width (cells_of b2))) bs ∙ ap cells_of (sym at) in
    let rests : length bs % 4 ≡ length b3 % 4 =
    ap (λ (j : ℕ). j % 4) total ∙ add-mul-mod_self_left (length b3) 4 (length child + 1 + length (take lead.width (cells_of b2))) in
    let same : after_first nodes space (length child) bs (row_with (take (length child) (cells_of bs)) lead.node (take lead.width (cells_of b2)))
    ≡ rows_left nodes space (length child) b3 =
    ap (λ (j : ℕ). rows_after nodes space (length child) (nat_lt 0 j) 0 (drop (length child + 1 + length (take lead.width (cells_of b2))) (cells_of bs))) rests
    ∙ ap (λ (cs : List ℕ). rows_after nodes space (length child) (has_rest (length b3)) 0 cs) cells in (
      taken_by nodes space child bs (row_with (take (length child) (cells_of bs)) lead.node (take lead.width (cells_of b2))) false some is (sym other)
          ∙ ap (taken child) same,
      omega arith,
    )
