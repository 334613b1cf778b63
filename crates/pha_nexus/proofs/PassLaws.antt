-- Masks and pass-throughs, a cell at a time.
use Rattle.std.proofs.Common.{◌≡◌, ◌∙◌, ◌-◌, ◌*◌, ◌<◌, ◌≤◌, ◌++◌, ◌∷◌, [], ◌&&◌, ℕ, zero, suc, Bool, true, false, List, Option, Some, None, Result, Ok, Err, length, take, drop, refl, sym, ap, subst, arith, if◌then◌else◌}
use Rattle.std.proofs.lemmas.Bool.Decides.{nat_tests}
use Rattle.edt_base.specs.Cells.{cells_of}
use Rattle.edt_base.specs.NodeData.{NodeData, bytes_of}
use Rattle.edt_base.specs.Values.{value_cells}
use Rattle.edt_base.specs.declared.fault.Rule.{Rule}
use Rattle.edt_base.specs.declared.fault.Rule.TheVariants as rule
use Rattle.edt_base.specs.declared.node.Part.{Part}
use Rattle.pha_nexus.specs.Passing.{Hop, aligned, blended, hop_by, is_as_long, masked, passed, sent, shared_bits}
use Rattle.pha_nexus.specs.Rows.{Row, rows_of, taken}
use Rattle.edt_base.specs.Refusals.{IsStop}
use Rattle.edt_base.specs.declared.stop.Stop.{Stop}
use Rattle.pha_nexus.proofs.CellLaws.{cells_drop}
use Rattle.pha_nexus.proofs.RowLaws.{stop_on}

-- as many cells as a quarter of the bytes
pub cells_count : (n : ℕ) (bs : List ℕ) → length bs ≡ 4 * n → length (cells_of bs) ≡ n
cells_count zero [] e = refl
cells_count (suc n) [] e = absurd (omega arith)
cells_count n (a ∷ []) e = absurd (omega arith)
cells_count n (a ∷ b ∷ []) e = absurd (omega arith)
cells_count n (a ∷ b ∷ c ∷ []) e = absurd (omega arith)
cells_count zero (a ∷ b ∷ c ∷ d ∷ rest) e = absurd (omega arith)
cells_count (suc n) (a ∷ b ∷ c ∷ d ∷ rest) e = ap suc (cells_count n rest (omega arith))

pub as_long : (spec : List ℕ) (value : List Part) → is_as_long spec (Some value) ≡ true → length (value_cells value) ≡ length spec
as_long spec value e =
    let bytes : length (bytes_of value) ≡ 4 * length spec = grind (arith, nat_tests) in
    cells_count (length spec) (bytes_of value) bytes

shared_len : (spec mask : List ℕ) → length mask ≡ length spec → length (shared_bits spec mask) ≡ length spec
shared_len [] mask e = refl
shared_len (s ∷ ss) [] e = absurd (omega arith)
shared_len (s ∷ ss) (m ∷ ms) e = ap suc (shared_len ss ms (omega arith))

-- the masked specifier has the specifier's length
pub masked_len : (spec : List ℕ) (mask : Option (List Part)) → is_as_long spec mask ≡ true → length (masked spec mask) ≡ length spec
masked_len spec None e = refl
masked_len spec (Some mask) e = shared_len spec (value_cells mask) (as_long spec mask e)

-- the pieces of the three, cut by their lengths
pub aligned_by : (spec bytes parent new : List ℕ) → length (cells_of bytes) ≡ length spec → new ≡ drop (4 * (length spec - length parent)) bytes
    → take (length parent - length spec) parent ++ blended (drop (length spec - length parent) spec) (cells_of new) (drop (length parent - length spec) parent)
    ≡ aligned spec (cells_of bytes) parent
aligned_by spec bytes parent new e h =
    let cut : cells_of new ≡ drop (length spec - length parent) (cells_of bytes) = ap cells_of h ∙ sym (cells_drop (length spec - length parent) bytes) in
    ap (λ (cs : List ℕ). take (length parent - length spec) parent ++ blended (drop (length spec - length parent) spec) cs (drop (length parent - length spec) parent)) cut
    ∙ ap (λ (n : ℕ). take (length parent - n) parent ++ blended (drop (length spec - length parent) spec) (drop (n - length parent) (cells_of bytes)) (drop (length parent - n) parent)) (sym e)

-- ---- through a map

fit_both : (spec : List ℕ) (mask pass : Option (List Part)) (r : Result Row Rule) → is_as_long spec mask ≡ true → is_as_long spec pass ≡ true
    → (if is_as_long spec mask && is_as_long spec pass then hop_by spec pass r else Err rule.V28) ≡ hop_by spec pass r
fit_both spec mask pass r a b = ap (λ (t : Bool). if t && is_as_long spec pass then hop_by spec pass r else Err rule.V28) a
    ∙ ap (λ (t : Bool). if t then hop_by spec pass r else Err rule.V28) b

-- the rows are cut by the masked specifier's length as by the specifier's
taken_masked : (nodes : List NodeData) (space spec child : List ℕ) (map : List Part) (mask : Option (List Part)) (r : Result Row Rule) → is_as_long spec mask ≡ true
    → child ≡ masked spec mask → taken child (rows_of nodes space (length child) map) ≡ r → taken (masked spec mask) (rows_of nodes space (length spec) map) ≡ r
taken_masked nodes space spec child map mask r a e h =
    subst (λ (n : ℕ). taken (masked spec mask) (rows_of nodes space n map) ≡ r) (masked_len spec mask a)
    (subst (λ (c : List ℕ). taken c (rows_of nodes space (length c) map) ≡ r) e h)

pub passed_on : (nodes : List NodeData) (space spec child : List ℕ) (map : List Part) (mask pass : Option (List Part)) (node : ℕ) (parent out : List ℕ)
    → is_as_long spec mask ≡ true → is_as_long spec pass ≡ true → child ≡ masked spec mask
    → taken child (rows_of nodes space (length child) map) ≡ Ok (record { child = child; node = node; parent = parent }) → out ≡ sent spec pass parent
    → passed nodes space spec map mask pass ≡ Ok (record { node = node; spec = out })
passed_on nodes space spec child map mask pass node parent out a b e h o =
    let row : Row = record { child = child; node = node; parent = parent } in
    let going : taken (masked spec mask) (rows_of nodes space (length spec) map) ≡ Ok row = taken_masked nodes space spec child map mask (Ok row) a e h in
    let hop : List ℕ → Hop = λ xs. record { node = node; spec = xs } in
    fit_both spec mask pass (taken (masked spec mask) (rows_of nodes space (length spec) map)) a b ∙ (ap (hop_by spec pass) going ∙ ap (λ (xs : List ℕ). Ok (hop xs)) (sym o))

pub passed_not : (nodes : List NodeData) (space spec child : List ℕ) (map : List Part) (mask pass : Option (List Part)) (b : Rule)
    → is_as_long spec mask ≡ true → is_as_long spec pass ≡ true → child ≡ masked spec mask
    → taken child (rows_of nodes space (length child) map) ≡ Err b → passed nodes space spec map mask pass ≡ Err b
passed_not nodes space spec child map mask pass b m p e h =
    fit_both spec mask pass (taken (masked spec mask) (rows_of nodes space (length spec) map)) m p
    ∙ ap (hop_by spec pass) (taken_masked nodes space spec child map mask (Err b) m e h)

pub unfit_one : (nodes : List NodeData) (space spec : List ℕ) (map : List Part) (mask pass : Option (List Part)) (x y : Bool)
    → is_as_long spec mask ≡ x → is_as_long spec pass ≡ y → (x && y) ≡ false → passed nodes space spec map mask pass ≡ Err rule.V28
unfit_one nodes space spec map mask pass x y a b e =
    let both : (is_as_long spec mask && is_as_long spec pass) ≡ false =
    ap (λ (t : Bool). t && is_as_long spec pass) a ∙ (ap (λ (t : Bool). x && t) b ∙ e) in
    ap (λ (t : Bool). if t then hop_by spec pass (taken (masked spec mask) (rows_of nodes space (length spec) map)) else Err rule.V28) both

pub passed_stop : (nodes : List NodeData) (space spec child : List ℕ) (map : List Part) (mask pass : Option (List Part)) (s : Stop)
    → is_as_long spec mask ≡ true → is_as_long spec pass ≡ true → child ≡ masked spec mask
    → IsStop (taken child (rows_of nodes space (length child) map)) s → IsStop (passed nodes space spec map mask pass) s
passed_stop nodes space spec child map mask pass s m p e is =
    stop_on (taken child (rows_of nodes space (length child) map)) (passed nodes space spec map mask pass) s
    (λ (b : Rule). λ (h : taken child (rows_of nodes space (length child) map) ≡ Err b). passed_not nodes space spec child map mask pass b m p e h) is

-- ---- a pass-through, from its pieces

skipped : (t : Bool) (n : ℕ) (bytes new : List ℕ) → (t ≡ true → (new ≡ drop (4 * n) bytes) × (n ≤ length (cells_of bytes))) → (t ≡ false → length (cells_of bytes) < n)
    → n ≤ length (cells_of bytes) → new ≡ drop (4 * n) bytes
skipped true n bytes new there short le = (there refl).0
skipped false n bytes new there short le = let less : length (cells_of bytes) < n = short refl in absurd (omega arith)

pub aligned_from : (spec parent bytes new own before other out : List ℕ) (cut kept : ℕ) (t : Bool) → length (cells_of bytes) ≡ length spec
    → cut ≡ length spec - length parent → kept ≡ length parent - length spec → own ≡ drop cut spec → before ≡ take kept parent → other ≡ drop kept parent
    → (t ≡ true → (new ≡ drop (4 * cut) bytes) × (cut ≤ length (cells_of bytes))) → (t ≡ false → length (cells_of bytes) < cut)
    → out ≡ before ++ blended own (cells_of new) other → out ≡ aligned spec (cells_of bytes) parent
aligned_from spec parent bytes new own before other out cut kept t e c k is_own is_before is_other there short is =
    let le : cut ≤ length (cells_of bytes) = omega arith in
    let new2 : new ≡ drop (4 * (length spec - length parent)) bytes = skipped t cut bytes new there short le ∙ ap (λ (n : ℕ). drop (4 * n) bytes) c in
    let own2 : own ≡ drop (length spec - length parent) spec = is_own ∙ ap (λ (n : ℕ). drop n spec) c in
    let before2 : before ≡ take (length parent - length spec) parent = is_before ∙ ap (λ (n : ℕ). take n parent) k in
    let other2 : other ≡ drop (length parent - length spec) parent = is_other ∙ ap (λ (n : ℕ). drop n parent) k in
    is ∙ (ap (λ (b : List ℕ). b ++ blended own (cells_of new) other) before2
    ∙ (ap (λ (o : List ℕ). take (length parent - length spec) parent ++ blended o (cells_of new) other) own2
    ∙ (ap (λ (o : List ℕ). take (length parent - length spec) parent ++ blended (drop (length spec - length parent) spec) (cells_of new) o) other2
    ∙ aligned_by spec bytes parent new e new2)))

pub aligned_of : (spec parent whole bytes new own before other out : List ℕ) (cut kept : ℕ) (t : Bool) → bytes ≡ whole → length (cells_of whole) ≡ length spec
    → cut ≡ length spec - length parent → kept ≡ length parent - length spec → own ≡ drop cut spec → before ≡ take kept parent → other ≡ drop kept parent
    → (t ≡ true → (new ≡ drop (4 * cut) bytes) × (cut ≤ length (cells_of bytes))) → (t ≡ false → length (cells_of bytes) < cut)
    → out ≡ before ++ blended own (cells_of new) other → out ≡ aligned spec (cells_of whole) parent
aligned_of spec parent whole bytes new own before other out cut kept t e n c k is_own is_before is_other there short is =
    let size : length (cells_of bytes) ≡ length spec = ap (λ (bs : List ℕ). length (cells_of bs)) e ∙ n in
    subst (λ (bs : List ℕ). out ≡ aligned spec (cells_of bs) parent) e
    (aligned_from spec parent bytes new own before other out cut kept t size c k is_own is_before is_other there short is)
