-- Cells, read one at a time.
use Rattle.std.proofs.Common.{◌≡◌, ◌∙◌, ◌+◌, ◌*◌, ◌<◌, ◌≤◌, ◌++◌, ◌∷◌, [], ◌&&◌, ℕ, zero, suc, Bool, true, false, List, length, take, drop, nat_eq, nat_lt, min, refl, sym, ap, subst, arith, ◌-◌, ◌^◌}
use Rattle.std.proofs.lemmas.Bool.Decides.{nat_tests}
use Rattle.std.proofs.lemmas.List.{drop-drop, drop_all}
use Rattle.edt_base.specs.Cells.{cells_of}
use Rattle.pha_nexus.specs.Rows.{are_same, has_rest}

-- one cell more of those that are compared
pub same_next : (acc : Bool) (left ws cells rest : List ℕ) (c w : ℕ) (total : Bool) → left ≡ w ∷ ws → cells ≡ c ∷ rest
    → (acc && are_same (take (length left) cells) left) ≡ total → ((acc && nat_eq c w) && are_same (take (length ws) rest) ws) ≡ total
same_next acc left ws cells rest c w total l e h =
    let a : (acc && are_same (take (length left) (c ∷ rest)) left) ≡ total = subst (λ (xs : List ℕ). (acc && are_same (take (length left) xs) left) ≡ total) e h in
    let b : (acc && are_same (take (length (w ∷ ws)) (c ∷ rest)) (w ∷ ws)) ≡ total = subst (λ (ys : List ℕ). (acc && are_same (take (length ys) (c ∷ rest)) ys) ≡ total) l a in
    regroup acc (nat_eq c w) (are_same (take (length ws) rest) ws) total b
  where
    regroup : (x y z total : Bool) → (x && (y && z)) ≡ total → ((x && y) && z) ≡ total
    regroup true y z total h = h
    regroup false y z total h = h

-- cells that are others already
pub same_off : (acc x y total : Bool) → acc ≡ false → (acc && x) ≡ total → (acc && y) ≡ total
same_off true x y total e h = cc
same_off false x y total e h = h

-- the bytes behind a cell
pub bytes_next : (left ws bytes new all : List ℕ) (w : ℕ) → left ≡ w ∷ ws → new ≡ drop 4 bytes → drop (4 * length left) bytes ≡ all
    → drop (4 * length ws) new ≡ all
bytes_next left ws bytes new all w l e h =
    let longer : length left ≡ suc (length ws) = ap length l in
    let sum : 4 + 4 * length ws ≡ 4 * length left = omega arith in
    ap (λ (xs : List ℕ). drop (4 * length ws) xs) e ∙ (drop-drop (4 * length ws) 4 bytes ∙ (ap (λ (n : ℕ). drop n bytes) sum ∙ h))

pub bytes_on : (k j : ℕ) (bytes old new : List ℕ) → j ≡ 4 * (k + 1) → old ≡ drop (4 * k) bytes → new ≡ drop 4 old → new ≡ drop j bytes
bytes_on k j bytes old new e h g =
    let sum : 4 * k + 4 ≡ j = omega arith in
    g ∙ (ap (λ (xs : List ℕ). drop 4 xs) h ∙ (drop-drop 4 (4 * k) bytes ∙ ap (λ (n : ℕ). drop n bytes) sum))

-- a cell more, of those that were cut off
pub cut_next : (k j : ℕ) (xs rest : List ℕ) (c : ℕ) → j ≡ suc k → drop k xs ≡ c ∷ rest
    → (take j xs ≡ take k xs ++ c ∷ []) × (drop j xs ≡ rest) × (j ≤ length xs)
cut_next zero j xs rest c e h =
    let one : (take 1 (c ∷ rest) ≡ c ∷ []) × (drop 1 (c ∷ rest) ≡ rest) × (1 ≤ length (c ∷ rest)) = (refl, refl, omega arith) in
    let two : (take 1 xs ≡ c ∷ []) × (drop 1 xs ≡ rest) × (1 ≤ length xs) =
    subst (λ (ys : List ℕ). (take 1 ys ≡ c ∷ []) × (drop 1 ys ≡ rest) × (1 ≤ length ys)) (sym h) one in
    subst (λ (n : ℕ). (take n xs ≡ c ∷ []) × (drop n xs ≡ rest) × (n ≤ length xs)) (sym e) two
cut_next (suc k) j [] rest c e h = cc
cut_next (suc k) j (x ∷ xs) rest c e h =
    let more : (take (suc k) xs ≡ take k xs ++ c ∷ []) × (drop (suc k) xs ≡ rest) × (suc k ≤ length xs) = cut_next k (suc k) xs rest c refl h in
    let one : (take (suc (suc k)) (x ∷ xs) ≡ x ∷ (take k xs ++ c ∷ [])) × (drop (suc (suc k)) (x ∷ xs) ≡ rest) × (suc (suc k) ≤ length (x ∷ xs)) =
    (ap (λ (ys : List ℕ). x ∷ ys) more.0, more.1, omega arith) in
    subst (λ (n : ℕ). (take n (x ∷ xs) ≡ x ∷ (take k xs ++ c ∷ [])) × (drop n (x ∷ xs) ≡ rest) × (n ≤ length (x ∷ xs))) (sym e) one

-- cells and bytes: the cells behind some, and how many there are
pub cells_drop : (n : ℕ) (bs : List ℕ) → drop n (cells_of bs) ≡ cells_of (drop (4 * n) bs)
cells_drop zero bs = refl
cells_drop (suc n) [] = sym (ap cells_of (drop_all (4 * suc n) [] (omega arith)))
cells_drop (suc n) (a ∷ []) = sym (ap cells_of (drop_all (4 * suc n) (a ∷ []) (omega arith)))
cells_drop (suc n) (a ∷ b ∷ []) = sym (ap cells_of (drop_all (4 * suc n) (a ∷ b ∷ []) (omega arith)))
cells_drop (suc n) (a ∷ b ∷ c ∷ []) = sym (ap cells_of (drop_all (4 * suc n) (a ∷ b ∷ c ∷ []) (omega arith)))
cells_drop (suc n) (a ∷ b ∷ c ∷ d ∷ rest) =
    let sum : suc (suc (suc (suc (4 * n)))) ≡ 4 * suc n = omega arith in
    cells_drop n rest ∙ ap (λ (k : ℕ). cells_of (drop k (a ∷ b ∷ c ∷ d ∷ rest))) sum

pub cells_fit : (bs : List ℕ) → 4 * length (cells_of bs) ≤ length bs
cells_fit [] = omega arith
cells_fit (a ∷ []) = omega arith
cells_fit (a ∷ b ∷ []) = omega arith
cells_fit (a ∷ b ∷ c ∷ []) = omega arith
cells_fit (a ∷ b ∷ c ∷ d ∷ rest) = omega (arith, cells_fit rest)

pub cells_fill : (bs : List ℕ) → length bs < 4 * length (cells_of bs) + 4
cells_fill [] = omega arith
cells_fill (a ∷ []) = omega arith
cells_fill (a ∷ b ∷ []) = omega arith
cells_fill (a ∷ b ∷ c ∷ []) = omega arith
cells_fill (a ∷ b ∷ c ∷ d ∷ rest) = omega (arith, cells_fill rest)

-- a value is longer than its cells exactly where there is a rest
pub rest_is : (bs cells : List ℕ) (len : ℕ) → cells ≡ cells_of bs → len ≡ min (length bs) (2 ^ 64 - 1) → 4 * length cells < 2 ^ 64 - 1
    → nat_lt (4 * length cells) len ≡ has_rest (length bs)
rest_is bs cells len e l few =
    let n : length cells ≡ length (cells_of bs) = ap length e in
    let low : 4 * length (cells_of bs) ≤ length bs = cells_fit bs in
    let high : length bs < 4 * length (cells_of bs) + 4 = cells_fill bs in
    let small : min (length bs) (2 ^ 64 - 1) ≡ length bs = grind (arith, nat_tests) in
    let is : len ≡ length bs = l ∙ small in
    grind (arith, nat_tests)
