-- Cells in bytes, one at a time.
use Rattle.std.proofs.Common.{◌≡◌, ◌∙◌, ◌+◌, ◌%◌, ◌<◌, ◌≤◌, ◌∷◌, [], ℕ, zero, suc, List, length, take, drop, slice_index_or, refl, sym, ap, subst, arith, length-append}
use Rattle.std.specs.List.{fold}
use Rattle.std.specs.Int.{from_be_bytes, w32}
use Rattle.std.proofs.lemmas.List.{drop_more}
use Rattle.std.proofs.Math.Nat.{mod-add-mod, add-mod-mod}
use Rattle.edt_base.specs.Cells.{cells_of}
use Rattle.edt_base.specs.NodeData.{bytes_of}
use Rattle.edt_base.specs.declared.node.Part.{Part}

-- fewer than four bytes have no cell
pub cells_short : (bs : List ℕ) → length bs < 4 → cells_of bs ≡ []
cells_short [] h = refl
cells_short (a ∷ []) h = refl
cells_short (a ∷ b ∷ []) h = refl
cells_short (a ∷ b ∷ c ∷ []) h = refl
cells_short (a ∷ b ∷ c ∷ d ∷ rest) h = absurd (omega arith)

-- four bytes are the first cell
pub cells_front : (bs : List ℕ) → 4 ≤ length bs → cells_of bs ≡ from_be_bytes w32 (take 4 bs) ∷ cells_of (drop 4 bs)
cells_front [] h = absurd (omega arith)
cells_front (a ∷ []) h = absurd (omega arith)
cells_front (a ∷ b ∷ []) h = absurd (omega arith)
cells_front (a ∷ b ∷ c ∷ []) h = absurd (omega arith)
cells_front (a ∷ b ∷ c ∷ d ∷ rest) h = refl

pub cells_next : (bs new : List ℕ) (cell : ℕ) → cell ≡ from_be_bytes w32 (take 4 bs) → new ≡ drop 4 bs → 4 ≤ length bs → cells_of bs ≡ cell ∷ cells_of new
cells_next bs new cell e f h = cells_front bs h ∙ (ap (λ c. c ∷ cells_of (drop 4 bs)) (sym e) ∙ ap (λ xs. cell ∷ cells_of xs) (sym f))

-- one cell more of a number
pub fold_next : (f : ℕ → ℕ → ℕ) (k j n c : ℕ) (cells rest : List ℕ) (x : ℕ) → k ≡ suc j → cells ≡ c ∷ rest → fold f n (take k cells) ≡ x → fold f (f n c) (take j rest) ≡ x
fold_next f k j n c cells rest x e g h =
    let a : fold f n (take k (c ∷ rest)) ≡ x = subst (λ ys. fold f n (take k ys) ≡ x) g h in
    subst (λ m. fold f n (take m (c ∷ rest)) ≡ x) e a

pub drop_next : (k j c : ℕ) (cells rest xs : List ℕ) → k ≡ suc j → cells ≡ c ∷ rest → drop k cells ≡ xs → drop j rest ≡ xs
drop_next k j c cells rest xs e g h =
    let a : drop k (c ∷ rest) ≡ xs = subst (λ ys. drop k ys ≡ xs) g h in
    subst (λ m. drop m (c ∷ rest) ≡ xs) e a

pub drop_none : (k : ℕ) (cells xs : List ℕ) → cells ≡ [] → drop k cells ≡ xs → [] ≡ xs
drop_none zero cells xs e h = sym e ∙ h
drop_none (suc k) cells xs e h = subst (λ ys. drop (suc k) ys ≡ xs) e h

-- the bytes of one part more, modulo a number
pub over_next : (o u i : ℕ) (parts : List Part) (p : Part) (total : ℕ) → i < length parts → p ≡ slice_index_or parts i p
    → (o + length (bytes_of (drop i parts))) % u ≡ total → ((o + length p.bytes % u) % u + length (bytes_of (drop (i + 1) parts))) % u ≡ total
over_next o u i parts p total within e h =
    let l : ℕ = length p.bytes in
    let more : ℕ = length (bytes_of (drop (i + 1) parts)) in
    let cut : drop i parts ≡ p ∷ drop (i + 1) parts = drop_more parts i p within ∙ ap (λ q. q ∷ drop (i + 1) parts) (sym e) in
    let both : length (bytes_of (drop i parts)) ≡ l + more = ap (λ ps. length (bytes_of ps)) cut ∙ length-append p.bytes (bytes_of (drop (i + 1) parts)) in
    let a : ((o + l % u) % u + more) % u ≡ (o + l % u + more) % u = mod-add-mod (o + l % u) u more in
    let swap : o + l % u + more ≡ o + more + l % u = omega arith in
    let b : (o + more + l % u) % u ≡ (o + more + l) % u = add-mod-mod (o + more) l u in
    let back : o + more + l ≡ o + (l + more) = omega arith in
    a ∙ (ap (λ n. n % u) swap ∙ (b ∙ (ap (λ n. n % u) back ∙ (ap (λ n. (o + n) % u) (sym both) ∙ h))))

pub fold_none : (f : ℕ → ℕ → ℕ) (k n : ℕ) (cells : List ℕ) (x : ℕ) → cells ≡ [] → fold f n (take k cells) ≡ x → n ≡ x
fold_none f zero n cells x e h = h
fold_none f (suc k) n cells x e h = subst (λ ys. fold f n (take (suc k) ys) ≡ x) e h
