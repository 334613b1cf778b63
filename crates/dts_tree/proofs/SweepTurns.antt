-- A turn of the loop that takes slots away.
use Rattle.std.proofs.Common.{◌≡◌, ◌∙◌, ◌+◌, ◌-◌, ◌++◌, ◌∷◌, [], ℕ, suc, zero, List, Some, None, length, refl, sym, ap, arith}
use Rattle.std.specs.Prelude.{slice_get}
use Rattle.std.proofs.lemmas.List.{take_at, length_push, get_or_push, nil_from_length}
use Rattle.std.proofs.lemmas.Option.{slice_get-get_or}
use Rattle.dts_tree.specs.Inner.Arena.{ArenaData, last_slot, but_last, left_at, sweep, work}
use Rattle.dts_tree.proofs.Shape.{below_at}
use Rattle.dts_tree.proofs.Sweeping.{work_falls}

pub last_push : {X : Type 0} (xs : List X) (x : X) → last_slot (xs ++ x ∷ []) ≡ Some x
last_push xs x =
    let e : length (xs ++ x ∷ []) ≡ length xs + 1 = length_push xs x in
    let l : length (xs ++ x ∷ []) - 1 ≡ length xs = omega arith in
    ap (λ i. slice_get (xs ++ x ∷ []) i) l ∙ (slice_get-get_or (xs ++ x ∷ []) (length xs) x (omega arith) ∙ ap Some (get_or_push xs x x (length xs) refl))

pub but_last_push : {X : Type 0} (xs : List X) (x : X) → but_last (xs ++ x ∷ []) ≡ xs
but_last_push xs x =
    let e : length (xs ++ x ∷ []) ≡ length xs + 1 = length_push xs x in
    let l : length xs ≡ length (xs ++ x ∷ []) - 1 = omega arith in
    take_at xs (x ∷ []) (length (xs ++ x ∷ []) - 1) l

pub sweep_turn : (a : ArenaData) (waiting w : List ℕ) (id : ℕ) → waiting ≡ w ++ id ∷ []
    → sweep (work a waiting) a waiting ≡ sweep (work (left_at a id) (w ++ below_at a id)) (left_at a id) (w ++ below_at a id)
sweep_turn a waiting w id whole =
    let f : work (left_at a id) (w ++ below_at a id) + 1 ≡ work a waiting = work_falls a waiting w id whole in
    let n : ℕ = work (left_at a id) (w ++ below_at a id) in
    let s : work a waiting ≡ suc n = omega arith in
    let last : last_slot waiting ≡ Some id = ap last_slot whole ∙ last_push w id in
    let front : but_last waiting ≡ w = ap but_last whole ∙ but_last_push w id in
    ap (λ m. sweep m a waiting) s
    ∙ (ap (λ o. elim o [ None ↦ a | Some i ↦ sweep n (left_at a i) (but_last waiting ++ below_at a i) ]) last
    ∙ ap (λ xs. sweep n (left_at a id) (xs ++ below_at a id)) front)

done_by : (n : ℕ) (a : ArenaData) (waiting : List ℕ) → waiting ≡ [] → sweep n a waiting ≡ a
done_by zero a waiting e = refl
done_by (suc n) a waiting e = ap (λ w. sweep (suc n) a w) e

pub sweep_done : (a : ArenaData) (waiting : List ℕ) → length waiting ≡ 0 → sweep (work a waiting) a waiting ≡ a
sweep_done a waiting h = done_by (work a waiting) a waiting (nil_from_length waiting h)

-- the same, as the loop leaves it
pub swept_on : (a new wanted : ArenaData) (waiting w next : List ℕ) (id : ℕ) → waiting ≡ w ++ id ∷ [] → new ≡ left_at a id → next ≡ w ++ below_at a id
    → sweep (work a waiting) a waiting ≡ wanted → sweep (work new next) new next ≡ wanted
swept_on a new wanted waiting w next id whole left rest h =
    ap (λ x. sweep (work x next) x next) left ∙ (ap (λ xs. sweep (work (left_at a id) xs) (left_at a id) xs) rest ∙ (sym (sweep_turn a waiting w id whole) ∙ h))
