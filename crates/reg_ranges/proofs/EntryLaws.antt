-- Entries, one at a time.
use Rattle.std.proofs.Common.{◌≡◌, ◌∙◌, ◌-◌, ◌<◌, ◌++◌, ◌∷◌, [], ℕ, zero, suc, Bool, true, false, List, Some, None, length, drop, if◌then◌else◌, refl, sym, ap, subst, arith, append_assoc, length-drop}
use Rattle.reg_ranges.specs.Cutting.{entries, entries_after}

behind : {X : Type 0} (make : List ℕ → X) (gap skip : ℕ) (cells : List ℕ) → entries_after make gap skip cells ≡ entries_after make gap 0 (drop skip cells)
behind make gap zero [] = refl
behind make gap (suc skip) [] = refl
behind make gap zero (c ∷ cs) = refl
behind make gap (suc skip) (c ∷ cs) = behind make gap skip cs

-- an entry more
pub entries_next : {X : Type 0} (make : List ℕ → X) (size : ℕ) (cells : List ℕ) → 0 < size → 0 < length cells → entries make size cells ≡ make cells ∷ entries make size (drop size cells)
entries_next make zero cells some more = absurd (omega arith)
entries_next make (suc n) [] some more = absurd (omega arith)
entries_next make (suc n) (c ∷ cs) some more =
    let gap : n ≡ suc n - 1 = omega arith in
    subst (λ g. entries_after make g 0 (c ∷ cs) ≡ make (c ∷ cs) ∷ entries_after make g 0 (drop n cs)) gap (ap (λ es. make (c ∷ cs) ∷ es) (behind make n n cs))

pub entries_none : {X : Type 0} (make : List ℕ → X) (size : ℕ) (cells : List ℕ) → cells ≡ [] → entries make size cells ≡ []
entries_none make size cells e = subst (λ cs. entries make size cs ≡ []) (sym e) refl

-- what is read so far, and the rest
pub read_more : {X : Type 0} (make : List ℕ → X) (size : ℕ) (cells rest : List ℕ) (x : X) (read all new : List X) → 0 < size → 0 < length cells
    → x ≡ make cells → rest ≡ drop size cells → new ≡ read ++ x ∷ [] → read ++ entries make size cells ≡ all → new ++ entries make size rest ≡ all
read_more make size cells rest x read all new some more is left pushed e =
    let a : new ++ entries make size rest ≡ (read ++ x ∷ []) ++ entries make size rest = ap (λ xs. xs ++ entries make size rest) pushed in
    let b : (read ++ x ∷ []) ++ entries make size rest ≡ read ++ (x ∷ entries make size rest) = append_assoc read (x ∷ []) (entries make size rest) in
    let f : x ∷ entries make size rest ≡ entries make size cells =
    ap (λ y. y ∷ entries make size rest) is ∙ (ap (λ cs. make cells ∷ entries make size cs) left ∙ sym (entries_next make size cells some more)) in
    a ∙ (b ∙ (ap (λ es. read ++ es) f ∙ e))

pub fewer_left : (size : ℕ) (cells rest : List ℕ) → 0 < size → 0 < length cells → rest ≡ drop size cells → length rest < length cells
fewer_left size cells rest some more left = omega (arith, ap length left, length-drop size cells)

-- ---- texts
