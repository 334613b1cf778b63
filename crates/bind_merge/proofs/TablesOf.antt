-- The tables of a record's levels, one after another.
use Rattle.std.proofs.Common.{◌≡◌, ◌+◌, ◌<◌, ◌++◌, inl, inr, sym, ap, refl, subst, ℕ, suc, List, [], ◌∷◌, length, drop, get_or, drop-cons, append_assoc, arith}
use Rattle.bind_merge.specs.Adding.{IsTableOf, AreTablesOf}
use Rattle.bind_merge.specs.Answering.{ClashAmong}
use Rattle.bind_merge.specs.Joining.{ClashOf}
use Rattle.bind_merge.specs.Levels.{LevelTable, OwnData}

-- the tables so far, with those of the levels that are left, are those of all; a clash in what is
-- left is one of all
pub record SoFar (own left : List OwnData) (ts : List LevelTable) : Type 0 where
  pub tables : (rest : List LevelTable) → AreTablesOf left rest → AreTablesOf own (ts ++ rest)
  pub clash : ClashAmong left → ClashAmong own

pub starts : (own : List OwnData) → SoFar own own []
starts own = record { tables = λ rest h. h; clash = λ c. c }

next : (own left : List OwnData) (ts : List LevelTable) (o : OwnData) (t : LevelTable) → SoFar own (o ∷ left) ts → IsTableOf o.table t → SoFar own left (ts ++ t ∷ [])
next own left ts o t s h = record {
  tables = λ rest r. subst (λ l. AreTablesOf own l) (sym (append_assoc ts (t ∷ []) rest)) (s.tables (t ∷ rest) (h, r));
  clash = λ c. s.clash (inr c);
}

plus-one : (k : ℕ) → suc k ≡ k + 1
plus-one k = omega arith

pub own-at : (es : List OwnData) (k : ℕ) (z : OwnData) → k < length es → z ≡ get_or es k z → drop k es ≡ z ∷ drop (k + 1) es
own-at es k z h e =
    subst (λ w. drop k es ≡ w ∷ drop (k + 1) es) (sym e)
    (subst (λ m. drop k es ≡ get_or es k z ∷ drop m es) (plus-one k) (drop-cons es k z h))

pub next-at : (own : List OwnData) (k : ℕ) (o : OwnData) (ts : List LevelTable) (t : LevelTable) → k < length own → o ≡ get_or own k o
    → SoFar own (drop k own) ts → IsTableOf o.table t → SoFar own (drop (k + 1) own) (ts ++ t ∷ [])
next-at own k o ts t l e s h = next own (drop (k + 1) own) ts o t (subst (λ x. SoFar own x ts) (own-at own k o l e) s) h

pub stop-at : (own : List OwnData) (k : ℕ) (o : OwnData) (ts : List LevelTable) → k < length own → o ≡ get_or own k o
    → SoFar own (drop k own) ts → ClashOf o.table o.table → ClashAmong own
stop-at own k o ts l e s c = s.clash (subst (λ x. ClashAmong x) (sym (own-at own k o l e)) (inl c))

append-nil : (ts : List LevelTable) → ts ++ [] ≡ ts
append-nil [] = refl
append-nil (t ∷ ts) = ap (λ l. t ∷ l) (append-nil ts)

pub all-at : (own left : List OwnData) (ts : List LevelTable) → left ≡ [] → SoFar own left ts → AreTablesOf own ts
all-at own left ts e s =
    let h : AreTablesOf left [] = subst (λ x. AreTablesOf x []) (sym e) tt in
    subst (λ l. AreTablesOf own l) (append-nil ts) (s.tables [] h)
