-- The steps of adding an included file's levels, at their places.
use Rattle.std.proofs.Common.{◌≡◌, ◌+◌, ◌<◌, ◌≤◌, sym, subst, ℕ, suc, Bool, true, List, [], ◌∷◌, length, drop, get_or, drop-cons, arith}
use Rattle.bind_load.specs.RecordData.{FilterLevel}
use Rattle.bind_merge.specs.Adding.{AddsAt, behind, onto, below, no_more, Comes, ClashAt, ClashFrom, top_filter, filter_below}
use Rattle.bind_merge.specs.Joining.{passed}
use Rattle.bind_merge.specs.Levels.{LevelTable}
use Rattle.bind_merge.proofs.Clashing.{comes-step, comes-stop}

plus-one : (k : ℕ) → suc k ≡ k + 1
plus-one k = omega arith

level-at : (es : List LevelTable) (k : ℕ) (z : LevelTable) → k < length es → z ≡ get_or es k z → drop k es ≡ z ∷ drop (k + 1) es
level-at es k z h e =
    subst (λ w. drop k es ≡ w ∷ drop (k + 1) es) (sym e)
    (subst (λ m. drop k es ≡ get_or es k z ∷ drop m es) (plus-one k) (drop-cons es k z h))

pub past-length : (ts : List LevelTable) (k : ℕ) (l : LevelTable) (us : List LevelTable) → AddsAt ts k l us → k + 1 ≤ length us
past-length _ _ _ _ (behind l) = omega arith
past-length _ _ _ _ (onto a rest l j h) = omega arith
past-length _ _ _ _ (below a rest n l js h) = let r : n + 1 ≤ length js = past-length rest n l js h in omega arith

module _ (ls : List LevelTable) (i : ℕ) (z : LevelTable) (h : i < length ls) (is : z ≡ get_or ls i z) (ts : List LevelTable) (n : ℕ) (fs : List FilterLevel) where
  pub goes-on : (gs : List FilterLevel) (bs : List LevelTable) → gs ≡ filter_below fs → AddsAt ts n (passed (top_filter fs) z) bs
      → (b : Bool) (us : List LevelTable) → Comes b bs (n + 1) (drop (i + 1) ls) gs us → Comes b ts n (drop i ls) fs us
  goes-on gs bs e a b us c =
      let c1 : Comes b bs (suc n) (drop (i + 1) ls) gs us = subst (λ m. Comes b bs m (drop (i + 1) ls) gs us) (sym (plus-one n)) c in
      let c2 : Comes b bs (suc n) (drop (i + 1) ls) (filter_below fs) us = subst (λ g. Comes b bs (suc n) (drop (i + 1) ls) g us) e c1 in
      subst (λ xs. Comes b ts n xs fs us) (sym (level-at ls i z h is)) (comes-step b ts n z (drop (i + 1) ls) fs bs us a c2)

  pub stops-at : ClashAt ts n (passed (top_filter fs) z) → ClashFrom ts n (drop i ls) fs
  stops-at k = subst (λ xs. ClashFrom ts n xs fs) (sym (level-at ls i z h is)) (comes-stop ts n z (drop (i + 1) ls) fs k)

pub ends-at : (ts : List LevelTable) (n : ℕ) (xs : List LevelTable) (fs : List FilterLevel) → xs ≡ [] → Comes true ts n xs fs ts
ends-at ts n xs fs e = subst (λ x. Comes true ts n x fs ts) (sym e) (no_more ts n fs)
