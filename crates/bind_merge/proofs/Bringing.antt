-- The steps of bringing what includes have.
use Rattle.std.proofs.Common.{◌≡◌, ◌⊎◌, ◌+◌, ◌≤◌, ◌<◌, ◌++◌, ◌&&◌, inr, ◌∙◌, sym, ap, refl, subst, ℕ, suc, Bool, true, false, List, [], ◌∷◌, Option, Some, None, length, map, drop, get_or, drop-cons, is_some, arith}
use Rattle.std.specs.List.{list_all}
use Rattle.bind_load.specs.RecordData.{IncludeData, FilterLevel}
use Rattle.bind_merge.specs.Adding.{AddsAt, behind, onto, below, AddsFrom, no_more, one_more, Comes, AreTablesOf}
use Rattle.bind_merge.specs.Files.{at_level}
use Rattle.bind_merge.specs.Levels.{LevelTable, OwnData}
use Rattle.bind_merge.specs.Inner.Bringing.{Brings, IsSpoiled, Collides, BringsIf, BringsAll, ends, goes_on, stops}
use Rattle.bind_merge.specs.Inner.Resolving.{NameData, ResolvedData, found_by, is_ready, own_includes}
use Rattle.bind_merge.proofs.TablesOf.{own-at}

-- ---- levels don't get fewer

at-length : (ts : List LevelTable) (k : ℕ) (l : LevelTable) (us : List LevelTable) → AddsAt ts k l us → length ts ≤ length us
at-length _ _ _ _ (behind l) = omega arith
at-length _ _ _ _ (onto a rest l j h) = omega arith
at-length _ _ _ _ (below a rest n l js h) = let r : length rest ≤ length js = at-length rest n l js h in omega arith

from-length : (ts : List LevelTable) (k : ℕ) (ls : List LevelTable) (fs : List FilterLevel) (us : List LevelTable) → AddsFrom ts k ls fs us → length ts ≤ length us
from-length _ _ _ _ _ (no_more ts k fs) = omega arith
from-length _ _ _ _ _ (one_more ts k l ls fs bs cs a h) =
    let first : length ts ≤ length bs = at-length ts k _ bs a in
    let rest : length bs ≤ length cs = from-length bs (suc k) ls _ cs h in omega arith

pub tables-length : (own : List OwnData) (ts : List LevelTable) → AreTablesOf own ts → length ts ≡ length own
tables-length [] [] h = refl
tables-length [] (t ∷ ts) h = absurd h
tables-length (o ∷ os) [] h = absurd h
tables-length (o ∷ os) (t ∷ ts) h = ap suc (tables-length os ts h.1)

-- ---- tests of lists

and-parts : (a b : Bool) → (a && b) ≡ true → (a ≡ true) × (b ≡ true)
and-parts true b e = (refl, e)
and-parts false b e = absurd cc

module _ {A : Type 0} (test : A → Bool) where
  pub all-first : (x : A) (xs : List A) → list_all test (x ∷ xs) ≡ true → test x ≡ true
  all-first x xs e = (and-parts (test x) (list_all test xs) e).0

  pub all-rest : (x : A) (xs : List A) → list_all test (x ∷ xs) ≡ true → list_all test xs ≡ true
  all-rest x xs e = (and-parts (test x) (list_all test xs) e).1

  pub all-front : (xs ys : List A) → list_all test (xs ++ ys) ≡ true → list_all test xs ≡ true
  all-front [] ys e = refl
  all-front (x ∷ xs) ys e =
      let h : (test x ≡ true) × (list_all test (xs ++ ys) ≡ true) = and-parts (test x) (list_all test (xs ++ ys)) e in
      let r : list_all test xs ≡ true = all-front xs ys h.1 in
      ap (λ b. b && list_all test xs) h.0 ∙ r

  pub all-back : (xs ys : List A) → list_all test (xs ++ ys) ≡ true → list_all test ys ≡ true
  all-back [] ys e = e
  all-back (x ∷ xs) ys e = all-back xs ys (and-parts (test x) (list_all test (xs ++ ys)) e).1

-- ---- bringing

module _ (names : NameData) (resolved : List (Option ResolvedData)) where
  pub brings-length : (ts : List LevelTable) (e : ℕ × IncludeData) (us : List LevelTable) → Brings names resolved ts e us → length ts ≤ length us
  brings-length ts e us b = from-length ts e.0 b.levels e.1.filter us b.adds

  pub all-length : (b : Bool) (ts : List LevelTable) (es : List (ℕ × IncludeData)) (us : List LevelTable) → BringsAll names resolved b ts es us → b ≡ true → length ts ≤ length us
  all-length _ _ _ _ (ends ts) t = omega arith
  all-length _ _ _ _ (goes_on b ts e us es vs x h) t =
      let first : length ts ≤ length us = brings-length ts e us x in
      let rest : length us ≤ length vs = all-length b us es vs h t in omega arith
  all-length _ _ _ _ (stops ts e es vs x) t = absurd cc

  -- an include that is ready names a file that is resolved
  pub none-ready : (e : ℕ × IncludeData) → is_ready names resolved e ≡ true → found_by names resolved e ≡ None → ⊥
  none-ready e t n = let x : false ≡ true = sym (ap is_some n) ∙ t in cc

  -- what an include names was merged, and adding its levels answered
  pub brings-if : (b : Bool) (ts : List LevelTable) (e : ℕ × IncludeData) (us : List LevelTable) (found : ResolvedData) (ls : List LevelTable)
      → found_by names resolved e ≡ Some found → found.levels ≡ Some ls → Comes b ts e.0 ls e.1.filter us → BringsIf names resolved b ts e us
  brings-if true ts e us found ls is has c = record { found = found; found_is = is; levels = ls; levels_are = has; adds = c }
  brings-if false ts e us found ls is has c = inr (record { found = found; found_is = is; levels = ls; levels_are = has; clash = c })

  pub append-true : (b c : Bool) (ts : List LevelTable) (xs : List (ℕ × IncludeData)) (us : List LevelTable) (ys : List (ℕ × IncludeData)) (vs : List LevelTable)
      → BringsAll names resolved b ts xs us → b ≡ true → BringsAll names resolved c us ys vs → BringsAll names resolved c ts (xs ++ ys) vs
  append-true _ c _ _ _ ys vs (ends ts) t k = k
  append-true _ c _ _ _ ys vs (goes_on b ts e us es ws x h) t k = goes_on c ts e us (es ++ ys) vs x (append-true b c us es ws ys vs h t k)
  append-true _ c _ _ _ ys vs (stops ts e es ws x) t k = absurd cc

  pub append-false : (b : Bool) (ts : List LevelTable) (xs : List (ℕ × IncludeData)) (us : List LevelTable) (ys : List (ℕ × IncludeData))
      → BringsAll names resolved b ts xs us → b ≡ false → BringsAll names resolved false ts (xs ++ ys) us
  append-false _ _ _ _ ys (ends ts) t = absurd cc
  append-false _ _ _ _ ys (goes_on b ts e us es ws x h) t = goes_on false ts e us (es ++ ys) ws x (append-false b us es ws ys h t)
  append-false _ _ _ _ ys (stops ts e es ws x) t = stops ts e (es ++ ys) ws x

  -- what the includes that are left bring to what is there is what all bring
  pub record Going (ts : List LevelTable) (es : List (ℕ × IncludeData)) (us : List LevelTable) (left : List (ℕ × IncludeData)) : Type 0 where
    pub go : (b : Bool) (vs : List LevelTable) → BringsAll names resolved b us left vs → BringsAll names resolved b ts es vs

  pub going-starts : (ts : List LevelTable) (es : List (ℕ × IncludeData)) → Going ts es ts es
  going-starts ts es = record { go = λ b vs h. h }

  plus-one : (k : ℕ) → suc k ≡ k + 1
  plus-one k = omega arith

  -- the includes of one level
  module _ {A : Type 0} (f : A → IncludeData) where
    item-at : (xs : List A) (k : ℕ) (z : A) → k < length xs → z ≡ get_or xs k z → drop k xs ≡ z ∷ drop (k + 1) xs
    item-at xs k z h e =
        subst (λ w. drop k xs ≡ w ∷ drop (k + 1) xs) (sym e)
        (subst (λ m. drop k xs ≡ get_or xs k z ∷ drop m xs) (plus-one k) (drop-cons xs k z h))

    module _ (m : ℕ) (xs : List A) (k : ℕ) (z : A) (l : k < length xs) (is : z ≡ get_or xs k z) where
      pub includes-ready : list_all (is_ready names resolved) (at_level m (map f (drop k xs))) ≡ true
          → (is_ready names resolved (m, f z) ≡ true) × (list_all (is_ready names resolved) (at_level m (map f (drop (k + 1) xs))) ≡ true)
      includes-ready r =
          let h : list_all (is_ready names resolved) ((m, f z) ∷ at_level m (map f (drop (k + 1) xs))) ≡ true =
          subst (λ ys. list_all (is_ready names resolved) (at_level m (map f ys)) ≡ true) (item-at xs k z l is) r in (
            all-first (is_ready names resolved) (m, f z) (at_level m (map f (drop (k + 1) xs))) h,
            all-rest (is_ready names resolved) (m, f z) (at_level m (map f (drop (k + 1) xs))) h,
          )

      pub includes-next : (ts : List LevelTable) (es : List (ℕ × IncludeData)) (us ws : List LevelTable) → Going ts es us (at_level m (map f (drop k xs)))
          → BringsIf names resolved true us (m, f z) ws → Going ts es ws (at_level m (map f (drop (k + 1) xs)))
      includes-next ts es us ws g x =
          let h : Going ts es us ((m, f z) ∷ at_level m (map f (drop (k + 1) xs))) =
          subst (λ ys. Going ts es us (at_level m (map f ys))) (item-at xs k z l is) g in
          record { go = λ b vs r. h.go b vs (goes_on b us (m, f z) ws (at_level m (map f (drop (k + 1) xs))) vs x r) }

      pub includes-stop : (ts : List LevelTable) (es : List (ℕ × IncludeData)) (us vs : List LevelTable) → Going ts es us (at_level m (map f (drop k xs)))
          → IsSpoiled names resolved (m, f z) ⊎ Collides names resolved us (m, f z) → BringsAll names resolved false ts es vs
      includes-stop ts es us vs g x =
          let h : Going ts es us ((m, f z) ∷ at_level m (map f (drop (k + 1) xs))) =
          subst (λ ys. Going ts es us (at_level m (map f ys))) (item-at xs k z l is) g in
          h.go false vs (stops us (m, f z) (at_level m (map f (drop (k + 1) xs))) vs x)

    pub includes-end : (m : ℕ) (ys : List A) (ts : List LevelTable) (es : List (ℕ × IncludeData)) (us : List LevelTable) → ys ≡ []
        → Going ts es us (at_level m (map f ys)) → BringsAll names resolved true ts es us
    includes-end m ys ts es us e g =
        let h : Going ts es us [] = subst (λ y. Going ts es us (at_level m (map f y))) e g in h.go true us (ends us)

  -- the includes of all levels
  module _ (own : List OwnData) (k : ℕ) (o : OwnData) (l : k < length own) (is : o ≡ get_or own k o) where
    own-opened : own_includes k (drop k own) ≡ at_level k o.includes ++ own_includes (k + 1) (drop (k + 1) own)
    own-opened = ap (λ xs. own_includes k xs) (own-at own k o l is)

    pub own-ready : list_all (is_ready names resolved) (own_includes k (drop k own)) ≡ true
        → (list_all (is_ready names resolved) (at_level k o.includes) ≡ true) × (list_all (is_ready names resolved) (own_includes (k + 1) (drop (k + 1) own)) ≡ true)
    own-ready r =
        let h : list_all (is_ready names resolved) (at_level k o.includes ++ own_includes (k + 1) (drop (k + 1) own)) ≡ true =
        subst (λ xs. list_all (is_ready names resolved) xs ≡ true) own-opened r in (
          all-front (is_ready names resolved) (at_level k o.includes) (own_includes (k + 1) (drop (k + 1) own)) h,
          all-back (is_ready names resolved) (at_level k o.includes) (own_includes (k + 1) (drop (k + 1) own)) h,
        )

    pub own-next : (ts : List LevelTable) (es : List (ℕ × IncludeData)) (us ws : List LevelTable) → Going ts es us (own_includes k (drop k own))
        → BringsAll names resolved true us (at_level k o.includes) ws → Going ts es ws (own_includes (k + 1) (drop (k + 1) own))
    own-next ts es us ws g x =
        let h : Going ts es us (at_level k o.includes ++ own_includes (k + 1) (drop (k + 1) own)) = subst (λ xs. Going ts es us xs) own-opened g in
        record { go = λ b vs r. h.go b vs (append-true true b us (at_level k o.includes) ws (own_includes (k + 1) (drop (k + 1) own)) vs x refl r) }

    pub own-stop : (ts : List LevelTable) (es : List (ℕ × IncludeData)) (us ws : List LevelTable) → Going ts es us (own_includes k (drop k own))
        → BringsAll names resolved false us (at_level k o.includes) ws → BringsAll names resolved false ts es ws
    own-stop ts es us ws g x =
        let h : Going ts es us (at_level k o.includes ++ own_includes (k + 1) (drop (k + 1) own)) = subst (λ xs. Going ts es us xs) own-opened g in
        h.go false ws (append-false false us (at_level k o.includes) ws (own_includes (k + 1) (drop (k + 1) own)) x refl)

  pub own-end : (k : ℕ) (os : List OwnData) (ts : List LevelTable) (es : List (ℕ × IncludeData)) (us : List LevelTable) → os ≡ []
      → Going ts es us (own_includes k os) → BringsAll names resolved true ts es us
  own-end k os ts es us e g = let h : Going ts es us [] = subst (λ y. Going ts es us (own_includes k y)) e g in h.go true us (ends us)
