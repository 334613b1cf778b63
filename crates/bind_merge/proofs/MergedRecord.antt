-- Merging a record with what its includes were resolved to gives what the file holds.
use Rattle.std.proofs.Common.{◌≡◌, ◌⊎◌, ◌+◌, ◌++◌, inl, inr, ◌∙◌, sym, ap, refl, subst, ℕ, zero, suc, Bool, true, false, List, [], ◌∷◌, Option, Some, None, Ok, map}
use Rattle.std.specs.List.{slice_get}
use Rattle.std.specs.Option.{option_and_then}
use Rattle.bind_load.specs.RecordData.{IncludeData, LevelData}
use Rattle.bind_merge.specs.Adding.{AreTablesOf}
use Rattle.bind_merge.specs.Answering.{ClashAmong}
use Rattle.bind_merge.specs.Conflicts.{HasConflict}
use Rattle.bind_merge.specs.Files.{FileData, record_at, named_files, includes_from, at_level, IsAmong}
use Rattle.bind_merge.specs.Holdings.{itself, Includes}
use Rattle.bind_merge.specs.Joining.{ClashOf}
use Rattle.bind_merge.specs.Levels.{LevelTable, OwnData, own_table, own_level}
use Rattle.bind_merge.specs.Uniting.{Unites, all_in, next_in}
use Rattle.bind_merge.specs.Inner.Bringing.{IsSpoiled, Collides, BringsAll, ends, goes_on, stops}
use Rattle.bind_merge.specs.Inner.Resolving.{NameData, ResolvedData, told, AreNames, IsSettled, AreSettled, resolved_at, resolved_as, found_by, own_includes, Merges}
use Rattle.bind_merge.proofs.Clashing.{AreHeld, from-held, clash-conflict, conflict-itself, conflict-below}
use Rattle.bind_merge.proofs.United.{Spoken, says-own, merges_once}

-- the includes of a record are those of its data
own-includes : (m : ℕ) (ls : List LevelData) → own_includes m (map own_level ls) ≡ includes_from m ls
own-includes m [] = refl
own-includes m (l ∷ ls) = ap (λ es. at_level m l.includes ++ es) (own-includes (m + 1) ls)

-- the level at which a record says two values of one key
record ClashesAt (ls : List LevelData) : Type 0 where
  step : ℕ
  level : LevelData
  level_is : slice_get ls step ≡ Some level
  clash : ClashOf (own_table level) (own_table level)

clashes-at : (ls : List LevelData) → ClashAmong (map own_level ls) → ClashesAt ls
clashes-at [] c = absurd c
clashes-at (l ∷ ls) (inl c) = record { step = zero; level = l; level_is = refl; clash = c }
clashes-at (l ∷ ls) (inr c) = let p : ClashesAt ls = clashes-at ls c in record { step = suc p.step; level = p.level; level_is = p.level_is; clash = p.clash }

-- the file that an include names
record Target (files : List FileData) (resolved : List (Option ResolvedData)) (e : ℕ × IncludeData) (found : ResolvedData) : Type 0 where
  file : ℕ
  names : named_files files e.1.name ≡ file ∷ []
  at : resolved_at resolved file ≡ Some found

one-told : (resolved : List (Option ResolvedData)) (xs : List ℕ) (found : ResolvedData) → resolved_as resolved (told xs) ≡ Some found
    → (t : ℕ) × (xs ≡ t ∷ []) × (resolved_at resolved t ≡ Some found)
one-told resolved [] found e = absurd cc
one-told resolved (t ∷ []) found e = (t, refl, e)
one-told resolved (t ∷ u ∷ ts) found e = absurd cc

module _ (names : NameData) (resolved : List (Option ResolvedData)) (files : List FileData) (of : AreNames files names) (settled : AreSettled files resolved) where
  target : (e : ℕ × IncludeData) (found : ResolvedData) → found_by names resolved e ≡ Some found → Target files resolved e found
  target e found is =
      let h : (t : ℕ) × (named_files files e.1.name ≡ t ∷ []) × (resolved_at resolved t ≡ Some found) =
      one-told resolved (named_files files e.1.name) found (subst (λ o. resolved_as resolved o ≡ Some found) (of e.1.name) is) in
      record { file = h.0; names = h.1; at = h.2 }

  -- the merged levels of the files that were resolved
  abbrev tables : ℕ → Option (List LevelTable)
  tables t = option_and_then (λ (r : ResolvedData). r.levels) (resolved_at resolved t)

  table-levels : (t : ℕ) (o : Option ResolvedData) (ls : List LevelTable) → resolved_at resolved t ≡ o → option_and_then (λ (r : ResolvedData). r.levels) o ≡ Some ls → IsSettled files t (Some ls)
  table-levels t None ls is e = absurd cc
  table-levels t (Some r) ls is e = subst (λ x. IsSettled files t x) e (settled t r is)

  settled-some : (t : ℕ) (found : ResolvedData) (o : Option (List LevelTable)) → resolved_at resolved t ≡ Some found → found.levels ≡ o → IsSettled files t o
  settled-some t found o at e = subst (λ x. IsSettled files t x) e (settled t found at)

  unites : (b : Bool) (ts : List LevelTable) (es : List (ℕ × IncludeData)) (us : List LevelTable) → BringsAll names resolved b ts es us → b ≡ true → Unites files tables ts es us
  unites _ _ _ _ (ends ts) t = all_in ts
  unites _ _ _ _ (goes_on b ts e us es vs x h) t =
      let g : Target files resolved e x.found = target e x.found x.found_is in
      next_in ts e es g.file x.levels us vs g.names (ap (λ o. option_and_then (λ (r : ResolvedData). r.levels) o) g.at ∙ x.levels_are) x.adds (unites b us es vs h t)
  unites _ _ _ _ (stops ts e es vs x) t = absurd cc

  module _ (k : ℕ) (ls : List LevelData) (is : record_at files k ≡ Some (Ok ls)) where
    includes : (e : ℕ × IncludeData) → IsAmong e (includes_from 0 ls) → (t : ℕ) → named_files files e.1.name ≡ t ∷ [] → Includes files k e.0 e.1 t
    includes e a t n = record { levels = ls; record_is = is; among = a; names = n }

    stopped : (ts : List LevelTable) (e : ℕ × IncludeData) → IsAmong e (includes_from 0 ls) → AreHeld files k ts → IsSpoiled names resolved e ⊎ Collides names resolved ts e → HasConflict files k
    stopped ts e a h (inl x) =
        let g : Target files resolved e x.found = target e x.found x.found_is in
        conflict-below files k e.0 e.1 g.file (includes e a g.file g.names) (settled-some g.file x.found None g.at x.levels_are)
    stopped ts e a h (inr x) =
        let g : Target files resolved e x.found = target e x.found x.found_is in
        let s : IsSettled files g.file (Some x.levels) = settled-some g.file x.found (Some x.levels) g.at x.levels_are in
        conflict-itself files k (clash-conflict files k e.0 e.1 g.file (includes e a g.file g.names) x.levels s.0 ts h x.clash)

    conflict : (b : Bool) (ts : List LevelTable) (es : List (ℕ × IncludeData)) (us : List LevelTable) → BringsAll names resolved b ts es us → b ≡ false
        → ((e : ℕ × IncludeData) → IsAmong e es → IsAmong e (includes_from 0 ls)) → AreHeld files k ts → HasConflict files k
    conflict _ _ _ _ (ends ts) f sub h = absurd cc
    conflict _ _ _ _ (goes_on b ts e us es vs x r) f sub h =
        let g : Target files resolved e x.found = target e x.found x.found_is in
        let s : IsSettled files g.file (Some x.levels) = settled-some g.file x.found (Some x.levels) g.at x.levels_are in
        conflict b us es vs r f (λ y a. sub y (inr a))
        (from-held files k e.0 e.1 g.file (includes e (sub e (inl refl)) g.file g.names) x.levels s.0 ts us h x.adds)
    conflict _ _ _ _ (stops ts e es vs x) f sub h = stopped ts e (sub e (inl refl)) h x

    tables-held : (ts : List LevelTable) → AreTablesOf (map own_level ls) ts → AreHeld files k ts
    tables-held ts own n f s =
        let p : Spoken ls n f = says-own ls ts own n f s in
        itself k n f (record { levels = ls; level = p.level; record_is = is; level_is = p.level_is; says = p.says })

    own-conflict : ClashAmong (map own_level ls) → HasConflict files k
    own-conflict c =
        let p : ClashesAt ls = clashes-at ls c in
        conflict-itself files k (record {
          step = p.step;
          one = p.clash.one;
          other = p.clash.other;
          holds_one = itself k p.step p.clash.one (record { levels = ls; level = p.level; record_is = is; level_is = p.level_is; says = p.clash.says_one });
          holds_other = itself k p.step p.clash.other (record { levels = ls; level = p.level; record_is = is; level_is = p.level_is; says = p.clash.says_other });
          clash = p.clash.clash;
        })

-- a level of the record says two values of one key
pub merges-clash : (names : NameData) (resolved : List (Option ResolvedData)) (own : List OwnData) → ClashAmong own → Merges names resolved own None
merges-clash names resolved own c files k ls of settled is same =
    own-conflict names resolved files of settled k ls is (subst (λ o. ClashAmong o) (sym same) c)

-- an include can't bring what it has
pub merges-stop : (names : NameData) (resolved : List (Option ResolvedData)) (own : List OwnData) (ts us : List LevelTable) → AreTablesOf own ts
    → BringsAll names resolved false ts (own_includes 0 own) us → Merges names resolved own None
merges-stop names resolved own ts us tables b files k ls of settled is same =
    conflict names resolved files of settled k ls is false ts (includes_from 0 ls) us
    (subst (λ es. BringsAll names resolved false ts es us) (own-includes 0 ls) (subst (λ o. BringsAll names resolved false ts (own_includes 0 o) us) (sym same) b))
    refl (λ e a. a) (tables-held names resolved files of settled k ls is ts (subst (λ o. AreTablesOf o ts) (sym same) tables))

-- all bring what they have
pub merges-all : (names : NameData) (resolved : List (Option ResolvedData)) (own : List OwnData) (ts us : List LevelTable) → AreTablesOf own ts
    → BringsAll names resolved true ts (own_includes 0 own) us → Merges names resolved own (Some us)
merges-all names resolved own ts us are b files k ls of settled is same =
    merges_once files (tables names resolved files of settled)
    (λ t xs e. table-levels names resolved files of settled t (resolved_at resolved t) xs refl e)
    k ls is ts us (subst (λ o. AreTablesOf o ts) (sym same) are)
    (unites names resolved files of settled true ts (includes_from 0 ls) us
    (subst (λ es. BringsAll names resolved true ts es us) (own-includes 0 ls) (subst (λ o. BringsAll names resolved true ts (own_includes 0 o) us) (sym same) b))
    refl)
