-- Resolving the files of one height, those below being resolved.
use Rattle.std.proofs.Common.{◌≡◌, ◌∙◌, sym, ap, subst, refl, ◌+◌, ◌-◌, ◌<◌, ◌≤◌, ◌≢◌, ◌&&◌, ◌++◌, ℕ, zero, suc, Bool, true, false, List, [], ◌∷◌, get_or, length, map, Option, Some, None, Result, Ok, Err, is_some, nat_lt, nat_eq, arith}
use Rattle.std.specs.List.{list_all, slice_get, slice_set}
use Rattle.std.specs.Option.{option_and_then}
use Rattle.std.proofs.lemmas.Bool.Decides.{Decides-ltb, Decides-eqb}
use Rattle.std.proofs.lemmas.Option.{slice_get_read, slice_get_within}
use Rattle.edt_base.specs.declared.fault.Fault.{Fault}
use Rattle.bind_load.specs.RecordData.{IncludeData, LevelData}
use Rattle.bind_merge.specs.Cleanness.{the_one, clean_include, clean_record, is_clean}
use Rattle.bind_merge.specs.Files.{FileData, record_at, named_files, at_level, includes_from}
use Rattle.bind_merge.specs.Levels.{LevelTable, OwnData, own_level}
use Rattle.bind_merge.specs.declared.names.Named.{Named}
use Rattle.bind_merge.specs.declared.names.Named.TheVariants.{One, Several}
use Rattle.bind_merge.specs.declared.reading.Read.{Read}
use Rattle.bind_merge.specs.declared.reading.Read.TheVariants.{Good, Bad}
use Rattle.bind_merge.specs.Inner.Heights.{is_below, is_low, all_low, Resolves, not_good, before, too_high, at_once, IsLow, AreResolvedTo, AreResolved, AllResolved, AllResolvedTo, AreNone}
use Rattle.bind_merge.specs.Inner.Reading.{IsReadAt, AreRead, read_at, is_read_at, is_read_as, leads_to_read, all_read, own_in, own_at, IsClosed}
use Rattle.bind_merge.specs.Inner.Resolving.{AreNames, AreSettled, IsSettled, Merges, NameData, ResolvedData, named_in, told, resolved_as, resolved_at, own_includes, is_ready, are_ready}
use Rattle.bind_merge.proofs.Walking.{clean-more}

both : (a b : Bool) → a ≡ true → b ≡ true → (a && b) ≡ true
both true b e f = f
both false b e f = absurd cc

parts : (a b : Bool) → (a && b) ≡ true → (a ≡ true) × (b ≡ true)
parts true b e = (refl, e)
parts false b e = absurd cc

all-both : {X : Type 0} (test : X → Bool) (xs ys : List X) → list_all test xs ≡ true → list_all test ys ≡ true → list_all test (xs ++ ys) ≡ true
all-both test [] ys e f = f
all-both test (x ∷ xs) ys e f =
    let p : (test x ≡ true) × (list_all test xs ≡ true) = parts (test x) (list_all test xs) e in
    both (test x) (list_all test (xs ++ ys)) p.0 (all-both test xs ys p.1 f)

-- ---- a list with one place set

pub slice-set-other : {X : Type 0} (xs : List X) (k : ℕ) (v : X) (j : ℕ) → j ≢ k → slice_get (slice_set xs k v) j ≡ slice_get xs j
slice-set-other [] k v j h = refl
slice-set-other (x ∷ xs) zero v zero h = absurd (h refl)
slice-set-other (x ∷ xs) zero v (suc j) h = refl
slice-set-other (x ∷ xs) (suc k) v zero h = refl
slice-set-other (x ∷ xs) (suc k) v (suc j) h = slice-set-other xs k v j (λ e. h (ap suc e))

pub slice-set-same : {X : Type 0} (xs : List X) (k : ℕ) (v : X) → k < length xs → slice_get (slice_set xs k v) k ≡ Some v
slice-set-same [] k v l = absurd (omega arith)
slice-set-same (x ∷ xs) zero v l = refl
slice-set-same (x ∷ xs) (suc k) v l = slice-set-same xs k v (omega arith)

-- ---- what is low is ready

below-some : (h : ℕ) (o : Option ResolvedData) → is_below h o ≡ true → is_some o ≡ true
below-some h None e = absurd cc
below-some h (Some r) e = refl

ready-level : (names : NameData) (resolved : List (Option ResolvedData)) (h m : ℕ) (is : List IncludeData)
    → list_all (is_low names resolved h) is ≡ true → list_all (is_ready names resolved) (at_level m is) ≡ true
ready-level names resolved h m [] e = refl
ready-level names resolved h m (i ∷ is) e =
    let p : (is_low names resolved h i ≡ true) × (list_all (is_low names resolved h) is ≡ true) = parts _ _ e in
    both _ _ (below-some h (resolved_as resolved (named_in names i.name)) p.0) (ready-level names resolved h m is p.1)

low-ready-from : (names : NameData) (resolved : List (Option ResolvedData)) (h m : ℕ) (own : List OwnData)
    → all_low names resolved h own ≡ true → list_all (is_ready names resolved) (own_includes m own) ≡ true
low-ready-from names resolved h m [] e = refl
low-ready-from names resolved h m (l ∷ ls) e =
    let p : (list_all (is_low names resolved h) l.includes ≡ true) × (all_low names resolved h ls ≡ true) = parts _ _ e in
    all-both (is_ready names resolved) (at_level m l.includes) (own_includes (m + 1) ls)
    (ready-level names resolved h m l.includes p.0) (low-ready-from names resolved h (m + 1) ls p.1)

pub low_ready : (names : NameData) (resolved : List (Option ResolvedData)) (h : ℕ) (own : List OwnData)
    → all_low names resolved h own ≡ true → are_ready names resolved own ≡ true
low_ready names resolved h own e = low-ready-from names resolved h 0 own e

-- ---- what is low is clean below

module _ (files : List FileData) (names : NameData) (resolved : List (Option ResolvedData)) (h : ℕ) (test : ℕ → Bool) (known : AreNames files names) where
  below-clean : ((t : ℕ) (r : ResolvedData) → resolved_at resolved t ≡ Some r → r.height < h → test t ≡ true)
      → (t : ℕ) (o : Option ResolvedData) → resolved_at resolved t ≡ o → is_below h o ≡ true → test t ≡ true
  below-clean each t None e b = absurd cc
  below-clean each t (Some r) e b = each t r e ((Decides-ltb r.height h).0 b)

  named-low : ((t : ℕ) (r : ResolvedData) → resolved_at resolved t ≡ Some r → r.height < h → test t ≡ true)
      → (ns : List ℕ) → is_below h (resolved_as resolved (told ns)) ≡ true → the_one test ns ≡ true
  named-low each [] b = absurd cc
  named-low each (t ∷ []) b = below-clean each t (resolved_at resolved t) refl b
  named-low each (t ∷ u ∷ ts) b = absurd cc

  level-low : ((t : ℕ) (r : ResolvedData) → resolved_at resolved t ≡ Some r → r.height < h → test t ≡ true)
      → (m : ℕ) (is : List IncludeData) → list_all (is_low names resolved h) is ≡ true → list_all (clean_include files test) (at_level m is) ≡ true
  level-low each m [] e = refl
  level-low each m (i ∷ is) e =
      let p : (is_low names resolved h i ≡ true) × (list_all (is_low names resolved h) is ≡ true) = parts _ _ e in
      both _ _ (named-low each (named_files files i.name) (ap (λ o. is_below h (resolved_as resolved o)) (sym (known i.name)) ∙ p.0)) (level-low each m is p.1)

  low-clean : ((t : ℕ) (r : ResolvedData) → resolved_at resolved t ≡ Some r → r.height < h → test t ≡ true)
      → (m : ℕ) (ls : List LevelData) → all_low names resolved h (map own_level ls) ≡ true → list_all (clean_include files test) (includes_from m ls) ≡ true
  low-clean each m [] e = refl
  low-clean each m (l ∷ ls) e =
      let p : (list_all (is_low names resolved h) l.includes ≡ true) × (all_low names resolved h (map own_level ls) ≡ true) = parts _ _ e in
      all-both (clean_include files test) (at_level m l.includes) (includes_from (m + 1) ls)
      (level-low each m l.includes p.0) (low-clean each (m + 1) ls p.1)

  -- ---- what is clean below is low

  module _ (reads : List (Option Read)) where
    low-below : (t : ℕ) → ((r : ResolvedData) × (resolved_at resolved t ≡ Some r) × (r.height < h)) → is_below h (resolved_at resolved t) ≡ true
    low-below t (r, e, l) = ap (is_below h) e ∙ (Decides-ltb r.height h).1 l

    named-clean : ((t : ℕ) → is_read_at reads t ≡ true → test t ≡ true → (r : ResolvedData) × (resolved_at resolved t ≡ Some r) × (r.height < h))
        → (ns : List ℕ) → is_read_as reads (told ns) ≡ true → the_one test ns ≡ true → is_below h (resolved_as resolved (told ns)) ≡ true
    named-clean each [] w e = absurd cc
    named-clean each (t ∷ []) w e = low-below t (each t w e)
    named-clean each (t ∷ u ∷ ts) w e = absurd cc

    level-clean : ((t : ℕ) → is_read_at reads t ≡ true → test t ≡ true → (r : ResolvedData) × (resolved_at resolved t ≡ Some r) × (r.height < h))
        → (m : ℕ) (is : List IncludeData) → list_all (leads_to_read names reads) is ≡ true → list_all (clean_include files test) (at_level m is) ≡ true
        → list_all (is_low names resolved h) is ≡ true
    level-clean each m [] w e = refl
    level-clean each m (i ∷ is) w e =
        let v : (leads_to_read names reads i ≡ true) × (list_all (leads_to_read names reads) is ≡ true) = parts _ _ w in
        let p : (the_one test (named_files files i.name) ≡ true) × (list_all (clean_include files test) (at_level m is) ≡ true) = parts _ _ e in
        both _ _ (ap (λ o. is_below h (resolved_as resolved o)) (known i.name)
        ∙ named-clean each (named_files files i.name) (ap (is_read_as reads) (sym (known i.name)) ∙ v.0) p.0)
        (level-clean each m is v.1 p.1)

    all-split : {X : Type 0} (f : X → Bool) (xs ys : List X) → list_all f (xs ++ ys) ≡ true → (list_all f xs ≡ true) × (list_all f ys ≡ true)
    all-split f [] ys e = (refl, e)
    all-split f (x ∷ xs) ys e =
        let p : (f x ≡ true) × (list_all f (xs ++ ys) ≡ true) = parts _ _ e in
        let q : (list_all f xs ≡ true) × (list_all f ys ≡ true) = all-split f xs ys p.1 in
        (both _ _ p.0 q.0, q.1)

    clean-low : ((t : ℕ) → is_read_at reads t ≡ true → test t ≡ true → (r : ResolvedData) × (resolved_at resolved t ≡ Some r) × (r.height < h))
        → (m : ℕ) (ls : List LevelData) → all_read names reads (map own_level ls) ≡ true → list_all (clean_include files test) (includes_from m ls) ≡ true
        → all_low names resolved h (map own_level ls) ≡ true
    clean-low each m [] w e = refl
    clean-low each m (l ∷ ls) w e =
        let v : (list_all (leads_to_read names reads) l.includes ≡ true) × (all_read names reads (map own_level ls) ≡ true) = parts _ _ w in
        let p : (list_all (clean_include files test) (at_level m l.includes) ≡ true) × (list_all (clean_include files test) (includes_from (m + 1) ls) ≡ true)
        = all-split (clean_include files test) (at_level m l.includes) (includes_from (m + 1) ls) e in
        both _ _ (level-clean each m l.includes v.0 p.0) (clean-low each (m + 1) ls v.1 p.1)

-- ---- within a depth

clean-up : (files : List FileData) (k a n : ℕ) → is_clean files a k ≡ true → is_clean files (n + a) k ≡ true
clean-up files k a zero e = let s : a ≡ 0 + a = omega arith in subst (λ d. is_clean files d k ≡ true) s e
clean-up files k a (suc n) e =
    let s : suc (n + a) ≡ suc n + a = omega arith in
    subst (λ d. is_clean files d k ≡ true) s (clean-more (n + a) files k (clean-up files k a n e))

pub clean-le : (files : List FileData) (k a d : ℕ) → a ≤ d → is_clean files a k ≡ true → is_clean files d k ≡ true
clean-le files k a d l e =
    let s : (d - a) + a ≡ d = omega arith in
    subst (λ n. is_clean files n k ≡ true) s (clean-up files k a (d - a) e)

-- the test of the files that a file of height h includes
abbrev test_below : List FileData → ℕ → ℕ → Bool
test_below files zero = λ t. false
test_below files (suc d) = is_clean files d

clean-by : (files : List FileData) (h k : ℕ) → is_clean files h k ≡ clean_record files (test_below files h) (record_at files k)
clean-by files zero k = refl
clean-by files (suc d) k = refl

low-test : (files : List FileData) (reads : List (Option Read)) (h n : ℕ) (resolved : List (Option ResolvedData)) → AreResolvedTo files reads h n resolved
    → (t : ℕ) (r : ResolvedData) → resolved_at resolved t ≡ Some r → r.height < h → test_below files h t ≡ true
low-test files reads zero n resolved a t r e l = absurd (omega arith)
low-test files reads (suc d) n resolved a t r e l = clean-le files t r.height d (omega arith) (a.sound t r e).1

test-low : (files : List FileData) (reads : List (Option Read)) (h n : ℕ) (resolved : List (Option ResolvedData)) → AreResolvedTo files reads h n resolved
    → (t : ℕ) → is_read_at reads t ≡ true → test_below files h t ≡ true → (r : ResolvedData) × (resolved_at resolved t ≡ Some r) × (r.height < h)
test-low files reads zero n resolved a t w e = absurd cc
test-low files reads (suc d) n resolved a t w e =
    let x : IsLow resolved t d = a.all t d (omega arith) w e in
    let l = x.low in
    (x.found, x.found_is, omega (arith, l))

-- ---- one file

-- the record of a file whose good record was read
own-content : (files : List FileData) (reads : List (Option Read)) (k : ℕ) (own : List OwnData) → AreRead files reads → own_at reads k ≡ Some own
    → (ls : List LevelData) × (record_at files k ≡ Some (Ok ls)) × (map own_level ls ≡ own)
own-content files reads k own a e = at (read_at reads k) refl e
  where
    at : (o : Option Read) → read_at reads k ≡ o → option_and_then own_in o ≡ Some own
        → (ls : List LevelData) × (record_at files k ≡ Some (Ok ls)) × (map own_level ls ≡ own)
    at None r h = absurd cc
    at (Some (Good levels)) r h =
        let x : IsReadAt files k (Good levels) = a k (Good levels) r in
        let y = x.read in
        let s : levels.items ≡ own = cc in
        (y.0, x.content_is ∙ ap Some y.1, y.2 ∙ s)
    at (Some (Bad f)) r h = absurd cc

-- a read file without a good record isn't without fault
bad-unclean : (files : List FileData) (reads : List (Option Read)) (h k : ℕ) → AreRead files reads → own_at reads k ≡ None → is_read_at reads k ≡ true
    → is_clean files h k ≡ true → ⊥
bad-unclean files reads h k a e w c = at (read_at reads k) refl e w
  where
    at : (o : Option Read) → read_at reads k ≡ o → option_and_then own_in o ≡ None → is_some o ≡ true → ⊥
    at None r g w = absurd cc
    at (Some (Good levels)) r g w = absurd cc
    at (Some (Bad f)) r g w =
        let x : IsReadAt files k (Bad f) = a k (Bad f) r in
        let y : record_at files k ≡ Some (Err f) = x.content_is ∙ ap Some x.read in
        let z : clean_record files (test_below files h) (Some (Err f)) ≡ true = ap (clean_record files (test_below files h)) (sym y) ∙ (sym (clean-by files h k) ∙ c) in
        absurd cc

-- ---- from one file to the next

at-other : (old : List (Option ResolvedData)) (k : ℕ) (v : Option ResolvedData) (j : ℕ) → j ≢ k → resolved_at (slice_set old k v) j ≡ resolved_at old j
at-other old k v j n = ap (option_and_then (λ r. r)) (slice-set-other old k v j n)

at-same : (old : List (Option ResolvedData)) (k : ℕ) (r : ResolvedData) → k < length old → resolved_at (slice_set old k (Some r)) k ≡ Some r
at-same old k r l = ap (option_and_then (λ r. r)) (slice-set-same old k (Some r) l)

low-other : (old : List (Option ResolvedData)) (k : ℕ) (v : Option ResolvedData) (j d : ℕ) → j ≢ k → IsLow old j d → IsLow (slice_set old k v) j d
low-other old k v j d n x = record { found = x.found; found_is = at-other old k v j n ∙ x.found_is; low = x.low }

module _ (files : List FileData) (names : NameData) (reads : List (Option Read)) (h : ℕ) (known : AreNames files names) (read : AreRead files reads) (closed : IsClosed names reads) where
  -- what is read and clean is low in what it includes
  clean-all-low : (n k : ℕ) (resolved : List (Option ResolvedData)) (own : List OwnData) → AreResolvedTo files reads h n resolved
      → own_at reads k ≡ Some own → is_clean files h k ≡ true → all_low names resolved h own ≡ true
  clean-all-low n k resolved own a o c =
      let x : (ls : List LevelData) × (record_at files k ≡ Some (Ok ls)) × (map own_level ls ≡ own) = own-content files reads k own read o in
      let e : clean_record files (test_below files h) (Some (Ok x.0)) ≡ true = ap (clean_record files (test_below files h)) (sym x.1) ∙ (sym (clean-by files h k) ∙ c) in
      let w : all_read names reads (map own_level x.0) ≡ true = ap (all_read names reads) x.2 ∙ closed k own o in
      subst (λ os. all_low names resolved h os ≡ true) x.2
      (clean-low files names resolved h (test_below files h) known reads (test-low files reads h n resolved a) 0 x.0 w e)

  low-all-clean : (n k : ℕ) (resolved : List (Option ResolvedData)) (own : List OwnData) → AreResolvedTo files reads h n resolved
      → own_at reads k ≡ Some own → all_low names resolved h own ≡ true → is_clean files h k ≡ true
  low-all-clean n k resolved own a o l =
      let x : (ls : List LevelData) × (record_at files k ≡ Some (Ok ls)) × (map own_level ls ≡ own) = own-content files reads k own read o in
      let m : all_low names resolved h (map own_level x.0) ≡ true = ap (all_low names resolved h) x.2 ∙ l in
      clean-by files h k ∙ (ap (clean_record files (test_below files h)) x.1
      ∙ low-clean files names resolved h (test_below files h) known (low-test files reads h n resolved a) 0 x.0 m)

  -- nothing changes
  keep : (k : ℕ) (old : List (Option ResolvedData)) → AreResolvedTo files reads h k old
      → (is_read_at reads k ≡ true → is_clean files h k ≡ true → IsLow old k h) → AreResolvedTo files reads h (suc k) old
  keep k old a last = record {
    settled = a.settled;
    sound = a.sound;
    all = a.all;
    here = λ j l w c. at j l w c (nat_eq j k) refl;
  }
    where
      at : (j : ℕ) → j < suc k → is_read_at reads j ≡ true → is_clean files h j ≡ true → (b : Bool) → nat_eq j k ≡ b → IsLow old j h
      at j l w c true e =
          let s : k ≡ j = sym ((Decides-eqb j k).0 e) in
          subst (λ i. IsLow old i h) s (last (subst (λ i. is_read_at reads i ≡ true) (sym s) w) (subst (λ i. is_clean files h i ≡ true) (sym s) c))
      at j l w c false e =
          let n : j ≢ k = λ s. let t : nat_eq j k ≡ true = (Decides-eqb j k).1 s in cc in
          a.here j (omega arith) w c

  -- the file is resolved
  grow : (k : ℕ) (old : List (Option ResolvedData)) (own : List OwnData) (levels : Option (List LevelTable)) → k < length old
      → AreResolvedTo files reads h k old → own_at reads k ≡ Some own → resolved_at old k ≡ None → all_low names old h own ≡ true
      → Merges names old own levels → AreResolvedTo files reads h (suc k) (slice_set old k (Some (record { height = h; levels = levels })))
  grow k old own levels l a o none low merges = record {
    settled = λ j r e. settled j r e (nat_eq j k) refl;
    sound = λ j r e. sound j r e (nat_eq j k) refl;
    all = λ j d m w c. low-other old k (Some now) j d (apart j d (a.all j d m w c)) (a.all j d m w c);
    here = λ j m w c. here j m w c (nat_eq j k) refl;
  }
    where
      now : ResolvedData
      now = record { height = h; levels = levels }

      new : List (Option ResolvedData)
      new = slice_set old k (Some now)

      apart : (j d : ℕ) → IsLow old j d → j ≢ k
      apart j d x s = let e : resolved_at old k ≡ Some x.found = subst (λ i. resolved_at old i ≡ Some x.found) s x.found_is in cc

      is-now : (j : ℕ) (r : ResolvedData) → resolved_at new j ≡ Some r → nat_eq j k ≡ true → (j ≡ k) × (now ≡ r)
      is-now j r e t =
          let s : j ≡ k = (Decides-eqb j k).0 t in
          let f : resolved_at new k ≡ Some r = subst (λ i. resolved_at new i ≡ Some r) s e in
          let g : Some now ≡ Some r = sym (at-same old k now l) ∙ f in
          (s, cc)

      other : (j : ℕ) → nat_eq j k ≡ false → j ≢ k
      other j t s = let u : nat_eq j k ≡ true = (Decides-eqb j k).1 s in cc

      here-settled : IsSettled files k levels
      here-settled =
          let x : (ls : List LevelData) × (record_at files k ≡ Some (Ok ls)) × (map own_level ls ≡ own) = own-content files reads k own read o in
          merges files k x.0 known a.settled x.1 x.2

      settled : (j : ℕ) (r : ResolvedData) → resolved_at new j ≡ Some r → (b : Bool) → nat_eq j k ≡ b → IsSettled files j r.levels
      settled j r e true t =
          let x : (j ≡ k) × (now ≡ r) = is-now j r e t in
          subst (λ i. IsSettled files i r.levels) (sym x.0) (subst (λ (q : ResolvedData). IsSettled files k q.levels) x.1 here-settled)
      settled j r e false t = a.settled j r (sym (at-other old k (Some now) j (other j t)) ∙ e)

      sound : (j : ℕ) (r : ResolvedData) → resolved_at new j ≡ Some r → (b : Bool) → nat_eq j k ≡ b → (r.height ≤ h) × (is_clean files r.height j ≡ true)
      sound j r e true t =
          let x : (j ≡ k) × (now ≡ r) = is-now j r e t in
          let y : (now.height ≤ h) × (is_clean files now.height k ≡ true) = (omega arith, low-all-clean k k old own a o low) in
          subst (λ i. (r.height ≤ h) × (is_clean files r.height i ≡ true)) (sym x.0)
          (subst (λ (q : ResolvedData). (q.height ≤ h) × (is_clean files q.height k ≡ true)) x.1 y)
      sound j r e false t = a.sound j r (sym (at-other old k (Some now) j (other j t)) ∙ e)

      here : (j : ℕ) → j < suc k → is_read_at reads j ≡ true → is_clean files h j ≡ true → (b : Bool) → nat_eq j k ≡ b → IsLow new j h
      here j m w c true t =
          let s : j ≡ k = (Decides-eqb j k).0 t in
          subst (λ i. IsLow new i h) (sym s) (record { found = now; found_is = at-same old k now l; low = omega arith })
      here j m w c false t =
          let n : j ≢ k = other j t in
          low-other old k (Some now) j h n (a.here j (omega arith) w c)

  step : (k : ℕ) (old new : List (Option ResolvedData)) → k < length old → AreResolvedTo files reads h k old → Resolves names reads h k old new
      → AreResolvedTo files reads h (suc k) new
  step k old new l a (not_good e) = keep k old a (λ w c. absurd (bad-unclean files reads h k read e w c))
  step k old new l a (before r e) = keep k old a (λ w c. record { found = r; found_is = e; low = (a.sound k r e).0 })
  step k old new l a (too_high own o f) =
      keep k old a (λ w c. absurd (let t : all_low names old h own ≡ true = clean-all-low k k old own a o c in cc))
  step k old new l a (at_once own levels o none low merges) = grow k old own levels l a o none low merges

pub resolves_next : (names : NameData) (reads : List (Option Read)) (h k n : ℕ) (old new : List (Option ResolvedData)) → n ≡ k + 1 → k < length old
    → AllResolvedTo names reads h k old → Resolves names reads h k old new → AllResolvedTo names reads h n new
resolves_next names reads h k n old new e l a r files known read closed =
    let s : suc k ≡ n = omega arith in
    subst (λ m. AreResolvedTo files reads h m new) s (step files names reads h known read closed k old new l (a files known read closed) r)

-- ---- from one height to the next

pub begins_height : (names : NameData) (reads : List (Option Read)) (h : ℕ) (old : List (Option ResolvedData)) → AllResolved names reads h old
    → AllResolvedTo names reads h 0 old
begins_height names reads h old a files known read closed =
    let b : AreResolved files reads h old = a files known read closed in
    record {
      settled = b.settled;
      sound = λ k r e. let x = (b.sound k r e).0 in (omega (arith, x), (b.sound k r e).1);
      all = b.all;
      here = λ k l w c. absurd (omega arith);
    }

within : (reads : List (Option Read)) (k : ℕ) → is_read_at reads k ≡ true → k < length reads
within reads k w = at (slice_get reads k) refl w
  where
    at : (o : Option (Option Read)) → slice_get reads k ≡ o → is_some (option_and_then (λ r. r) o) ≡ true → k < length reads
    at None e w = absurd cc
    at (Some x) e w = slice_get_within reads k x e

pub ends_height : (names : NameData) (reads : List (Option Read)) (h g n : ℕ) (old : List (Option ResolvedData)) → n ≡ length reads → g ≡ h + 1
    → AllResolvedTo names reads h n old → AllResolved names reads g old
ends_height names reads h g n old e s a files known read closed =
    let b : AreResolvedTo files reads h n old = a files known read closed in
    record {
      settled = b.settled;
      sound = λ k r f. let x = (b.sound k r f).0 in (omega (arith, x, s), (b.sound k r f).1);
      all = λ k d l w c. at b k d l w c (nat_lt d h) refl;
    }
  where
    at : AreResolvedTo files reads h n old → (k d : ℕ) → d < g → is_read_at reads k ≡ true → is_clean files d k ≡ true → (t : Bool) → nat_lt d h ≡ t → IsLow old k d
    at b k d l w c true t = b.all k d ((Decides-ltb d h).0 t) w c
    at b k d l w c false t =
        let u : h ≡ d = grind (arith, Decides-ltb d h, t, s) in
        let v : k < length reads = within reads k w in
        subst (λ i. IsLow old k i) u (b.here k (omega (arith, v, e)) w (subst (λ i. is_clean files i k ≡ true) (sym u) c))

pub none-at : {X : Type 0} (xs : List (Option X)) (k : ℕ) → AreNone xs → option_and_then (λ x. x) (slice_get xs k) ≡ None
none-at [] k h = refl
none-at (x ∷ xs) zero h = h.0
none-at (x ∷ xs) (suc k) h = none-at xs k h.1

pub none_more : {X : Type 0} (xs : List (Option X)) → AreNone xs → AreNone (xs ++ None ∷ [])
none_more [] h = (refl, tt)
none_more (x ∷ xs) h = (h.0, none_more xs h.1)

-- at first none is resolved
pub begins_none : (names : NameData) (reads : List (Option Read)) (old : List (Option ResolvedData)) → AreNone old → AllResolved names reads 0 old
begins_none names reads old none files known read closed = record {
  settled = λ k r e. absurd (let x : resolved_at old k ≡ None = none-at old k none in cc);
  sound = λ k r e. absurd (let x : resolved_at old k ≡ None = none-at old k none in cc);
  all = λ k d l w c. absurd (omega arith);
}

length-set : {X : Type 0} (xs : List X) (k : ℕ) (v : X) → length (slice_set xs k v) ≡ length xs
length-set [] k v = refl
length-set (x ∷ xs) zero v = refl
length-set (x ∷ xs) (suc k) v = ap suc (length-set xs k v)

pub resolves_long : (names : NameData) (reads : List (Option Read)) (h k : ℕ) (old new : List (Option ResolvedData)) → Resolves names reads h k old new
    → length new ≡ length old
resolves_long names reads h k old new (not_good e) = refl
resolves_long names reads h k old new (before r e) = refl
resolves_long names reads h k old new (too_high own o f) = refl
resolves_long names reads h k old new (at_once own levels o none low merges) = length-set old k (Some (record { height = h; levels = levels }))

-- ---- what resolving a file gave

pub was_resolved : (names : NameData) (reads : List (Option Read)) (h k : ℕ) (old : List (Option ResolvedData)) (x : Option ResolvedData) → k < length old
    → x ≡ get_or old k x → is_some x ≡ true → Resolves names reads h k old old
was_resolved names reads h k old None l e s = absurd cc
was_resolved names reads h k old (Some r) l e s = before r (ap (option_and_then (λ y. y)) (slice_get_read old (length old) k (Some r) refl l e))

pub now_resolved : (names : NameData) (reads : List (Option Read)) (h k : ℕ) (old : List (Option ResolvedData)) (x : Option ResolvedData) (own : List OwnData)
    (levels : Option (List LevelTable)) → k < length old → x ≡ get_or old k x → is_some x ≡ false → own_at reads k ≡ Some own → all_low names old h own ≡ true
    → Merges names old own levels → Resolves names reads h k old (slice_set old k (Some (record { height = h; levels = levels })))
now_resolved names reads h k old None own levels l e s o low m =
    at_once own levels o (ap (option_and_then (λ y. y)) (slice_get_read old (length old) k None refl l e)) low m
now_resolved names reads h k old (Some r) own levels l e s o low m = absurd cc
