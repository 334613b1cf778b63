-- A walk meets no fault exactly where the file is without fault within the depth, whatever the way on
-- which one came, as long as no file on that way is.
use Rattle.std.proofs.Common.{◌≡◌, ◌||◌, ◌&&◌, ◌∙◌, sym, ap, refl, ℕ, zero, suc, Bool, true, false, List, [], ◌∷◌, Option, Some, None, Result, Ok, Err, nat_eq}
use Rattle.std.specs.List.{list_any, list_all}
use Rattle.std.proofs.lemmas.Bool.Decides.{Decides-eqb}
use Rattle.edt_base.specs.declared.fault.Fault.{Fault}
use Rattle.edt_base.specs.declared.fault.Rule.TheVariants as rule
use Rattle.bind_load.specs.RecordData.{IncludeData, LevelData}
use Rattle.bind_merge.specs.Files.{FileData, record_at, named_files, includes_from, file_fault, name_of}
use Rattle.bind_merge.specs.Options.{or_else, first_some}
use Rattle.bind_merge.specs.Walks.{fault_if, is_several, is_barred, follow, record_walk, file_walk, walk}
use Rattle.bind_merge.specs.Laws.{NoneClean, WalksOnce, MetAgain}
use Rattle.bind_merge.specs.Cleanness.{the_one, clean_include, clean_record, is_clean}

and-parts : (a b : Bool) → (a && b) ≡ true → (a ≡ true) × (b ≡ true)
and-parts true b e = (refl, e)
and-parts false b e = absurd cc

and-both : (a b : Bool) → a ≡ true → b ≡ true → (a && b) ≡ true
and-both true b e f = f
and-both false b e f = absurd cc

or-parts : (a b : Bool) → (a || b) ≡ false → (a ≡ false) × (b ≡ false)
or-parts true b e = absurd cc
or-parts false b e = (refl, e)

or-both : (a b : Bool) → a ≡ false → b ≡ false → (a || b) ≡ false
or-both true b e f = absurd cc
or-both false b e f = f

none-parts : {A : Type 0} (x y : Option A) → or_else x y ≡ None → (x ≡ None) × (y ≡ None)
none-parts None y e = (refl, e)
none-parts (Some x) y e = absurd cc

none-both : {A : Type 0} (x y : Option A) → x ≡ None → y ≡ None → or_else x y ≡ None
none-both None y e f = f
none-both (Some x) y e f = absurd cc

no-fault : (b : Bool) (f : Fault) → fault_if b f ≡ None → b ≡ false
no-fault true f e = absurd cc
no-fault false f e = refl

fault-none : (b : Bool) (f : Fault) → b ≡ false → fault_if b f ≡ None
fault-none true f e = absurd cc
fault-none false f e = refl

-- ---- the parts of a record's walk, include by include

module _ (files : List FileData) (deep : Bool) (rest : ℕ → Option Fault) (path : List ℕ) where
  abbrev several : ℕ × IncludeData → Bool
  several e = is_several (named_files files e.1.name)

  abbrev barred : ℕ × IncludeData → Bool
  barred e = is_barred deep path (named_files files e.1.name)

  abbrev followed : ℕ × IncludeData → Option Fault
  followed e = follow rest (named_files files e.1.name)

  -- an include is fine
  record Fine (e : ℕ × IncludeData) : Type 0 where
    one : several e ≡ false
    open' : barred e ≡ false
    below : followed e ≡ None

  record-fine : (name : List ℕ) (ls : List LevelData) → record_walk files deep rest path name ls ≡ None
      → (list_any several (includes_from 0 ls) ≡ false) × (list_any barred (includes_from 0 ls) ≡ false) × (first_some followed (includes_from 0 ls) ≡ None)
  record-fine name ls e =
      let a : (fault_if (list_any several (includes_from 0 ls)) (file_fault rule.B14 name) ≡ None) × (or_else (fault_if (list_any barred (includes_from 0 ls)) (file_fault rule.B9 name)) (first_some followed (includes_from 0 ls)) ≡ None)
      = none-parts _ _ e in
      let b : (fault_if (list_any barred (includes_from 0 ls)) (file_fault rule.B9 name) ≡ None) × (first_some followed (includes_from 0 ls) ≡ None) = none-parts _ _ a.1 in
      (no-fault _ _ a.0, no-fault _ _ b.0, b.1)

  fine-record : (name : List ℕ) (ls : List LevelData) → list_any several (includes_from 0 ls) ≡ false → list_any barred (includes_from 0 ls) ≡ false → first_some followed (includes_from 0 ls) ≡ None
      → record_walk files deep rest path name ls ≡ None
  fine-record name ls a b c = none-both _ _ (fault-none _ _ a) (none-both _ _ (fault-none _ _ b) c)

  -- each include: one file, not barred, without fault
  each : (es : List (ℕ × IncludeData)) → list_any several es ≡ false → list_any barred es ≡ false → first_some followed es ≡ None
      → (test : ℕ → Bool) → ((e : ℕ × IncludeData) → several e ≡ false → barred e ≡ false → followed e ≡ None → clean_include files test e ≡ true)
      → list_all (clean_include files test) es ≡ true
  each [] a b c test h = refl
  each (e ∷ es) a b c test h =
      let x : (several e ≡ false) × (list_any several es ≡ false) = or-parts _ _ a in
      let y : (barred e ≡ false) × (list_any barred es ≡ false) = or-parts _ _ b in
      let z : (followed e ≡ None) × (first_some followed es ≡ None) = none-parts _ _ c in
      and-both _ _ (h e x.0 y.0 z.0) (each es x.1 y.1 z.1 test h)

  back : (es : List (ℕ × IncludeData)) (test : ℕ → Bool) → list_all (clean_include files test) es ≡ true
      → ((e : ℕ × IncludeData) → clean_include files test e ≡ true → (several e ≡ false) × (barred e ≡ false) × (followed e ≡ None))
      → (list_any several es ≡ false) × (list_any barred es ≡ false) × (first_some followed es ≡ None)
  back [] test a h = (refl, refl, refl)
  back (e ∷ es) test a h =
      let x : (clean_include files test e ≡ true) × (list_all (clean_include files test) es ≡ true) = and-parts _ _ a in
      let y : (several e ≡ false) × (barred e ≡ false) × (followed e ≡ None) = h e x.0 in
      let z : (list_any several es ≡ false) × (list_any barred es ≡ false) × (first_some followed es ≡ None) = back es test x.1 h in
      (or-both _ _ y.0 z.0, or-both _ _ y.1 z.1, none-both _ _ y.2 z.2)

-- ---- without fault, hence clean

named-clean : (deep : Bool) (rest : ℕ → Option Fault) (path : List ℕ) (test : ℕ → Bool) → ((t : ℕ) → deep ≡ false → rest t ≡ None → test t ≡ true)
    → (ns : List ℕ) → is_several ns ≡ false → is_barred deep path ns ≡ false → follow rest ns ≡ None → the_one test ns ≡ true
named-clean deep rest path test h [] a b c = absurd cc
named-clean deep rest path test h (t ∷ []) a b c = let d : (deep ≡ false) × (list_any (nat_eq t) path ≡ false) = or-parts _ _ b in h t d.0 c
named-clean deep rest path test h (t ∷ u ∷ ts) a b c = absurd cc

walk-clean-record : (files : List FileData) (deep : Bool) (rest : ℕ → Option Fault) (path : List ℕ) (name : List ℕ) (test : ℕ → Bool) → ((t : ℕ) → deep ≡ false → rest t ≡ None → test t ≡ true)
    → (r : Option (Result (List LevelData) Fault)) → file_walk files deep rest path name r ≡ None → clean_record files test r ≡ true
walk-clean-record files deep rest path name test h None e = refl
walk-clean-record files deep rest path name test h (Some (Err f)) e = absurd cc
walk-clean-record files deep rest path name test h (Some (Ok ls)) e =
    let p : (list_any (several files deep rest path) (includes_from 0 ls) ≡ false) × (list_any (barred files deep rest path) (includes_from 0 ls) ≡ false) × (first_some (followed files deep rest path) (includes_from 0 ls) ≡ None)
    = record-fine files deep rest path name ls e in
    each files deep rest path (includes_from 0 ls) p.0 p.1 p.2 test (λ x a b c. named-clean deep rest path test h (named_files files x.1.name) a b c)

pub walk-clean : (d : ℕ) (files : List FileData) (path : List ℕ) (k : ℕ) → walk d files path k ≡ None → is_clean files d k ≡ true
walk-clean zero files path k e =
    walk-clean-record files true (λ t. None) (k ∷ path) (name_of files k) (λ t. false) (λ t a b. absurd cc) (record_at files k) e
walk-clean (suc d) files path k e =
    walk-clean-record files false (walk d files (k ∷ path)) (k ∷ path) (name_of files k) (is_clean files d) (λ t a b. walk-clean d files (k ∷ path) t b) (record_at files k) e

-- ---- clean, hence without fault

clean-named : (deep : Bool) (rest : ℕ → Option Fault) (path : List ℕ) (test : ℕ → Bool)
    → ((t : ℕ) → test t ≡ true → (deep ≡ false) × (list_any (nat_eq t) path ≡ false) × (rest t ≡ None))
    → (ns : List ℕ) → the_one test ns ≡ true → (is_several ns ≡ false) × (is_barred deep path ns ≡ false) × (follow rest ns ≡ None)
clean-named deep rest path test h [] e = absurd cc
clean-named deep rest path test h (t ∷ []) e =
    let p : (deep ≡ false) × (list_any (nat_eq t) path ≡ false) × (rest t ≡ None) = h t e in (refl, or-both _ _ p.0 p.1, p.2)
clean-named deep rest path test h (t ∷ u ∷ ts) e = absurd cc

clean-walk-record : (files : List FileData) (deep : Bool) (rest : ℕ → Option Fault) (path : List ℕ) (name : List ℕ) (test : ℕ → Bool)
    → ((t : ℕ) → test t ≡ true → (deep ≡ false) × (list_any (nat_eq t) path ≡ false) × (rest t ≡ None))
    → (r : Option (Result (List LevelData) Fault)) → clean_record files test r ≡ true → file_walk files deep rest path name r ≡ None
clean-walk-record files deep rest path name test h None e = refl
clean-walk-record files deep rest path name test h (Some (Err f)) e = absurd cc
clean-walk-record files deep rest path name test h (Some (Ok ls)) e =
    let p : (list_any (several files deep rest path) (includes_from 0 ls) ≡ false) × (list_any (barred files deep rest path) (includes_from 0 ls) ≡ false) × (first_some (followed files deep rest path) (includes_from 0 ls) ≡ None)
    = back files deep rest path (includes_from 0 ls) test e (λ x c. clean-named deep rest path test h (named_files files x.1.name) c) in
    fine-record files deep rest path name ls p.0 p.1 p.2

-- a weaker test
the_one-weaker : (s t : ℕ → Bool) → ((n : ℕ) → s n ≡ true → t n ≡ true) → (ns : List ℕ) → the_one s ns ≡ true → the_one t ns ≡ true
the_one-weaker s t h [] e = absurd cc
the_one-weaker s t h (n ∷ []) e = h n e
the_one-weaker s t h (n ∷ m ∷ ns) e = absurd cc

all-weaker : (files : List FileData) (s t : ℕ → Bool) → ((n : ℕ) → s n ≡ true → t n ≡ true) → (es : List (ℕ × IncludeData)) → list_all (clean_include files s) es ≡ true → list_all (clean_include files t) es ≡ true
all-weaker files s t h [] e = refl
all-weaker files s t h (x ∷ es) e =
    let p : (clean_include files s x ≡ true) × (list_all (clean_include files s) es ≡ true) = and-parts _ _ e in
    and-both _ _ (the_one-weaker s t h (named_files files x.1.name) p.0) (all-weaker files s t h es p.1)

record-weaker : (files : List FileData) (s t : ℕ → Bool) → ((n : ℕ) → s n ≡ true → t n ≡ true) → (r : Option (Result (List LevelData) Fault)) → clean_record files s r ≡ true → clean_record files t r ≡ true
record-weaker files s t h None e = refl
record-weaker files s t h (Some (Err f)) e = absurd cc
record-weaker files s t h (Some (Ok ls)) e = all-weaker files s t h (includes_from 0 ls) e

-- what is without fault within a depth is so within a greater one
pub clean-more : (d : ℕ) (files : List FileData) (k : ℕ) → is_clean files d k ≡ true → is_clean files (suc d) k ≡ true
clean-more zero files k e = record-weaker files (λ t. false) (is_clean files zero) (λ n f. absurd cc) (record_at files k) e
clean-more (suc d) files k e = record-weaker files (is_clean files d) (is_clean files (suc d)) (clean-more d files) (record_at files k) e

pub unclean-less : (d : ℕ) (files : List FileData) (k : ℕ) → is_clean files (suc d) k ≡ false → is_clean files d k ≡ false
unclean-less d files k e = at (is_clean files d k) refl
  where
    at : (b : Bool) → is_clean files d k ≡ b → is_clean files d k ≡ false
    at true h = absurd (let x : is_clean files (suc d) k ≡ true = clean-more d files k h in let y : true ≡ false = sym x ∙ e in cc)
    at false h = h

pub none-less : (d : ℕ) (files : List FileData) (path : List ℕ) → NoneClean files (suc d) path → NoneClean files d path
none-less d files [] h = tt
none-less d files (p ∷ ps) h = (unclean-less d files p h.0, none-less d files ps h.1)

not-on-way : (d : ℕ) (files : List FileData) (t : ℕ) (path : List ℕ) → is_clean files d t ≡ true → NoneClean files d path → list_any (nat_eq t) path ≡ false
not-on-way d files t [] c h = refl
not-on-way d files t (p ∷ ps) c h = or-both _ _ (apart (nat_eq t p) refl) (not-on-way d files t ps c h.1)
  where
    apart : (b : Bool) → nat_eq t p ≡ b → nat_eq t p ≡ false
    apart true e = absurd (let s : t ≡ p = (Decides-eqb t p).0 e in let x : true ≡ false = sym c ∙ ap (is_clean files d) s ∙ h.0 in cc)
    apart false e = e

-- a walk without fault is so where more may follow
more-follow : (deep : Bool) (rest more : ℕ → Option Fault) (path : List ℕ) → ((t : ℕ) → deep ≡ false → rest t ≡ None → more t ≡ None)
    → (ns : List ℕ) → is_several ns ≡ false → is_barred deep path ns ≡ false → follow rest ns ≡ None → (is_barred false path ns ≡ false) × (follow more ns ≡ None)
more-follow deep rest more path h [] a b c = absurd cc
more-follow deep rest more path h (t ∷ []) a b c = let d : (deep ≡ false) × (list_any (nat_eq t) path ≡ false) = or-parts _ _ b in (d.1, h t d.0 c)
more-follow deep rest more path h (t ∷ u ∷ ts) a b c = absurd cc

more-each : (files : List FileData) (deep : Bool) (rest more : ℕ → Option Fault) (path : List ℕ) → ((t : ℕ) → deep ≡ false → rest t ≡ None → more t ≡ None)
    → (es : List (ℕ × IncludeData)) → list_any (several files deep rest path) es ≡ false → list_any (barred files deep rest path) es ≡ false → first_some (followed files deep rest path) es ≡ None
    → (list_any (barred files false more path) es ≡ false) × (first_some (followed files false more path) es ≡ None)
more-each files deep rest more path h [] a b c = (refl, refl)
more-each files deep rest more path h (e ∷ es) a b c =
    let x : (several files deep rest path e ≡ false) × (list_any (several files deep rest path) es ≡ false) = or-parts _ _ a in
    let y : (barred files deep rest path e ≡ false) × (list_any (barred files deep rest path) es ≡ false) = or-parts _ _ b in
    let z : (followed files deep rest path e ≡ None) × (first_some (followed files deep rest path) es ≡ None) = none-parts _ _ c in
    let g : (is_barred false path (named_files files e.1.name) ≡ false) × (follow more (named_files files e.1.name) ≡ None) = more-follow deep rest more path h (named_files files e.1.name) x.0 y.0 z.0 in
    let i : (list_any (barred files false more path) es ≡ false) × (first_some (followed files false more path) es ≡ None) = more-each files deep rest more path h es x.1 y.1 z.1 in
    (or-both _ _ g.0 i.0, none-both _ _ g.1 i.1)

more-record : (files : List FileData) (deep : Bool) (rest more : ℕ → Option Fault) (path name : List ℕ) → ((t : ℕ) → deep ≡ false → rest t ≡ None → more t ≡ None)
    → (r : Option (Result (List LevelData) Fault)) → file_walk files deep rest path name r ≡ None → file_walk files false more path name r ≡ None
more-record files deep rest more path name h None e = refl
more-record files deep rest more path name h (Some (Err f)) e = absurd cc
more-record files deep rest more path name h (Some (Ok ls)) e =
    let p : (list_any (several files deep rest path) (includes_from 0 ls) ≡ false) × (list_any (barred files deep rest path) (includes_from 0 ls) ≡ false) × (first_some (followed files deep rest path) (includes_from 0 ls) ≡ None)
    = record-fine files deep rest path name ls e in
    let q : (list_any (barred files false more path) (includes_from 0 ls) ≡ false) × (first_some (followed files false more path) (includes_from 0 ls) ≡ None)
    = more-each files deep rest more path h (includes_from 0 ls) p.0 p.1 p.2 in
    fine-record files false more path name ls p.0 q.0 q.1

walk-more : (d : ℕ) (files : List FileData) (path : List ℕ) (k : ℕ) → walk d files path k ≡ None → walk (suc d) files path k ≡ None
walk-more zero files path k e =
    more-record files true (λ t. None) (walk zero files (k ∷ path)) (k ∷ path) (name_of files k) (λ t f n. absurd cc) (record_at files k) e
walk-more (suc d) files path k e =
    more-record files false (walk d files (k ∷ path)) (walk (suc d) files (k ∷ path)) (k ∷ path) (name_of files k) (λ t f n. walk-more d files (k ∷ path) t n) (record_at files k) e

clean-step : (d : ℕ) (files : List FileData) (path : List ℕ) (k : ℕ) → ((way : List ℕ) (t : ℕ) → is_clean files d t ≡ true → NoneClean files d way → walk d files way t ≡ None)
    → is_clean files (suc d) k ≡ true → NoneClean files (suc d) path → (b : Bool) → is_clean files d k ≡ b → walk (suc d) files path k ≡ None
clean-step d files path k below c h true e = walk-more d files path k (below path k e (none-less d files path h))
clean-step d files path k below c h false e =
    clean-walk-record files false (walk d files (k ∷ path)) (k ∷ path) (name_of files k) (is_clean files d)
    (λ t s. (refl, not-on-way d files t (k ∷ path) s (e, none-less d files path h), below (k ∷ path) t s (e, none-less d files path h)))
    (record_at files k) c

pub clean-walk : (d : ℕ) (files : List FileData) (path : List ℕ) (k : ℕ) → is_clean files d k ≡ true → NoneClean files d path → walk d files path k ≡ None
clean-walk zero files path k c h =
    clean-walk-record files true (λ t. None) (k ∷ path) (name_of files k) (λ t. false) (λ t e. absurd cc) (record_at files k) c
clean-walk (suc d) files path k c h =
    clean-step d files path k (λ way t s g. clean-walk d files way t s g) c h (is_clean files d k) refl

pub walks_once : WalksOnce
walks_once d files k = (λ c. clean-walk d files [] k c tt, λ e. walk-clean d files [] k e)

pub met_again : MetAgain
met_again d files path k c h = clean-walk d files path k c h
