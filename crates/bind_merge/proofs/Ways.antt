-- The first fault of a binding lies on one way down: all else that is included is without.
use Rattle.std.proofs.Common.{◌≡◌, ◌≢◌, ◌∙◌, sym, ap, subst, refl, ◌+◌, ◌<◌, ◌||◌, ◌&&◌, ◌++◌, if◌then◌else◌, ℕ, zero, suc, Bool, true, false, List, [], ◌∷◌, length, map, Option, Some, None, Result, Ok, Err, nat_eq, is_some, arith}
use Rattle.std.specs.Option.{option_and_then}
use Rattle.std.specs.List.{list_all, list_any, slice_get}
use Rattle.std.proofs.lemmas.Bool.{ne_eqb}
use Rattle.std.proofs.lemmas.Bool.Decides.{Decides-eqb, Decides-ltb}
use Rattle.edt_base.specs.declared.fault.Fault.{Fault}
use Rattle.edt_base.specs.declared.fault.Rule.TheVariants as rule
use Rattle.bind_load.specs.RecordData.{IncludeData, LevelData}
use Rattle.bind_merge.specs.Cleanness.{is_clean}
use Rattle.bind_merge.specs.Files.{FileData, record_at, named_files, at_level, includes_from, file_fault, name_of}
use Rattle.bind_merge.specs.Laws.{NoneClean}
use Rattle.bind_merge.specs.Levels.{OwnData, own_level}
use Rattle.bind_merge.specs.Options.{or_else, first_some}
use Rattle.bind_merge.specs.Walks.{fault_if, is_several, is_barred, follow, is_double, is_closed, fault_below, record_walk, file_walk, walk, binding_walk}
use Rattle.bind_merge.specs.declared.names.Named.{Named}
use Rattle.bind_merge.specs.declared.names.Named.TheVariants.{One, Several}
use Rattle.bind_merge.specs.declared.reading.Read.{Read}
use Rattle.bind_merge.specs.declared.reading.Read.TheVariants.{Good, Bad}
use Rattle.bind_merge.specs.declared.walk.Next.{Next}
use Rattle.bind_merge.specs.declared.walk.Next.TheVariants as next
use Rattle.bind_merge.specs.Inner.Heights.{AreResolved, IsLow, is_below}
use Rattle.bind_merge.specs.Inner.Reading.{AreRead, IsClosed, IsReadAt, read_at, is_read_at, is_read_as, leads_to_read, all_read, own_in, own_at}
use Rattle.bind_merge.specs.Inner.Resolving.{AreNames, NameData, ResolvedData, named_in, told, resolved_at}
use Rattle.bind_merge.specs.Inner.Ways.{walk_in, clean_in, NoneCleanIn, IsWay, ComesTo, IsKnown, HasCome, are_several, several_among, bars, barred_among, high_if, high, first_high, down, next_in, next_of}
use Rattle.bind_merge.proofs.Heights.{clean-le}
use Rattle.bind_merge.proofs.Walking.{walk-clean, clean-walk, none-less, unclean-less}

pub any-both : {X : Type 0} (test : X → Bool) (xs ys : List X) → list_any test (xs ++ ys) ≡ (list_any test xs || list_any test ys)
any-both test [] ys = refl
any-both test (x ∷ xs) ys = ap (λ b. test x || b) (any-both test xs ys) ∙ or-assoc (test x) (list_any test xs) (list_any test ys)
  where
    or-assoc : (a b c : Bool) → (a || (b || c)) ≡ ((a || b) || c)
    or-assoc true b c = refl
    or-assoc false b c = refl

-- a test of the includes of a record, at whatever levels they stand
any-level : (f : IncludeData → Bool) (g : ℕ × IncludeData → Bool) → ((m : ℕ) (i : IncludeData) → f i ≡ g (m, i))
    → (m : ℕ) (is : List IncludeData) → list_any f is ≡ list_any g (at_level m is)
any-level f g h m [] = refl
any-level f g h m (i ∷ is) = ap (λ b. b || list_any f is) (h m i) ∙ ap (λ b. g (m, i) || b) (any-level f g h m is)

any-from : (f : IncludeData → Bool) (g : ℕ × IncludeData → Bool) → ((m : ℕ) (i : IncludeData) → f i ≡ g (m, i))
    → (m : ℕ) (ls : List LevelData) → list_any (λ (l : OwnData). list_any f l.includes) (map own_level ls) ≡ list_any g (includes_from m ls)
any-from f g h m [] = refl
any-from f g h m (l ∷ ls) =
    ap (λ b. b || list_any (λ (o : OwnData). list_any f o.includes) (map own_level ls)) (any-level f g h m l.includes)
    ∙ (ap (λ b. list_any g (at_level m l.includes) || b) (any-from f g h (m + 1) ls)
    ∙ sym (any-both g (at_level m l.includes) (includes_from (m + 1) ls)))

several-told : (ns : List ℕ) → are_several (told ns) ≡ is_several ns
several-told [] = refl
several-told (t ∷ []) = refl
several-told (t ∷ u ∷ ts) = refl

-- what several files have is no less barred: that is tested only where no name is had by several
barred-told : (deep : Bool) (path items : List ℕ) → IsWay path items → (ns : List ℕ) → is_several ns ≡ false
    → bars deep items (told ns) ≡ is_barred deep path ns
barred-told deep path items w [] s = refl
barred-told deep path items w (t ∷ []) s = ap (λ b. deep || b) (sym (w t))
barred-told deep path items w (t ∷ u ∷ ts) s = absurd cc

and-parts : (a b : Bool) → (a && b) ≡ true → (a ≡ true) × (b ≡ true)
and-parts true b e = (refl, e)
and-parts false b e = absurd cc

or-none : (a b : Bool) → (a || b) ≡ false → (a ≡ false) × (b ≡ false)
or-none true b e = absurd cc
or-none false b e = (refl, e)

module _ (files : List FileData) (names : NameData) (known : AreNames files names) where
  several-is : (m : ℕ) (ls : List LevelData) → several_among names (map own_level ls) ≡ list_any (is_double files) (includes_from m ls)
  several-is m ls = any-from (λ i. are_several (named_in names i.name)) (is_double files)
      (λ n i. ap are_several (known i.name) ∙ several-told (named_files files i.name)) m ls

  barred-level : (deep : Bool) (path items : List ℕ) → IsWay path items → (m : ℕ) (is : List IncludeData) → list_any (is_double files) (at_level m is) ≡ false
      → list_any (λ i. bars deep items (named_in names i.name)) is ≡ list_any (is_closed files deep path) (at_level m is)
  barred-level deep path items w m [] s = refl
  barred-level deep path items w m (i ∷ is) s =
      let p : (is_several (named_files files i.name) ≡ false) × (list_any (is_double files) (at_level m is) ≡ false) = or-none _ _ s in
      let e : bars deep items (named_in names i.name) ≡ is_barred deep path (named_files files i.name)
      = ap (bars deep items) (known i.name) ∙ barred-told deep path items w (named_files files i.name) p.0 in
      ap (λ b. b || list_any (λ (j : IncludeData). bars deep items (named_in names j.name)) is) e
      ∙ ap (λ b. is_barred deep path (named_files files i.name) || b) (barred-level deep path items w m is p.1)

  barred-is : (deep : Bool) (path items : List ℕ) → IsWay path items → (m : ℕ) (ls : List LevelData) → list_any (is_double files) (includes_from m ls) ≡ false
      → barred_among names deep items (map own_level ls) ≡ list_any (is_closed files deep path) (includes_from m ls)
  barred-is deep path items w m [] s = refl
  barred-is deep path items w m (l ∷ ls) s =
      let e : (list_any (is_double files) (at_level m l.includes) || list_any (is_double files) (includes_from (m + 1) ls)) ≡ false
      = sym (any-both (is_double files) (at_level m l.includes) (includes_from (m + 1) ls)) ∙ s in
      let p : (list_any (is_double files) (at_level m l.includes) ≡ false) × (list_any (is_double files) (includes_from (m + 1) ls) ≡ false) = or-none _ _ e in
      ap (λ b. b || barred_among names deep items (map own_level ls)) (barred-level deep path items w m l.includes p.0)
      ∙ (ap (λ b. list_any (is_closed files deep path) (at_level m l.includes) || b) (barred-is deep path items w (m + 1) ls p.1)
      ∙ sym (any-both (is_closed files deep path) (at_level m l.includes) (includes_from (m + 1) ls)))

-- ---- the first include that isn't without fault

-- the fault that follows the includes: none, or that of the one to go down to
abbrev Goes : (ℕ → Option Fault) → (ℕ → Type 0) → Option ℕ → Option Fault → Type 0
Goes rest P None o = o ≡ None
Goes rest P (Some t) o = (o ≡ rest t) × P t

first-both : {X Y : Type 0} (f : X → Option Y) (xs ys : List X) → first_some f (xs ++ ys) ≡ or_else (first_some f xs) (first_some f ys)
first-both f [] ys = refl
first-both f (x ∷ xs) ys = ap (or_else (f x)) (first-both f xs ys) ∙ assoc (f x) (first_some f xs) (first_some f ys)
  where
    assoc : {Y : Type 0} (a b c : Option Y) → or_else a (or_else b c) ≡ or_else (or_else a b) c
    assoc None b c = refl
    assoc (Some y) b c = refl

some-else : {Y : Type 0} (a b : Option Y) → a ≢ None → or_else a b ≡ a
some-else None b n = absurd (n refl)
some-else (Some y) b n = refl

goes-on : (rest : ℕ → Option Fault) (P : ℕ → Type 0) → ((t : ℕ) → P t → rest t ≢ None) → (o p : Option ℕ) (a b : Option Fault)
    → Goes rest P o a → Goes rest P p b → Goes rest P (or_else o p) (or_else a b)
goes-on rest P some None p a b g h = subst (λ x. Goes rest P p (or_else x b)) (sym g) h
goes-on rest P some (Some t) p a b g h =
    let n : a ≢ None = λ e. some t g.1 (sym g.0 ∙ e) in
    (some-else a b n ∙ g.0, g.1)

module _ (files : List FileData) (names : NameData) (resolved : List (Option ResolvedData)) (reads : List (Option Read)) (known : AreNames files names)
    (d : ℕ) (deep : Bool) (path : List ℕ) (rest : ℕ → Option Fault) (P : ℕ → Type 0) (some : (t : ℕ) → P t → rest t ≢ None)
    (low : (t : ℕ) → is_below d (resolved_at resolved t) ≡ true → rest t ≡ None)
    (tall : (t : ℕ) → deep ≡ false → is_read_at reads t ≡ true → is_below d (resolved_at resolved t) ≡ false → P t) where
  one-goes : (t : ℕ) → deep ≡ false → is_read_at reads t ≡ true → (b : Bool) → is_below d (resolved_at resolved t) ≡ b
      → Goes rest P (high_if b t) (rest t)
  one-goes t w r true e = low t e
  one-goes t w r false e = (refl, tall t w r e)

  named-goes : (ns : List ℕ) → is_several ns ≡ false → is_barred deep path ns ≡ false → is_read_as reads (told ns) ≡ true
      → Goes rest P (high resolved d (told ns)) (follow rest ns)
  named-goes [] s b r = absurd cc
  named-goes (t ∷ []) s b r =
      let p : (deep ≡ false) × (list_any (nat_eq t) path ≡ false) = or-none _ _ b in
      one-goes t p.0 r (is_below d (resolved_at resolved t)) refl
  named-goes (t ∷ u ∷ ts) s b r = absurd cc

  level-goes : (m : ℕ) (is : List IncludeData) → list_any (is_double files) (at_level m is) ≡ false → list_any (is_closed files deep path) (at_level m is) ≡ false
      → list_all (leads_to_read names reads) is ≡ true
      → Goes rest P (first_some (λ i. high resolved d (named_in names i.name)) is) (first_some (fault_below files rest) (at_level m is))
  level-goes m [] s b r = refl
  level-goes m (i ∷ is) s b r =
      let x : (is_several (named_files files i.name) ≡ false) × (list_any (is_double files) (at_level m is) ≡ false) = or-none _ _ s in
      let y : (is_barred deep path (named_files files i.name) ≡ false) × (list_any (is_closed files deep path) (at_level m is) ≡ false) = or-none _ _ b in
      let z : (leads_to_read names reads i ≡ true) × (list_all (leads_to_read names reads) is ≡ true) = and-parts _ _ r in
      let g : Goes rest P (high resolved d (told (named_files files i.name))) (follow rest (named_files files i.name))
      = named-goes (named_files files i.name) x.0 y.0 (ap (is_read_as reads) (sym (known i.name)) ∙ z.0) in
      goes-on rest P some _ _ _ _
      (subst (λ n. Goes rest P (high resolved d n) (follow rest (named_files files i.name))) (sym (known i.name)) g)
      (level-goes m is x.1 y.1 z.1)

  goes : (m : ℕ) (ls : List LevelData) → list_any (is_double files) (includes_from m ls) ≡ false → list_any (is_closed files deep path) (includes_from m ls) ≡ false
      → all_read names reads (map own_level ls) ≡ true
      → Goes rest P (first_high names resolved d (map own_level ls)) (first_some (fault_below files rest) (includes_from m ls))
  goes m [] s b r = refl
  goes m (l ∷ ls) s b r =
      let x : (list_any (is_double files) (at_level m l.includes) ≡ false) × (list_any (is_double files) (includes_from (m + 1) ls) ≡ false)
      = or-none _ _ (sym (any-both (is_double files) (at_level m l.includes) (includes_from (m + 1) ls)) ∙ s) in
      let y : (list_any (is_closed files deep path) (at_level m l.includes) ≡ false) × (list_any (is_closed files deep path) (includes_from (m + 1) ls) ≡ false)
      = or-none _ _ (sym (any-both (is_closed files deep path) (at_level m l.includes) (includes_from (m + 1) ls)) ∙ b) in
      let z : (list_all (leads_to_read names reads) l.includes ≡ true) × (all_read names reads (map own_level ls) ≡ true) = and-parts _ _ r in
      subst (λ o. Goes rest P (first_high names resolved d (map own_level (l ∷ ls))) o)
      (sym (first-both (fault_below files rest) (at_level m l.includes) (includes_from (m + 1) ls)))
      (goes-on rest P some _ _ _ _ (level-goes m l.includes x.0 y.0 z.0) (goes (m + 1) ls x.1 y.1 z.1))

-- ---- a step down

abbrev deep_at : ℕ → Bool
deep_at zero = true
deep_at (suc d) = false

deep-is : (d : ℕ) → nat_eq d 0 ≡ deep_at d
deep-is zero = refl
deep-is (suc d) = ne_eqb (suc d) 0 (λ e. absurd (omega (arith, e)))

abbrev rest_at : List FileData → ℕ → List ℕ → ℕ → Option Fault
rest_at files zero path t = None
rest_at files (suc d) path t = walk d files path t

walk-by : (files : List FileData) (d k : ℕ) (path : List ℕ)
    → walk d files path k ≡ file_walk files (deep_at d) (rest_at files d (k ∷ path)) (k ∷ path) (name_of files k) (record_at files k)
walk-by files zero k path = refl
walk-by files (suc d) k path = refl

-- an included file that isn't without fault in the depth that is left
record IsBroken (files : List FileData) (reads : List (Option Read)) (d t : ℕ) : Type 0 where
  left : ℕ
  one_less : d ≡ suc left
  unclean : is_clean files left t ≡ false
  read : is_read_at reads t ≡ true

-- what a step gives
abbrev pub StepsTo : List FileData → List (Option Read) → ℕ → ℕ → List ℕ → Next → Type 0
StepsTo files reads b d items (next.Fault f) = binding_walk files b ≡ Some f
StepsTo files reads b d items (next.Down t) = (e : ℕ) × (d ≡ suc e) × ComesTo files reads b e t items
StepsTo files reads b d items next.Nothing = ⊥

eq-swap : (a b : ℕ) → nat_eq a b ≡ nat_eq b a
eq-swap a b = at (nat_eq a b) (nat_eq b a) refl refl
  where
    at : (x y : Bool) → nat_eq a b ≡ x → nat_eq b a ≡ y → nat_eq a b ≡ nat_eq b a
    at true true e f = e ∙ sym f
    at true false e f = let g : nat_eq b a ≡ true = (Decides-eqb b a).1 (sym ((Decides-eqb a b).0 e)) in cc
    at false true e f = let g : nat_eq a b ≡ true = (Decides-eqb a b).1 (sym ((Decides-eqb b a).0 f)) in cc
    at false false e f = e ∙ sym f

or-swap : (a b : Bool) → (a || b) ≡ (b || (a || false))
or-swap true true = refl
or-swap true false = refl
or-swap false true = refl
or-swap false false = refl

way-more : (path items : List ℕ) (k : ℕ) → IsWay path items → IsWay (k ∷ path) (items ++ k ∷ [])
way-more path items k w t =
    ap (λ b. nat_eq t k || b) (w t) ∙ (or-swap (nat_eq t k) (list_any (λ j. nat_eq j t) items)
    ∙ (ap (λ b. list_any (λ j. nat_eq j t) items || (b || false)) (eq-swap t k) ∙ sym (any-both (λ j. nat_eq j t) items (k ∷ []))))

module _ (files : List FileData) (names : NameData) (reads : List (Option Read)) (resolved : List (Option ResolvedData)) (known : IsKnown files names reads resolved) where
  broken-some : (d k : ℕ) (path : List ℕ) (t : ℕ) → IsBroken files reads d t → rest_at files d path t ≢ None
  broken-some d k path t x e =
      let f : walk x.left files path t ≡ None = subst (λ n. rest_at files n path t ≡ None) x.one_less e in
      let c : is_clean files x.left t ≡ true = walk-clean x.left files path t f in
      let u : is_clean files x.left t ≡ false = x.unclean in
      absurd cc

  low-none : (d : ℕ) (path : List ℕ) → ((e : ℕ) → d ≡ suc e → NoneClean files e path) → (t : ℕ) → is_below d (resolved_at resolved t) ≡ true → rest_at files d path t ≡ None
  low-none zero path n t l = refl
  low-none (suc e) path n t l = at (resolved_at resolved t) refl l
    where
      at : (o : Option ResolvedData) → resolved_at resolved t ≡ o → is_below (suc e) o ≡ true → walk e files path t ≡ None
      at None f b = absurd cc
      at (Some r) f b =
          let low : r.height < suc e = (Decides-ltb r.height (suc e)).0 b in
          let c : is_clean files r.height t ≡ true = (known.done.sound t r f).1 in
          clean-walk e files path t (clean-le files t r.height e (omega (arith, low)) c) (n e refl)

  tall-broken : (d : ℕ) → d < 17 → (t : ℕ) → deep_at d ≡ false → is_read_at reads t ≡ true → is_below d (resolved_at resolved t) ≡ false → IsBroken files reads d t
  tall-broken zero s t w r b = absurd cc
  tall-broken (suc e) s t w r b = record { left = e; one_less = refl; unclean = at (is_clean files e t) refl; read = r }
    where
      at : (x : Bool) → is_clean files e t ≡ x → is_clean files e t ≡ false
      at false c = c
      at true c =
          let l : IsLow resolved t e = known.done.all t e (omega (arith, s)) r c in
          let low : l.found.height < suc e = let m = l.low in omega (arith, m) in
          let g : is_below (suc e) (resolved_at resolved t) ≡ true = ap (is_below (suc e)) l.found_is ∙ (Decides-ltb l.found.height (suc e)).1 low in
          absurd cc

  none-at : (d k : ℕ) (path : List ℕ) → is_clean files d k ≡ false → NoneClean files d path → (e : ℕ) → d ≡ suc e → NoneClean files e (k ∷ path)
  none-at d k path c n e s =
      let c1 : is_clean files (suc e) k ≡ false = subst (λ m. is_clean files m k ≡ false) s c in
      let n1 : NoneClean files (suc e) path = subst (λ m. NoneClean files m path) s n in
      (unclean-less e files k c1, none-less e files path n1)

  module _ (b d k : ℕ) (items : List ℕ) (name : List ℕ) (named : name ≡ name_of files k) (small : d < 17) (broken : binding_walk files b ≢ None) where
    -- the walk at a good record
    good-step : (path : List ℕ) (ls : List LevelData) → IsWay path items → binding_walk files b ≡ walk d files path k → is_clean files d k ≡ false → NoneClean files d path
        → record_at files k ≡ Some (Ok ls) → all_read names reads (map own_level ls) ≡ true
        → StepsTo files reads b d (items ++ k ∷ []) (next_in names resolved name d (items ++ k ∷ []) (map own_level ls))
    unfolding walk_in clean_in NoneCleanIn
    good-step path ls way walked unclean none rec reads-all = at-several (several_among names (map own_level ls)) refl
      where
        way1 : IsWay (k ∷ path) (items ++ k ∷ [])
        way1 = way-more path items k way

        rest : ℕ → Option Fault
        rest = rest_at files d (k ∷ path)

        several : Bool
        several = list_any (is_double files) (includes_from 0 ls)

        closed : Bool
        closed = list_any (is_closed files (deep_at d) (k ∷ path)) (includes_from 0 ls)

        walk-is : binding_walk files b ≡ record_walk files (deep_at d) rest (k ∷ path) name ls
        walk-is = walked ∙ (walk-by files d k path ∙ (ap (file_walk files (deep_at d) rest (k ∷ path) (name_of files k)) rec
            ∙ ap (λ n. record_walk files (deep_at d) rest (k ∷ path) n ls) (sym named)))

        down-step : several ≡ false → closed ≡ false → (o : Option ℕ) → Goes rest (IsBroken files reads d) o (first_some (fault_below files rest) (includes_from 0 ls))
            → StepsTo files reads b d (items ++ k ∷ []) (down o)
        down-step s c None g =
            absurd (broken (walk-is ∙ (ap (λ x. or_else (fault_if x (file_fault rule.B14 name)) (or_else (fault_if closed (file_fault rule.B9 name)) (first_some (fault_below files rest) (includes_from 0 ls)))) s
            ∙ (ap (λ x. or_else (fault_if x (file_fault rule.B9 name)) (first_some (fault_below files rest) (includes_from 0 ls))) c ∙ g))))
        down-step s c (Some t) g =
            let x : IsBroken files reads d t = g.1 in
            let w : binding_walk files b ≡ rest t
            = walk-is ∙ (ap (λ y. or_else (fault_if y (file_fault rule.B14 name)) (or_else (fault_if closed (file_fault rule.B9 name)) (first_some (fault_below files rest) (includes_from 0 ls)))) s
            ∙ (ap (λ y. or_else (fault_if y (file_fault rule.B9 name)) (first_some (fault_below files rest) (includes_from 0 ls))) c ∙ g.0)) in (
              x.left,
              x.one_less,
              record {
                path = k ∷ path;
                way = way1;
                walked = subst (λ m. binding_walk files b ≡ rest_at files m (k ∷ path) t) x.one_less w;
                unclean = x.unclean;
                none = none-at d k path unclean none x.left x.one_less;
                read = x.read;
              },
            )

        at-barred : several ≡ false → (x : Bool) → barred_among names (nat_eq d 0) (items ++ k ∷ []) (map own_level ls) ≡ x
            → StepsTo files reads b d (items ++ k ∷ []) (if x then next.Fault (file_fault rule.B9 name) else down (first_high names resolved d (map own_level ls)))
        at-barred s true e =
            let c : closed ≡ true = sym (barred-is files names known.named (deep_at d) (k ∷ path) (items ++ k ∷ []) way1 0 ls s)
            ∙ (ap (λ y. barred_among names y (items ++ k ∷ []) (map own_level ls)) (sym (deep-is d)) ∙ e) in
            walk-is ∙ (ap (λ y. or_else (fault_if y (file_fault rule.B14 name)) (or_else (fault_if closed (file_fault rule.B9 name)) (first_some (fault_below files rest) (includes_from 0 ls)))) s
            ∙ ap (λ y. or_else (fault_if y (file_fault rule.B9 name)) (first_some (fault_below files rest) (includes_from 0 ls))) c)
        at-barred s false e =
            let c : closed ≡ false = sym (barred-is files names known.named (deep_at d) (k ∷ path) (items ++ k ∷ []) way1 0 ls s)
            ∙ (ap (λ y. barred_among names y (items ++ k ∷ []) (map own_level ls)) (sym (deep-is d)) ∙ e) in
            down-step s c (first_high names resolved d (map own_level ls))
            (goes files names resolved reads known.named d (deep_at d) (k ∷ path) rest (IsBroken files reads d)
            (λ t x. broken-some d k (k ∷ path) t x) (low-none d (k ∷ path) (none-at d k path unclean none)) (tall-broken d small) 0 ls s c reads-all)

        at-several : (x : Bool) → several_among names (map own_level ls) ≡ x
            → StepsTo files reads b d (items ++ k ∷ []) (if x then next.Fault (file_fault rule.B14 name) else
            if barred_among names (nat_eq d 0) (items ++ k ∷ []) (map own_level ls) then next.Fault (file_fault rule.B9 name) else
            down (first_high names resolved d (map own_level ls)))
        at-several true e =
            let s : several ≡ true = sym (several-is files names known.named 0 ls) ∙ e in
            walk-is ∙ ap (λ y. or_else (fault_if y (file_fault rule.B14 name)) (or_else (fault_if closed (file_fault rule.B9 name)) (first_some (fault_below files rest) (includes_from 0 ls)))) s
        at-several false e =
            let s : several ≡ false = sym (several-is files names known.named 0 ls) ∙ e in
            at-barred s (barred_among names (nat_eq d 0) (items ++ k ∷ []) (map own_level ls)) refl

    pub way_step : ComesTo files reads b d k items → StepsTo files reads b d (items ++ k ∷ []) (next_of names resolved name d (items ++ k ∷ []) (read_at reads k))
    unfolding walk_in clean_in NoneCleanIn
    way_step c = at (read_at reads k) refl c.read
      where
        at : (o : Option Read) → read_at reads k ≡ o → is_some o ≡ true → StepsTo files reads b d (items ++ k ∷ []) (next_of names resolved name d (items ++ k ∷ []) o)
        at None e r = absurd cc
        at (Some (Bad f)) e r =
            let x : IsReadAt files k (Bad f) = known.read k (Bad f) e in
            let y : record_at files k ≡ Some (Err f) = x.content_is ∙ ap Some x.read in
            c.walked ∙ (walk-by files d k c.path ∙ ap (file_walk files (deep_at d) (rest_at files d (k ∷ c.path)) (k ∷ c.path) (name_of files k)) y)
        at (Some (Good own)) e r =
            let x : IsReadAt files k (Good own) = known.read k (Good own) e in
            let y = x.read in
            let o : own_at reads k ≡ Some own.items = ap (option_and_then own_in) e in
            let w : all_read names reads (map own_level y.0) ≡ true = ap (all_read names reads) y.2 ∙ known.closed k own.items o in
            subst (λ os. StepsTo files reads b d (items ++ k ∷ []) (next_in names resolved name d (items ++ k ∷ []) os)) y.2
            (good-step c.path y.0 c.way c.walked c.unclean c.none (x.content_is ∙ ap Some y.1) w)

-- ---- the beginning

unclean-begins : (files : List FileData) (d b : ℕ) → walk d files [] b ≢ None → is_clean files d b ≡ false
unclean-begins files d b n = at (is_clean files d b) refl
  where
    at : (x : Bool) → is_clean files d b ≡ x → is_clean files d b ≡ false
    at true e = absurd (n (clean-walk d files [] b e tt))
    at false e = e

begins-at : (files : List FileData) (reads : List (Option Read)) (b d : ℕ) → binding_walk files b ≡ walk_in d files [] b → binding_walk files b ≢ None → is_read_at reads b ≡ true
    → ComesTo files reads b d b []
unfolding walk_in clean_in NoneCleanIn
begins-at files reads b d e n r = record {
  path = [];
  way = λ t. refl;
  walked = e;
  unclean = unclean-begins files d b (λ w. n (e ∙ w));
  none = tt;
  read = r;
}

pub folded : (files : List FileData) (b : ℕ) → binding_walk files b ≡ walk_in 16 files [] b
unfolding binding_walk walk_in
folded files b = refl

pub way_begins : (files : List FileData) (reads : List (Option Read)) (b : ℕ) → binding_walk files b ≢ None → is_read_at reads b ≡ true → HasCome files reads b 0 b []
way_begins files reads b n r = (16, refl, begins-at files reads b 16 (folded files b) n r)
