-- The heart: what a file's own levels make with the merged levels of its includes, each taken once, is
-- the merged binding of the file.
use Rattle.std.proofs.Common.{◌≡◌, ◌⊎◌, ◌+◌, ◌-◌, ◌≤◌, inl, inr, ◌∙◌, sym, refl, subst, ℕ, zero, suc, true, List, [], ◌∷◌, Option, Some, Ok, map, arith}
use Rattle.std.specs.List.{slice_get}
use Rattle.bind_load.specs.RecordData.{IncludeData, LevelData}
use Rattle.bind_merge.specs.Facts.{Fact, Says, there, described, buses, on_bus, of_space, of_prop}
use Rattle.bind_merge.specs.Files.{FileData, record_at, named_files, includes_from, IsAmong}
use Rattle.bind_merge.specs.Holdings.{Holds, itself, by_include}
use Rattle.bind_merge.specs.Conflicts.{Conflict, HasConflict, Reaches, at_once, through}
use Rattle.bind_merge.specs.Levels.{LevelTable, own_table, own_level}
use Rattle.bind_merge.specs.Passing.{lets}
use Rattle.bind_merge.specs.Ordered.{SaysAt, IsInOrder}
use Rattle.bind_merge.specs.Adding.{Brought, IsTableOf, AreTablesOf}
use Rattle.bind_merge.specs.Uniting.{Unites, all_in, next_in}
use Rattle.bind_merge.specs.Laws.{MergesOnce}
use Rattle.bind_merge.specs.Merging.{IsMerged}
use Rattle.bind_merge.proofs.AddedLevels.{from-old, from-new, from-cases, from-order, levels-one}

-- what one level of a record says, its table says, and nothing else
table-says : (own t : LevelTable) → IsTableOf own t → (f : Fact) → Says own f → Says t f
table-says own t h there s = tt
table-says own t h described s = h.described ∙ s
table-says own t h (buses v) s = h.buses ∙ s
table-says own t h (on_bus v) s = h.on_bus ∙ s
table-says own t h (of_space p x) s = h.spaces.all p x s
table-says own t h (of_prop p x) s = h.props.all p x s

says-table : (own t : LevelTable) → IsTableOf own t → (f : Fact) → Says t f → Says own f
says-table own t h there s = tt
says-table own t h described s = sym h.described ∙ s
says-table own t h (buses v) s = sym h.buses ∙ s
says-table own t h (on_bus v) s = sym h.on_bus ∙ s
says-table own t h (of_space p x) s = h.spaces.given p x s
says-table own t h (of_prop p x) s = h.props.given p x s

some-eq : {A : Type 0} {x y : A} → Some x ≡ Some y → x ≡ y
some-eq e = cc

own-says : (ls : List LevelData) (ts : List LevelTable) → AreTablesOf (map own_level ls) ts → (n : ℕ) (l : LevelData) (f : Fact) → slice_get ls n ≡ Some l → Says (own_table l) f → SaysAt ts n f
own-says [] ts h n l f e s = absurd cc
own-says (k ∷ ls) [] h n l f e s = absurd h
own-says (k ∷ ls) (t ∷ ts) h zero l f e s = table-says (own_table k) t h.0 f (subst (λ x. Says (own_table x) f) (sym (some-eq e)) s)
own-says (k ∷ ls) (t ∷ ts) h (suc n) l f e s = own-says ls ts h.1 n l f e s

-- the level of a record that says a fact
pub record Spoken (ls : List LevelData) (n : ℕ) (f : Fact) : Type 0 where
  pub level : LevelData
  pub level_is : slice_get ls n ≡ Some level
  pub says : Says (own_table level) f

pub says-own : (ls : List LevelData) (ts : List LevelTable) → AreTablesOf (map own_level ls) ts → (n : ℕ) (f : Fact) → SaysAt ts n f → Spoken ls n f
says-own ls [] h n f s = absurd s
says-own [] (t ∷ ts) h n f s = absurd h
says-own (k ∷ ls) (t ∷ ts) h zero f s = record { level = k; level_is = refl; says = says-table (own_table k) t h.0 f s }
says-own (k ∷ ls) (t ∷ ts) h (suc n) f s = let p : Spoken ls n f = says-own ls ts h.1 n f s in record { level = p.level; level_is = p.level_is; says = p.says }

own-order : (ls : List LevelData) (ts : List LevelTable) → AreTablesOf (map own_level ls) ts → IsInOrder ts
own-order ls [] h = tt
own-order [] (t ∷ ts) h = absurd h
own-order (k ∷ ls) (t ∷ ts) h = ((h.0.spaces.rises, h.0.props.rises), own-order ls ts h.1)

module _ (files : List FileData) (tables : ℕ → Option (List LevelTable)) where
  pub united-old : (ts : List LevelTable) (es : List (ℕ × IncludeData)) (us : List LevelTable) → Unites files tables ts es us → (n : ℕ) (f : Fact) → SaysAt ts n f → SaysAt us n f
  united-old _ _ _ (all_in ts) n f s = s
  united-old _ _ _ (next_in ts e es t inc un all names has adds h) n f s =
      united-old un es all h n f (from-old ts e.0 inc e.1.filter un adds n f s)

  -- the table of an included file, and that what it says and the filter lets through has come
  pub record Came (us : List LevelTable) (e : ℕ × IncludeData) : Type 0 where
    pub file : ℕ
    pub levels : List LevelTable
    pub names : named_files files e.1.name ≡ file ∷ []
    pub has : tables file ≡ Some levels
    pub came : (j : ℕ) (f : Fact) → SaysAt levels j f → lets (slice_get e.1.filter j) f ≡ true → SaysAt us (e.0 + j) f

  pub united-new : (ts : List LevelTable) (es : List (ℕ × IncludeData)) (us : List LevelTable) → Unites files tables ts es us → (e : ℕ × IncludeData) → IsAmong e es → Came us e
  united-new _ _ _ (all_in ts) e a = absurd a
  united-new _ _ _ (next_in ts x es t inc un all names has adds h) e (inl is) =
      subst (λ y. Came all y) (sym is) (record {
        file = t;
        levels = inc;
        names = names;
        has = has;
        came = λ j f s l. united-old un es all h (x.0 + j) f (from-new ts x.0 inc x.1.filter un adds j f s l);
      })
  united-new _ _ _ (next_in ts x es t inc un all names has adds h) e (inr a) = united-new un es all h e a

  -- where a fact that an include brought comes from
  pub record Origin (es : List (ℕ × IncludeData)) (n : ℕ) (f : Fact) : Type 0 where
    pub include : ℕ × IncludeData
    pub among : IsAmong include es
    pub file : ℕ
    pub levels : List LevelTable
    pub names : named_files files include.1.name ≡ file ∷ []
    pub has : tables file ≡ Some levels
    pub brought : Brought include.0 levels include.1.filter n f

  origin-after : (x : ℕ × IncludeData) (es : List (ℕ × IncludeData)) (n : ℕ) (f : Fact) → Origin es n f → Origin (x ∷ es) n f
  origin-after x es n f o = record { include = o.include; among = inr o.among; file = o.file; levels = o.levels; names = o.names; has = o.has; brought = o.brought }

  pub united-cases : (ts : List LevelTable) (es : List (ℕ × IncludeData)) (us : List LevelTable) → Unites files tables ts es us → (n : ℕ) (f : Fact) → SaysAt us n f → SaysAt ts n f ⊎ Origin es n f
  united-cases _ _ _ (all_in ts) n f s = inl s
  united-cases _ _ _ (next_in ts x es t inc un all names has adds h) n f s =
      elim (united-cases un es all h n f s) [
        | inl y ↦ elim (from-cases ts x.0 inc x.1.filter un adds n f y) [
          | inl z ↦ inl z
          | inr z ↦ inr (record { include = x; among = inl refl; file = t; levels = inc; names = names; has = has; brought = z })
        ]
        | inr y ↦ inr (origin-after x es n f y)
      ]

  pub united-order : (ts : List LevelTable) (es : List (ℕ × IncludeData)) (us : List LevelTable) → Unites files tables ts es us
      → ((t : ℕ) (ls : List LevelTable) → tables t ≡ Some ls → IsInOrder ls) → IsInOrder ts → IsInOrder us
  united-order _ _ _ (all_in ts) o r = r
  united-order _ _ _ (next_in ts x es t inc un all names has adds h) o r =
      united-order un es all h o (from-order ts x.0 inc x.1.filter un adds r (o t inc has))

  -- each table is the merged binding of its file, which is in no conflict
  abbrev pub AreResolved : Type 0
  AreResolved = (t : ℕ) (ls : List LevelTable) → tables t ≡ Some ls → IsMerged files t ls × (HasConflict files t → ⊥)

  one-name : (xs : List ℕ) (t u : ℕ) → xs ≡ t ∷ [] → xs ≡ u ∷ [] → t ≡ u
  one-name xs t u e h = cc

  same-record : (k : ℕ) (ls ms : List LevelData) → record_at files k ≡ Some (Ok ls) → record_at files k ≡ Some (Ok ms) → ls ≡ ms
  same-record k ls ms e h = cc

  take-off : (n m j : ℕ) → n ≡ m + j → (m ≤ n) × (j ≡ n - m)
  take-off n m j e = (omega arith, omega arith)

  put-on : (n m : ℕ) → m ≤ n → m + (n - m) ≡ n
  put-on n m h = omega arith

  module _ (k : ℕ) (ls : List LevelData) (is : record_at files k ≡ Some (Ok ls)) (ts us : List LevelTable)
      (own : AreTablesOf (map own_level ls) ts) (resolved : AreResolved) where
    own-held : (n : ℕ) (f : Fact) → SaysAt ts n f → Holds files k n f
    own-held n f s = let p : Spoken ls n f = says-own ls ts own n f s in
        itself k n f (record { levels = ls; level = p.level; record_is = is; level_is = p.level_is; says = p.says })

    origin-held : (es : List (ℕ × IncludeData)) → ((e : ℕ × IncludeData) → IsAmong e es → IsAmong e (includes_from 0 ls)) → (n : ℕ) (f : Fact) → Origin es n f → Holds files k n f
    origin-held es sub n f o =
        let at : (o.include.0 ≤ n) × (o.brought.step ≡ n - o.include.0) = take-off n o.include.0 o.brought.step o.brought.place in
        by_include k n f o.include.0 o.include.1 o.file
        (record { levels = ls; record_is = is; among = sub o.include o.among; names = o.names })
        at.0
        (subst (λ j. lets (slice_get o.include.1.filter j) f ≡ true) at.1 o.brought.passes)
        (subst (λ j. Holds files o.file j f) at.1 ((resolved o.file o.levels o.has).0.held o.brought.step f o.brought.says))

    pub united-held : Unites files tables ts (includes_from 0 ls) us → (n : ℕ) (f : Fact) → SaysAt us n f → Holds files k n f
    united-held h n f s = elim (united-cases ts (includes_from 0 ls) us h n f s) [
      | inl x ↦ own-held n f x
      | inr x ↦ origin-held (includes_from 0 ls) (λ e a. a) n f x
    ]

    united-all : Unites files tables ts (includes_from 0 ls) us → (n : ℕ) (f : Fact) → Holds files k n f → SaysAt us n f
    united-all h n f (itself _ _ _ s) =
        united-old ts (includes_from 0 ls) us h n f
        (own-says ls ts own n s.level f (subst (λ x. slice_get x n ≡ Some s.level) (sym (same-record k ls s.levels is s.record_is)) s.level_is) s.says)
    united-all h n f (by_include _ _ _ m i t inc le passes held) =
        let e : IsAmong (m, i) (includes_from 0 ls) = subst (λ x. IsAmong (m, i) (includes_from 0 x)) (sym (same-record k ls inc.levels is inc.record_is)) inc.among in
        let c : Came us (m, i) = united-new ts (includes_from 0 ls) us h (m, i) e in
        let same : t ≡ c.file = one-name (named_files files i.name) t c.file inc.names c.names in
        subst (λ x. SaysAt us x f) (put-on n m le)
        (c.came (n - m) f ((resolved c.file c.levels c.has).0.all (n - m) f (subst (λ x. Holds files x (n - m) f) same held)) passes)

    -- the merged binding
    pub united-merged : Unites files tables ts (includes_from 0 ls) us → IsMerged files k us
    united-merged h = record {
      held = united-held h;
      all = united-all h;
      in_order = united-order ts (includes_from 0 ls) us h (λ t x e. (resolved t x e).0.in_order) (own-order ls ts own);
    }

    no-conflict : Unites files tables ts (includes_from 0 ls) us → Conflict files k → ⊥
    no-conflict h c = levels-one us (united-merged h).in_order c.step c.one c.other
        (united-all h c.step c.one c.holds_one) (united-all h c.step c.other c.holds_other) c.clash

    -- and no conflict
    pub united-agrees : Unites files tables ts (includes_from 0 ls) us → (g : ℕ) → Reaches files k g → Conflict files g → ⊥
    united-agrees h g (at_once _) c = no-conflict h c
    united-agrees h g (through _ m i t _ inc r) c =
        let e : IsAmong (m, i) (includes_from 0 ls) = subst (λ x. IsAmong (m, i) (includes_from 0 x)) (sym (same-record k ls inc.levels is inc.record_is)) inc.among in
        let x : Came us (m, i) = united-new ts (includes_from 0 ls) us h (m, i) e in
        let same : t ≡ x.file = one-name (named_files files i.name) t x.file inc.names x.names in
        (resolved x.file x.levels x.has).1 (record { file = g; reaches = subst (λ y. Reaches files y g) same r; conflict = c })

    pub united-resolved : Unites files tables ts (includes_from 0 ls) us → IsMerged files k us × (HasConflict files k → ⊥)
    united-resolved h = (united-merged h, λ c. united-agrees h c.file c.reaches c.conflict)

pub merges_once : MergesOnce
merges_once files tables resolved k levels is own united tables-of unites = united-resolved files tables k levels is own united tables-of resolved unites
