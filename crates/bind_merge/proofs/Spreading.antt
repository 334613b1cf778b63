-- Reading spreads along includes until all that is included is read.
use Rattle.std.proofs.Common.{◌≡◌, ◌≢◌, ◌⊎◌, inl, inr, ◌∙◌, sym, ap, subst, refl, ◌+◌, ◌<◌, ◌≤◌, ◌||◌, ◌&&◌, ◌++◌, ℕ, zero, suc, Bool, true, false, List, [], ◌∷◌, length, Option, Some, None, Result, nat_eq, nat_lt, if◌then◌else◌, is_some, arith}
use Rattle.std.specs.List.{flat_map, list_all, list_any, slice_get, slice_set}
use Rattle.std.specs.Option.{option_and_then}
use Rattle.std.specs.Str.{bytes_eq}
use Rattle.std.proofs.lemmas.Bool.Decides.{Decides-eqb, Decides-ltb}
use Rattle.edt_base.specs.declared.fault.Fault.{Fault}
use Rattle.bind_load.specs.RecordData.{IncludeData, LevelData}
use Rattle.bind_merge.specs.Files.{FileData, base_name, record_at, named_files, named_from}
use Rattle.bind_merge.specs.Levels.{OwnData}
use Rattle.bind_merge.specs.declared.names.Named.{Named}
use Rattle.bind_merge.specs.declared.names.Named.TheVariants.{One, Several}
use Rattle.bind_merge.specs.declared.reading.Read.{Read}
use Rattle.bind_merge.specs.Inner.Reading.{AreRead, IsClosed, IsReadAt, IsReadOf, all_read, is_read_as, is_read_at, leads_to_read, own_at, own_in, read_at}
use Rattle.bind_merge.specs.Inner.Resolving.{AreNames, NameData, named_in, told}
use Rattle.bind_merge.specs.Inner.Spreading.{is_among, one_of, included_at, included_in, included_by, unread, Spreads, HasSpread}
use Rattle.bind_merge.proofs.Heights.{slice-set-other, slice-set-same}
use Rattle.bind_merge.proofs.Ways.{any-both}

both : (a b : Bool) → a ≡ true → b ≡ true → (a && b) ≡ true
both true b e f = f
both false b e f = absurd cc

parts : (a b : Bool) → (a && b) ≡ true → (a ≡ true) × (b ≡ true)
parts true b e = (refl, e)
parts false b e = absurd cc

or-left : (a b : Bool) → a ≡ true → (a || b) ≡ true
or-left true b e = refl
or-left false b e = absurd cc

or-right : (a b : Bool) → b ≡ true → (a || b) ≡ true
or-right true b e = refl
or-right false b e = e

or-cases : (a b : Bool) → (a || b) ≡ true → (a ≡ true) ⊎ (b ≡ true)
or-cases true b e = inl refl
or-cases false b e = inr e

among-left : (xs ys : List ℕ) (k : ℕ) → is_among xs k ≡ true → is_among (xs ++ ys) k ≡ true
among-left xs ys k e = any-both (nat_eq k) xs ys ∙ or-left _ _ e

among-last : (xs : List ℕ) (k : ℕ) → is_among (xs ++ k ∷ []) k ≡ true
among-last xs k = any-both (nat_eq k) xs (k ∷ []) ∙ or-right _ _ (or-left _ _ ((Decides-eqb k k).1 refl))

-- ---- nothing happens, and one thing after another

pub spreads_none : (files : List FileData) (reads : List (Option Read)) (left : List ℕ) → Spreads files reads left reads left
spreads_none files reads left = record {
  kept = λ k r e. e;
  stays = λ k e. e;
  fresh = λ k e. inl e;
  sound = λ a. a;
  long = refl;
  size = omega arith;
}

pub spreads_on : (files : List FileData) (a b c : List (Option Read)) (l m n : List ℕ) → Spreads files a l b m → Spreads files b m c n → Spreads files a l c n
spreads_on files a b c l m n s t = record {
  kept = λ k r e. t.kept k r (s.kept k r e);
  stays = λ k e. t.stays k (s.stays k e);
  fresh = λ k e. at k (t.fresh k e);
  sound = λ x. t.sound (s.sound x);
  long = t.long ∙ s.long;
  size = let x = s.size in let y = t.size in omega (arith, x, y);
}
  where
    next : (k : ℕ) → (is_read_at a k ≡ true) ⊎ (is_among m k ≡ true) → (is_read_at a k ≡ true) ⊎ (is_among n k ≡ true)
    next k (inl e) = inl e
    next k (inr e) = inr (t.stays k e)

    at : (k : ℕ) → (is_read_at b k ≡ true) ⊎ (is_among n k ≡ true) → (is_read_at a k ≡ true) ⊎ (is_among n k ≡ true)
    at k (inl e) = next k (s.fresh k e)
    at k (inr e) = inr e

-- ---- one file is read

unread-set : (reads : List (Option Read)) (k : ℕ) (r : Read) → slice_get reads k ≡ Some None → unread (slice_set reads k (Some r)) + 1 ≡ unread reads
unread-set [] k r e = absurd cc
unread-set (None ∷ rs) zero r e = refl
unread-set (Some x ∷ rs) zero r e = absurd cc
unread-set (None ∷ rs) (suc k) r e = ap (λ n. n + 1) (unread-set rs k r e)
unread-set (Some x ∷ rs) (suc k) r e = unread-set rs k r e

length-slice-set : {X : Type 0} (xs : List X) (k : ℕ) (v : X) → length (slice_set xs k v) ≡ length xs
length-slice-set [] k v = refl
length-slice-set (x ∷ xs) zero v = refl
length-slice-set (x ∷ xs) (suc k) v = ap suc (length-slice-set xs k v)

length-snoc : (xs : List ℕ) (x : ℕ) → length (xs ++ x ∷ []) ≡ length xs + 1
length-snoc [] x = refl
length-snoc (y ∷ ys) x = let e : length (ys ++ x ∷ []) ≡ length ys + 1 = length-snoc ys x in omega (arith, e)

module _ (files : List FileData) (reads : List (Option Read)) (left : List ℕ) (k : ℕ) (r : Read) (l : k < length reads) (none : slice_get reads k ≡ Some None)
    (is : IsReadAt files k r) where
  abbrev pub now_read : List (Option Read)
  now_read = slice_set reads k (Some r)

  at-other : (j : ℕ) → j ≢ k → read_at now_read j ≡ read_at reads j
  at-other j n = ap (option_and_then (λ x. x)) (slice-set-other reads k (Some r) j n)

  at-same : read_at now_read k ≡ Some r
  at-same = ap (option_and_then (λ x. x)) (slice-set-same reads k (Some r) l)

  was-none : read_at reads k ≡ None
  was-none = ap (option_and_then (λ x. x)) none

  pub reads_one : Spreads files reads left now_read (left ++ k ∷ [])
  reads_one = record {
    kept = λ j x e. at-other j (apart j x e) ∙ e;
    stays = λ j e. among-left left (k ∷ []) j e;
    fresh = λ j e. fresh j e (nat_eq j k) refl;
    sound = λ a j x e. sound a j x e (nat_eq j k) refl;
    long = length-slice-set reads k (Some r);
    size = let u : unread now_read + 1 ≡ unread reads = unread-set reads k r none in let v : length (left ++ k ∷ []) ≡ length left + 1 = length-snoc left k in omega (arith, u, v);
  }
    where
      apart : (j : ℕ) (x : Read) → read_at reads j ≡ Some x → j ≢ k
      apart j x e s = let f : read_at reads k ≡ Some x = subst (λ i. read_at reads i ≡ Some x) s e in let g : read_at reads k ≡ None = was-none in cc

      other : (j : ℕ) → nat_eq j k ≡ false → j ≢ k
      other j t s = let u : nat_eq j k ≡ true = (Decides-eqb j k).1 s in cc

      fresh : (j : ℕ) → is_read_at now_read j ≡ true → (b : Bool) → nat_eq j k ≡ b → (is_read_at reads j ≡ true) ⊎ (is_among (left ++ k ∷ []) j ≡ true)
      fresh j e true t = let s : k ≡ j = sym ((Decides-eqb j k).0 t) in inr (subst (λ i. is_among (left ++ k ∷ []) i ≡ true) s (among-last left k))
      fresh j e false t = inl (ap is_some (sym (at-other j (other j t))) ∙ e)

      sound : AreRead files reads → (j : ℕ) (x : Read) → read_at now_read j ≡ Some x → (b : Bool) → nat_eq j k ≡ b → IsReadAt files j x
      sound a j x e true t =
          let s : j ≡ k = (Decides-eqb j k).0 t in
          let f : read_at now_read k ≡ Some x = subst (λ i. read_at now_read i ≡ Some x) s e in
          let g : Some r ≡ Some x = sym at-same ∙ f in
          let h : r ≡ x = cc in
          subst (λ i. IsReadAt files i x) (sym s) (subst (λ (y : Read). IsReadAt files k y) h is)
      sound a j x e false t = a j x (sym (at-other j (other j t)) ∙ e)

  pub is_read_now : is_read_at now_read k ≡ true
  is_read_now = ap is_some at-same

-- ---- what is included is read

read-more : (reads more : List (Option Read)) → ((k : ℕ) (r : Read) → read_at reads k ≡ Some r → read_at more k ≡ Some r)
    → (k : ℕ) → is_read_at reads k ≡ true → is_read_at more k ≡ true
read-more reads more kept k e = at (read_at reads k) refl e
  where
    at : (o : Option Read) → read_at reads k ≡ o → is_some o ≡ true → is_read_at more k ≡ true
    at None f g = absurd cc
    at (Some r) f g = ap is_some (kept k r f)

pub all_more : (reads more : List (Option Read)) → ((k : ℕ) (r : Read) → read_at reads k ≡ Some r → read_at more k ≡ Some r)
    → (ks : List ℕ) → list_all (is_read_at reads) ks ≡ true → list_all (is_read_at more) ks ≡ true
all_more reads more kept [] e = refl
all_more reads more kept (k ∷ ks) e =
    let p : (is_read_at reads k ≡ true) × (list_all (is_read_at reads) ks ≡ true) = parts _ _ e in
    both _ _ (read-more reads more kept k p.0) (all_more reads more kept ks p.1)

all-split : (f : ℕ → Bool) (xs ys : List ℕ) → list_all f (xs ++ ys) ≡ true → (list_all f xs ≡ true) × (list_all f ys ≡ true)
all-split f [] ys e = (refl, e)
all-split f (x ∷ xs) ys e =
    let p : (f x ≡ true) × (list_all f (xs ++ ys) ≡ true) = parts _ _ e in
    let q : (list_all f xs ≡ true) × (list_all f ys ≡ true) = all-split f xs ys p.1 in
    (both _ _ p.0 q.0, q.1)

named-read : (reads : List (Option Read)) (o : Option Named) → list_all (is_read_at reads) (one_of o) ≡ true → is_read_as reads o ≡ true
named-read reads None e = refl
named-read reads (Some (One k)) e = (parts (is_read_at reads k) true e).0
named-read reads (Some Several) e = refl

level-read : (names : NameData) (reads : List (Option Read)) (is : List IncludeData) → list_all (is_read_at reads) (flat_map (included_at names) is) ≡ true
    → list_all (leads_to_read names reads) is ≡ true
level-read names reads [] e = refl
level-read names reads (i ∷ is) e =
    let p : (list_all (is_read_at reads) (included_at names i) ≡ true) × (list_all (is_read_at reads) (flat_map (included_at names) is) ≡ true)
    = all-split (is_read_at reads) (included_at names i) (flat_map (included_at names) is) e in
    both _ _ (named-read reads (named_in names i.name) p.0) (level-read names reads is p.1)

record-read : (names : NameData) (reads : List (Option Read)) (own : List OwnData) → list_all (is_read_at reads) (included_in names own) ≡ true
    → all_read names reads own ≡ true
record-read names reads [] e = refl
record-read names reads (l ∷ ls) e =
    let p : (list_all (is_read_at reads) (flat_map (included_at names) l.includes) ≡ true) × (list_all (is_read_at reads) (included_in names ls) ≡ true)
    = all-split (is_read_at reads) (flat_map (included_at names) l.includes) (included_in names ls) e in
    both _ _ (level-read names reads l.includes p.0) (record-read names reads ls p.1)

module _ (names : NameData) (reads more : List (Option Read)) (kept : (k : ℕ) (r : Read) → read_at reads k ≡ Some r → read_at more k ≡ Some r) where
  as-more : (o : Option Named) → is_read_as reads o ≡ true → is_read_as more o ≡ true
  as-more None e = refl
  as-more (Some (One k)) e = read-more reads more kept k e
  as-more (Some Several) e = refl

  level-more : (is : List IncludeData) → list_all (leads_to_read names reads) is ≡ true → list_all (leads_to_read names more) is ≡ true
  level-more [] e = refl
  level-more (i ∷ is) e =
      let p : (leads_to_read names reads i ≡ true) × (list_all (leads_to_read names reads) is ≡ true) = parts _ _ e in
      both _ _ (as-more (named_in names i.name) p.0) (level-more is p.1)

  record-more : (own : List OwnData) → all_read names reads own ≡ true → all_read names more own ≡ true
  record-more [] e = refl
  record-more (l ∷ ls) e =
      let p : (list_all (leads_to_read names reads) l.includes ≡ true) × (all_read names reads ls ≡ true) = parts _ _ e in
      both _ _ (level-more l.includes p.0) (record-more ls p.1)

-- ---- the beginning, a step and the end

pub spread_begins : (files : List FileData) (names : NameData) (reads : List (Option Read)) (first : List ℕ)
    → ((k : ℕ) → is_read_at reads k ≡ true → is_among first k ≡ true) → HasSpread files names reads reads first
spread_begins files names reads first h = record {
  kept = λ k r e. e;
  sound = λ a. a;
  long = refl;
  closed = λ k own e. inl (h k (at k own (read_at reads k) refl e));
}
  where
    at : (k : ℕ) (own : List OwnData) (o : Option Read) → read_at reads k ≡ o → option_and_then own_in o ≡ Some own → is_read_at reads k ≡ true
    at k own None e f = absurd cc
    at k own (Some r) e f = ap is_some e

pub spread_step : (files : List FileData) (names : NameData) (start reads more : List (Option Read)) (left rest todo : List ℕ) (k : ℕ) → left ≡ rest ++ k ∷ []
    → HasSpread files names start reads left → Spreads files reads rest more todo → list_all (is_read_at more) (included_by names (own_at reads k)) ≡ true
    → HasSpread files names start more todo
spread_step files names start reads more left rest todo k is h s all = record {
  kept = λ j r e. s.kept j r (h.kept j r e);
  sound = λ a. s.sound (h.sound a);
  long = s.long ∙ h.long;
  closed = λ j own e. at j own e (read_at more j) refl;
}
  where
    of-k : (own : List OwnData) → own_at reads k ≡ Some own → all_read names more own ≡ true
    of-k own e = record-read names more own (ap (λ o. list_all (is_read_at more) (included_by names o)) (sym e) ∙ all)

    was : (j : ℕ) (own : List OwnData) → own_at reads j ≡ Some own → (is_among left j ≡ true) ⊎ (all_read names reads own ≡ true)
        → (is_among todo j ≡ true) ⊎ (all_read names more own ≡ true)
    was j own e (inr a) = inr (record-more names reads more s.kept own a)
    was j own e (inl a) = cases (or-cases (is_among rest j) (nat_eq j k || false) (sym (any-both (nat_eq j) rest (k ∷ [])) ∙ (ap (λ ks. is_among ks j) (sym is) ∙ a)))
      where
        same : (b : Bool) → nat_eq j k ≡ b → (b || false) ≡ true → (is_among todo j ≡ true) ⊎ (all_read names more own ≡ true)
        same true t f = let q : j ≡ k = (Decides-eqb j k).0 t in inr (of-k own (subst (λ i. own_at reads i ≡ Some own) q e))
        same false t f = absurd cc

        cases : (is_among rest j ≡ true) ⊎ ((nat_eq j k || false) ≡ true) → (is_among todo j ≡ true) ⊎ (all_read names more own ≡ true)
        cases (inl f) = inl (s.stays j f)
        cases (inr f) = same (nat_eq j k) refl f

    before : (j : ℕ) (own : List OwnData) (r : Read) → read_at more j ≡ Some r → own_in r ≡ Some own → (o : Option Read) → read_at reads j ≡ o → is_some o ≡ true
        → (is_among todo j ≡ true) ⊎ (all_read names more own ≡ true)
    before j own r e f None g w = absurd cc
    before j own r e f (Some x) g w =
        let y : Some x ≡ Some r = sym (s.kept j x g) ∙ e in
        let z : read_at reads j ≡ Some r = g ∙ y in
        let o : own_at reads j ≡ Some own = ap (option_and_then own_in) z ∙ f in
        was j own o (h.closed j own o)

    at : (j : ℕ) (own : List OwnData) → own_at more j ≡ Some own → (o : Option Read) → read_at more j ≡ o → (is_among todo j ≡ true) ⊎ (all_read names more own ≡ true)
    at j own e None f = absurd (let x : own_at more j ≡ None = ap (option_and_then own_in) f in cc)
    at j own e (Some r) f = fresh (s.fresh j (ap is_some f))
      where
        here : own_in r ≡ Some own
        here = sym (ap (option_and_then own_in) f) ∙ e

        fresh : (is_read_at reads j ≡ true) ⊎ (is_among todo j ≡ true) → (is_among todo j ≡ true) ⊎ (all_read names more own ≡ true)
        fresh (inl w) = before j own r f here (read_at reads j) refl w
        fresh (inr w) = inl w

pub spread_ends : (files : List FileData) (names : NameData) (reads more : List (Option Read)) (left : List ℕ) → left ≡ [] → HasSpread files names reads more left
    → IsClosed names more
spread_ends files names reads more left none h k own e = at (h.closed k own e)
  where
    at : (is_among left k ≡ true) ⊎ (all_read names more own ≡ true) → all_read names more own ≡ true
    at (inl a) = absurd (let x : is_among [] k ≡ true = ap (λ ks. is_among ks k) (sym none) ∙ a in cc)
    at (inr a) = a

-- ---- what is named is listed

listed-from : (n j k : ℕ) (fs : List FileData) (name : List ℕ) → n ≡ j + length fs → list_any (nat_eq k) (named_from j fs name) ≡ true → k < n
listed-from n j k [] name e h = absurd cc
listed-from n j k (f ∷ fs) name e h = at (bytes_eq (base_name f.name) name) (λ g. listed-from n (j + 1) k fs name (e ∙ omega arith) g) h
  where
    here : (b : Bool) → nat_eq k j ≡ b → (list_any (nat_eq k) (named_from (j + 1) fs name) ≡ true → k < n)
        → (b || list_any (nat_eq k) (named_from (j + 1) fs name)) ≡ true → k < n
    here true t rest g = let q : k ≡ j = (Decides-eqb k j).0 t in omega (arith, q, e)
    here false t rest g = rest g

    at : (b : Bool) → (list_any (nat_eq k) (named_from (j + 1) fs name) ≡ true → k < n)
        → list_any (nat_eq k) (if b then j ∷ named_from (j + 1) fs name else named_from (j + 1) fs name) ≡ true → k < n
    at true rest g = here (nat_eq k j) refl rest g
    at false rest g = rest g

told-listed : (files : List FileData) (k : ℕ) (ns : List ℕ) → ((j : ℕ) → list_any (nat_eq j) ns ≡ true → j < length files) → told ns ≡ Some (One k) → k < length files
told-listed files k [] h e = absurd cc
told-listed files k (t ∷ []) h e = let q : t ≡ k = cc in subst (λ j. j < length files) q (h t (or-left _ _ ((Decides-eqb t t).1 refl)))
told-listed files k (t ∷ u ∷ ts) h e = absurd cc

one-listed : (files : List FileData) (names : NameData) → AreNames files names → (base : List ℕ) (o : Option Named) → named_in names base ≡ o
    → list_all (λ k. nat_lt k (length files)) (one_of o) ≡ true
one-listed files names known base None e = refl
one-listed files names known base (Some (One k)) e =
    let l : k < length files = told-listed files k (named_files files base) (λ j h. listed-from (length files) 0 j files base (omega arith) h) (sym (known base) ∙ e) in
    both _ _ ((Decides-ltb k (length files)).1 l) refl
one-listed files names known base (Some Several) e = refl

all-joined : (f : ℕ → Bool) (xs ys : List ℕ) → list_all f xs ≡ true → list_all f ys ≡ true → list_all f (xs ++ ys) ≡ true
all-joined f [] ys e g = g
all-joined f (x ∷ xs) ys e g =
    let p : (f x ≡ true) × (list_all f xs ≡ true) = parts _ _ e in
    both _ _ p.0 (all-joined f xs ys p.1 g)

level-listed : (files : List FileData) (names : NameData) → AreNames files names → (is : List IncludeData)
    → list_all (λ k. nat_lt k (length files)) (flat_map (included_at names) is) ≡ true
level-listed files names known [] = refl
level-listed files names known (i ∷ is) =
    all-joined _ (included_at names i) (flat_map (included_at names) is) (one-listed files names known i.name (named_in names i.name) refl) (level-listed files names known is)

record-listed : (files : List FileData) (names : NameData) → AreNames files names → (own : List OwnData)
    → list_all (λ k. nat_lt k (length files)) (included_in names own) ≡ true
record-listed files names known [] = refl
record-listed files names known (l ∷ ls) =
    all-joined _ (flat_map (included_at names) l.includes) (included_in names ls) (level-listed files names known l.includes) (record-listed files names known ls)

pub included_listed : (files : List FileData) (names : NameData) → AreNames files names → (o : Option (List OwnData))
    → list_all (λ k. nat_lt k (length files)) (included_by names o) ≡ true
included_listed files names known None = refl
included_listed files names known (Some own) = record-listed files names known own
