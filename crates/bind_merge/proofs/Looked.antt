-- Looking up in entries that stand in order, by halving.
use Rattle.std.proofs.Common.{◌≡◌, ◌⊎◌, inl, inr, ◌<◌, ◌∙◌, sym, ap, refl, subst, ℕ, zero, suc, Bool, true, false, List, [], ◌∷◌, Option, Some, None, length, drop, get_or, map, arith, if◌then◌else◌, ◌||◌, is_some}
use Rattle.std.specs.Str.{bytes_eq}
use Rattle.std.specs.List.{list_any}
use Rattle.std.specs.Cmp.Lexicographic.{slice_cmp, bytes_decides}
use Rattle.std.specs.Ordering.{nat_cmp}
use Rattle.std.specs.declared.cmp.Ordering.TheVariants.{Less, Equal, Greater}
use Rattle.std.proofs.lemmas.Map.Lookups.{exact_bytes}
use Rattle.bind_merge.specs.Facts.{Setting, Gives, IsGiven, named, type_is, required, deprecated, default, constant, choices, space, cells}
use Rattle.bind_merge.specs.Levels.{EntryData}
use Rattle.bind_merge.specs.Joining.{ClashIn}
use Rattle.bind_merge.specs.Adding.{IsSortedOf}
use Rattle.bind_merge.specs.Looking.{entry_named, bare, IsNamed, IsNameTable}
use Rattle.bind_merge.specs.Ordered.{IsBefore, IsBeforeAll, Rises}
use Rattle.bind_merge.proofs.JoinedLists.{before-itself, before-trans, before-all, from-greater, given-before}

skip-if : (b : Bool) (e : EntryData) (o : Option EntryData) → b ≡ false → (if b then Some e else o) ≡ o
skip-if true e o h = absurd cc
skip-if false e o h = refl

take-if : (b : Bool) (e : EntryData) (o : Option EntryData) → b ≡ true → (if b then Some e else o) ≡ Some e
take-if true e o h = refl
take-if false e o h = absurd cc

not-equal : (a p : List ℕ) → (a ≡ p → ⊥) → bytes_eq a p ≡ false
not-equal a p h = at (bytes_eq a p) refl
  where
    at : (b : Bool) → bytes_eq a p ≡ b → bytes_eq a p ≡ false
    at true e = absurd (h ((bytes_decides a p).0 e))
    at false e = e

before-apart : (a p : List ℕ) → IsBefore a p → bytes_eq a p ≡ false
before-apart a p h = not-equal a p (λ e. before-itself p (subst (λ n. IsBefore n p) e h))

after-apart : (a p : List ℕ) → IsBefore p a → bytes_eq a p ≡ false
after-apart a p h = not-equal a p (λ e. before-itself p (subst (λ n. IsBefore p n) e h))

-- all names of these stand after p
none-after : (p : List ℕ) (es : List EntryData) → IsBeforeAll p es → entry_named p es ≡ None
none-after p [] h = refl
none-after p (e ∷ es) h = skip-if (bytes_eq e.name p) e (entry_named p es) (after-apart e.name p h.0) ∙ none-after p es h.1

name-later : (a : List ℕ) (es : List EntryData) (k : ℕ) (z : EntryData) → k < length es → IsBeforeAll a es → z ≡ get_or es k z → IsBefore a z.name
name-later a [] k z h b e = absurd (omega arith)
name-later a (x ∷ es) zero z h b e = subst (λ n. IsBefore a n) (sym (ap (λ (y : EntryData). y.name) e)) b.0
name-later a (x ∷ es) (suc k) z h b e = name-later a es k z (omega arith) b.1 e

pub less-skip : (p : List ℕ) (es : List EntryData) (k : ℕ) (z : EntryData) → Rises es → k < length es → z ≡ get_or es k z → slice_cmp nat_cmp z.name p ≡ Less
    → entry_named p es ≡ entry_named p (drop (suc k) es)
less-skip p [] k z r h e c = absurd (omega arith)
less-skip p (x ∷ es) zero z r h e c =
    skip-if (bytes_eq x.name p) x (entry_named p es) (before-apart x.name p (subst (λ n. IsBefore n p) (ap (λ (y : EntryData). y.name) e) c))
less-skip p (x ∷ es) (suc k) z r h e c =
    let l : k < length es = omega arith in
    skip-if (bytes_eq x.name p) x (entry_named p es) (before-apart x.name p (before-trans x.name z.name p (name-later x.name es k z l r.0 e) c))
    ∙ less-skip p es k z r.1 l e c

pub greater-none : (p : List ℕ) (es : List EntryData) (k : ℕ) (z : EntryData) → Rises es → k < length es → z ≡ get_or es k z → slice_cmp nat_cmp z.name p ≡ Greater
    → entry_named p (drop k es) ≡ None
greater-none p [] k z r h e c = absurd (omega arith)
greater-none p (x ∷ es) zero z r h e c =
    let b : IsBefore p x.name = subst (λ n. IsBefore p n) (ap (λ (y : EntryData). y.name) e) (from-greater z.name p c) in
    none-after p (x ∷ es) (b, before-all p x.name es b r.0)
greater-none p (x ∷ es) (suc k) z r h e c = greater-none p es k z r.1 (omega arith) e c

pub equal-found : (p : List ℕ) (es : List EntryData) (k : ℕ) (z : EntryData) → Rises es → k < length es → z ≡ get_or es k z → slice_cmp nat_cmp z.name p ≡ Equal
    → entry_named p es ≡ Some z
equal-found p [] k z r h e c = absurd (omega arith)
equal-found p (x ∷ es) zero z r h e c =
    take-if (bytes_eq x.name p) x (entry_named p es) ((bytes_decides x.name p).1 (ap (λ (y : EntryData). y.name) (sym e) ∙ exact_bytes z.name p c)) ∙ ap Some (sym e)
equal-found p (x ∷ es) (suc k) z r h e c =
    let l : k < length es = omega arith in
    skip-if (bytes_eq x.name p) x (entry_named p es) (before-apart x.name p (subst (λ n. IsBefore x.name n) (exact_bytes z.name p c) (name-later x.name es k z l r.0 e)))
    ∙ equal-found p es k z r.1 l e c

-- ---- what an entry that was found tells

found-at : (p : List ℕ) (x : EntryData) (es : List EntryData) (z : EntryData) (s : Setting) → (entry_named p es ≡ Some z → IsGiven es p s) → Gives z s
    → (b : Bool) → bytes_eq x.name p ≡ b → (if b then Some x else entry_named p es) ≡ Some z → ((x.name ≡ p) × Gives x s) ⊎ IsGiven es p s
found-at p x es z s below g true h e = let i : z ≡ x = cc in inl ((bytes_decides x.name p).0 h, subst (λ y. Gives y s) i g)
found-at p x es z s below g false h e = inr (below e)

pub found-given : (p : List ℕ) (es : List EntryData) (z : EntryData) (s : Setting) → entry_named p es ≡ Some z → Gives z s → IsGiven es p s
found-given p [] z s e g = absurd cc
found-given p (x ∷ es) z s e g = found-at p x es z s (λ f. found-given p es z s f g) g (bytes_eq x.name p) refl e

pub given-found : (p : List ℕ) (es : List EntryData) (s : Setting) → Rises es → IsGiven es p s → (z : EntryData) × (entry_named p es ≡ Some z) × Gives z s
given-found p [] s r g = absurd g
given-found p (x ∷ es) s r (inl g) = (x, take-if (bytes_eq x.name p) x (entry_named p es) ((bytes_decides x.name p).1 g.0), g.1)
given-found p (x ∷ es) s r (inr g) =
    let f : (z : EntryData) × (entry_named p es ≡ Some z) × Gives z s = given-found p es s r.1 g in
    (f.0, skip-if (bytes_eq x.name p) x (entry_named p es) (before-apart x.name p (given-before x.name es p s r.0 g)) ∙ f.1, f.2)

-- ---- a list of names as entries

or-here : (a b : Bool) → a ≡ true → (a || b) ≡ true
or-here true b h = refl
or-here false b h = absurd cc

or-there : (a b : Bool) → b ≡ true → (a || b) ≡ true
or-there true b h = refl
or-there false b h = h

pub bare-given : (p : List ℕ) (names : List (List ℕ)) → IsGiven (map bare names) p named → list_any (λ n. bytes_eq n p) names ≡ true
bare-given p [] g = absurd g
bare-given p (n ∷ ns) (inl g) = or-here (bytes_eq n p) (list_any (λ m. bytes_eq m p) ns) ((bytes_decides n p).1 g.0)
bare-given p (n ∷ ns) (inr g) = or-there (bytes_eq n p) (list_any (λ m. bytes_eq m p) ns) (bare-given p ns g)

given-at : (p n : List ℕ) (ns : List (List ℕ)) → (list_any (λ m. bytes_eq m p) ns ≡ true → IsGiven (map bare ns) p named) → (b : Bool) → bytes_eq n p ≡ b → (b || list_any (λ m. bytes_eq m p) ns) ≡ true
    → ((n ≡ p) × Gives (bare n) named) ⊎ IsGiven (map bare ns) p named
given-at p n ns below true h e = inl ((bytes_decides n p).0 h, refl)
given-at p n ns below false h e = inr (below e)

pub given-bare : (p : List ℕ) (names : List (List ℕ)) → list_any (λ n. bytes_eq n p) names ≡ true → IsGiven (map bare names) p named
given-bare p [] e = absurd cc
given-bare p (n ∷ ns) e = given-at p n ns (given-bare p ns) (bytes_eq n p) refl e

-- ---- a table of names

named-alike : (s t : Setting) → IsNamed s → IsNamed t → s ≡ t
named-alike named named h k = refl
named-alike named _ h k = absurd k
named-alike _ t h k = absurd h

bare-named : (p : List ℕ) (ns : List (List ℕ)) (s : Setting) → IsGiven (map bare ns) p s → IsNamed s
bare-named p [] s g = absurd g
bare-named p (n ∷ ns) s (inr g) = bare-named p ns s g
bare-named p (n ∷ ns) named (inl g) = tt
bare-named p (n ∷ ns) (type_is t) (inl g) = absurd (let e : None ≡ Some (type_is t) = g.1 in cc)
bare-named p (n ∷ ns) (required t) (inl g) = absurd (let e : None ≡ Some (required t) = g.1 in cc)
bare-named p (n ∷ ns) (deprecated t) (inl g) = absurd (let e : None ≡ Some (deprecated t) = g.1 in cc)
bare-named p (n ∷ ns) (default t) (inl g) = absurd (let e : None ≡ Some (default t) = g.1 in cc)
bare-named p (n ∷ ns) (constant t) (inl g) = absurd (let e : None ≡ Some (constant t) = g.1 in cc)
bare-named p (n ∷ ns) (choices t) (inl g) = absurd (let e : None ≡ Some (choices t) = g.1 in cc)
bare-named p (n ∷ ns) (space t) (inl g) = absurd (let e : None ≡ Some (space t) = g.1 in cc)
bare-named p (n ∷ ns) (cells t) (inl g) = absurd (let e : None ≡ Some (cells t) = g.1 in cc)

-- names alone don't clash
pub bare-agrees : (ns : List (List ℕ)) → ClashIn (map bare ns) (map bare ns) → ⊥
bare-agrees ns c = c.differ.1 (named-alike c.one c.other (bare-named c.name ns c.one c.given_one) (bare-named c.name ns c.other c.given_other))

is-there : (p : List ℕ) (es : List EntryData) (o : Option EntryData) → entry_named p es ≡ o → Rises es → (b : Bool) → (IsGiven es p named → b ≡ true) → (b ≡ true → IsGiven es p named) → is_some o ≡ b
is-there p es (Some z) e r true f g = refl
is-there p es (Some z) e r false f g = let x : false ≡ true = f (found-given p es z named e refl) in absurd cc
is-there p es None e r true f g = let x : (z : EntryData) × (entry_named p es ≡ Some z) × Gives z named = given-found p es named r (g refl) in absurd (let y : None ≡ Some x.0 = sym e ∙ x.1 in cc)
is-there p es None e r false f g = refl

pub name-table : (ns : List (List ℕ)) (es : List EntryData) → IsSortedOf (map bare ns) es → IsNameTable ns es
name-table ns es h = record {
  rises = h.rises;
  looks = λ p. is-there p es (entry_named p es) refl h.rises (list_any (λ n. bytes_eq n p) ns)
      (λ g. bare-given p ns (h.given p named g)) (λ e. h.all p named (given-bare p ns e));
}
