-- What joined levels say, and what a filter lets through of a level.
use Rattle.std.proofs.Common.{◌≡◌, ◌⊎◌, ◌&&◌, ◌||◌, inl, inr, ◌∙◌, sym, ap, refl, subst, ℕ, Bool, true, false, List, [], ◌∷◌, Option, Some, None, map, cond, IsTrue}
use Rattle.std.specs.List.{filter}
use Rattle.std.specs.Option.{option_map}
use Rattle.bind_load.specs.RecordData.{FilterLevel}
use Rattle.bind_merge.specs.Facts.{Setting, Gives, IsGiven, Fact, Says, Clash, there, described, buses, on_bus, of_space, of_prop, named, type_is, required, deprecated, default, constant, choices, space, cells}
use Rattle.bind_merge.specs.Levels.{EntryData, LevelTable}
use Rattle.bind_merge.specs.Passing.{is_inherited, level_lets, lets}
use Rattle.bind_merge.specs.Joining.{JoinsLevel, inherited, only_true, passed}
use Rattle.bind_merge.specs.Ordered.{Rises, LevelRises, IsBefore, IsBeforeAll}
use Rattle.bind_merge.proofs.Joined.{left-or, right-or, or-cases, some-is}
use Rattle.bind_merge.proofs.JoinedLists.{joins-left, joins-right, joins-cases, joins-rise, given-one}

or-left : (a b : Bool) → IsTrue a → IsTrue (a || b)
or-left true b h = h
or-left false b h = absurd cc

or-right : (a b : Bool) → IsTrue b → IsTrue (a || b)
or-right true b h = refl
or-right false b h = h

or-either : (a b : Bool) → IsTrue (a || b) → IsTrue a ⊎ IsTrue b
or-either true b h = inl refl
or-either false b h = inr h

pub level-left : (a b l : LevelTable) → JoinsLevel a b l → (f : Fact) → Says a f → Says l f
level-left a b l j there h = tt
level-left a b l j described h = subst (λ x. IsTrue x) (sym j.described) (or-left a.described b.described h)
level-left a b l j (buses v) h = j.buses ∙ left-or a.buses b.buses v h
level-left a b l j (on_bus v) h = j.on_bus ∙ left-or a.on_bus b.on_bus v h
level-left a b l j (of_space s x) h = joins-left a.spaces b.spaces l.spaces j.spaces s x h
level-left a b l j (of_prop p x) h = joins-left a.props b.props l.props j.props p x h

pub level-right : (a b l : LevelTable) → JoinsLevel a b l → (f : Fact) → Says b f → Says l f
level-right a b l j there h = tt
level-right a b l j described h = subst (λ x. IsTrue x) (sym j.described) (or-right a.described b.described h)
level-right a b l j (buses v) h = j.buses ∙ right-or a.buses b.buses v j.same_buses h
level-right a b l j (on_bus v) h = j.on_bus ∙ right-or a.on_bus b.on_bus v j.same_bus h
level-right a b l j (of_space s x) h = joins-right a.spaces b.spaces l.spaces j.spaces s x h
level-right a b l j (of_prop p x) h = joins-right a.props b.props l.props j.props p x h

pub level-cases : (a b l : LevelTable) → JoinsLevel a b l → (f : Fact) → Says l f → Says a f ⊎ Says b f
level-cases a b l j there h = inl tt
level-cases a b l j described h = or-either a.described b.described (subst (λ x. IsTrue x) j.described h)
level-cases a b l j (buses v) h = or-cases a.buses b.buses v (sym j.buses ∙ h)
level-cases a b l j (on_bus v) h = or-cases a.on_bus b.on_bus v (sym j.on_bus ∙ h)
level-cases a b l j (of_space s x) h = joins-cases a.spaces b.spaces l.spaces j.spaces s x h
level-cases a b l j (of_prop p x) h = joins-cases a.props b.props l.props j.props p x h

pub level-rises : (a b l : LevelTable) → JoinsLevel a b l → LevelRises a → LevelRises b → LevelRises l
level-rises a b l j h k = (joins-rise a.spaces b.spaces l.spaces j.spaces h.0 k.0, joins-rise a.props b.props l.props j.props h.1 k.1)

-- a level whose entries rise doesn't say two values of one key
pub level-one : (l : LevelTable) → LevelRises l → (f g : Fact) → Says l f → Says l g → Clash f g → ⊥
level-one l r (buses v) (buses w) h k c = c (some-is (sym h ∙ k))
level-one l r (on_bus v) (on_bus w) h k c = c (some-is (sym h ∙ k))
level-one l r (of_space s x) (of_space t y) h k c = c.1.1 (given-one l.spaces s x y r.0 c.1.0 h (subst (λ n. IsGiven l.spaces n y) (sym c.0) k))
level-one l r (of_prop s x) (of_prop t y) h k c = c.1.1 (given-one l.props s x y r.1 c.1.0 h (subst (λ n. IsGiven l.props n y) (sym c.0) k))
level-one l r _ _ h k c = absurd c

-- ---- what an including file takes of an entry

only-some : (o : Option Bool) (b : Bool) → option_map required (only_true o) ≡ Some (required b) → (option_map required o ≡ Some (required b)) × (b ≡ true)
only-some None b e = absurd cc
only-some (Some true) true e = (refl, refl)
only-some (Some true) false e = absurd cc
only-some (Some false) b e = absurd cc

only-true : (o : Option Bool) → option_map required o ≡ Some (required true) → option_map required (only_true o) ≡ Some (required true)
only-true None e = absurd cc
only-true (Some true) e = refl
only-true (Some false) e = absurd cc

pub gives-inherited : (e : EntryData) (s : Setting) → Gives e s → is_inherited s ≡ true → Gives (inherited e) s
gives-inherited e named g h = g
gives-inherited e (type_is t) g h = g
gives-inherited e (required true) g h = only-true e.required g
gives-inherited e (required false) g h = absurd cc
gives-inherited e (deprecated b) g h = g
gives-inherited e (default v) g h = g
gives-inherited e (constant v) g h = g
gives-inherited e (choices vs) g h = g
gives-inherited e (space t) g h = g
gives-inherited e (cells ns) g h = g

pub inherited-gives : (e : EntryData) (s : Setting) → Gives (inherited e) s → Gives e s × (is_inherited s ≡ true)
inherited-gives e named g = (g, refl)
inherited-gives e (type_is t) g = (g, refl)
inherited-gives e (required b) g = only-some e.required b g
inherited-gives e (deprecated b) g = (g, refl)
inherited-gives e (default v) g = (g, refl)
inherited-gives e (constant v) g = (g, refl)
inherited-gives e (choices vs) g = (g, refl)
inherited-gives e (space t) g = (g, refl)
inherited-gives e (cells ns) g = (g, refl)

pub given-inherited : (es : List EntryData) (p : List ℕ) (s : Setting) → IsGiven es p s → is_inherited s ≡ true → IsGiven (map inherited es) p s
given-inherited [] p s g h = absurd g
given-inherited (e ∷ es) p s (inl g) h = inl (g.0, gives-inherited e s g.1 h)
given-inherited (e ∷ es) p s (inr g) h = inr (given-inherited es p s g h)

pub inherited-given : (es : List EntryData) (p : List ℕ) (s : Setting) → IsGiven (map inherited es) p s → IsGiven es p s × (is_inherited s ≡ true)
inherited-given [] p s g = absurd g
inherited-given (e ∷ es) p s (inl g) = let h : Gives e s × (is_inherited s ≡ true) = inherited-gives e s g.1 in (inl (g.0, h.0), h.1)
inherited-given (e ∷ es) p s (inr g) = let h : IsGiven es p s × (is_inherited s ≡ true) = inherited-given es p s g in (inr h.0, h.1)

-- ---- what a filter lets through

abbrev kept : (List ℕ → Bool) → List EntryData → List EntryData
kept t es = filter (λ (e : EntryData). t e.name) es

kept-here : (b : Bool) (e : EntryData) (es : List EntryData) (p : List ℕ) (s : Setting) → b ≡ true → (e.name ≡ p) × Gives e s → IsGiven (cond b (e ∷ es) es) p s
kept-here true e es p s h g = inl g
kept-here false e es p s h g = absurd cc

kept-there : (b : Bool) (e : EntryData) (es : List EntryData) (p : List ℕ) (s : Setting) → IsGiven es p s → IsGiven (cond b (e ∷ es) es) p s
kept-there true e es p s g = inr g
kept-there false e es p s g = g

kept-cases : (b : Bool) (e : EntryData) (es : List EntryData) (p : List ℕ) (s : Setting) → IsGiven (cond b (e ∷ es) es) p s → (((e.name ≡ p) × Gives e s) × (b ≡ true)) ⊎ IsGiven es p s
kept-cases true e es p s (inl g) = inl (g, refl)
kept-cases true e es p s (inr g) = inr g
kept-cases false e es p s g = inr g

pub given-kept : (t : List ℕ → Bool) (es : List EntryData) (p : List ℕ) (s : Setting) → IsGiven es p s → t p ≡ true → IsGiven (kept t es) p s
given-kept t [] p s g h = absurd g
given-kept t (e ∷ es) p s (inl g) h = kept-here (t e.name) e (kept t es) p s (ap t g.0 ∙ h) g
given-kept t (e ∷ es) p s (inr g) h = kept-there (t e.name) e (kept t es) p s (given-kept t es p s g h)

pub kept-given : (t : List ℕ → Bool) (es : List EntryData) (p : List ℕ) (s : Setting) → IsGiven (kept t es) p s → IsGiven es p s × (t p ≡ true)
kept-given t [] p s g = absurd g
kept-given t (e ∷ es) p s g =
    elim (kept-cases (t e.name) e (kept t es) p s g) [
      | inl h ↦ (inl h.0, sym (ap t h.0.0) ∙ h.1)
      | inr h ↦ (let k : IsGiven es p s × (t p ≡ true) = kept-given t es p s h in (inr k.0, k.1))
    ]

-- ---- and so for a level

and-parts : (a b : Bool) → (a && b) ≡ true → (a ≡ true) × (b ≡ true)
and-parts true b e = (refl, e)
and-parts false b e = absurd cc

and-both : (a b : Bool) → a ≡ true → b ≡ true → (a && b) ≡ true
and-both true b e f = f
and-both false b e f = absurd cc

pub passed-says : (o : Option FilterLevel) (l : LevelTable) (f : Fact) → Says l f → lets o f ≡ true → Says (passed o l) f
passed-says o l there h k = h
passed-says o l described h k = h
passed-says o l (buses v) h k = h
passed-says o l (on_bus v) h k = h
passed-says o l (of_space s x) h k = given-inherited l.spaces s x h k
passed-says o l (of_prop p x) h k =
    let e : (is_inherited x ≡ true) × (level_lets p o ≡ true) = and-parts (is_inherited x) (level_lets p o) k in
    given-inherited (kept (λ n. level_lets n o) l.props) p x (given-kept (λ n. level_lets n o) l.props p x h e.1) e.0

pub says-passed : (o : Option FilterLevel) (l : LevelTable) (f : Fact) → Says (passed o l) f → Says l f × (lets o f ≡ true)
says-passed o l there h = (h, refl)
says-passed o l described h = (h, refl)
says-passed o l (buses v) h = (h, refl)
says-passed o l (on_bus v) h = (h, refl)
says-passed o l (of_space s x) h = inherited-given l.spaces s x h
says-passed o l (of_prop p x) h =
    let e : IsGiven (kept (λ n. level_lets n o) l.props) p x × (is_inherited x ≡ true) = inherited-given (kept (λ n. level_lets n o) l.props) p x h in
    let g : IsGiven l.props p x × (level_lets p o ≡ true) = kept-given (λ n. level_lets n o) l.props p x e.0 in
    (g.0, and-both (is_inherited x) (level_lets p o) e.1 g.1)

-- entries stay in order
map-before : (a : List ℕ) (es : List EntryData) → IsBeforeAll a es → IsBeforeAll a (map inherited es)
map-before a [] h = tt
map-before a (e ∷ es) h = (h.0, map-before a es h.1)

map-rises : (es : List EntryData) → Rises es → Rises (map inherited es)
map-rises [] h = tt
map-rises (e ∷ es) h = (map-before e.name es h.0, map-rises es h.1)

cond-before : (b : Bool) (a : List ℕ) (e : EntryData) (es : List EntryData) → IsBefore a e.name → IsBeforeAll a es → IsBeforeAll a (cond b (e ∷ es) es)
cond-before true a e es h k = (h, k)
cond-before false a e es h k = k

kept-before : (t : List ℕ → Bool) (a : List ℕ) (es : List EntryData) → IsBeforeAll a es → IsBeforeAll a (kept t es)
kept-before t a [] h = tt
kept-before t a (e ∷ es) h = cond-before (t e.name) a e (kept t es) h.0 (kept-before t a es h.1)

cond-rises : (b : Bool) (e : EntryData) (es : List EntryData) → IsBeforeAll e.name es → Rises es → Rises (cond b (e ∷ es) es)
cond-rises true e es h k = (h, k)
cond-rises false e es h k = k

kept-rises : (t : List ℕ → Bool) (es : List EntryData) → Rises es → Rises (kept t es)
kept-rises t [] h = tt
kept-rises t (e ∷ es) h = cond-rises (t e.name) e (kept t es) (kept-before t e.name es h.0) (kept-rises t es h.1)

pub passed-rises : (o : Option FilterLevel) (l : LevelTable) → LevelRises l → LevelRises (passed o l)
passed-rises o l h = (map-rises l.spaces h.0, map-rises (kept (λ n. level_lets n o) l.props) (kept-rises (λ n. level_lets n o) l.props h.1))
