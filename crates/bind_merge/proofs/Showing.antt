-- What the views of a merged binding show is what the file holds.
use Rattle.std.proofs.Common.{◌≡◌, ◌+◌, ◌<◌, sym, ap, refl, subst, inl, inr, ℕ, zero, suc, Bool, true, false, List, [], ◌∷◌, Option, Some, None, IsTrue, drop, map, length, get_or, arith}
use Rattle.std.specs.Prelude.{IsSome}
use Rattle.std.specs.List.{Contains}
use Rattle.std.specs.Option.{option_map, option_and_then}
use Rattle.bind_merge.specs.Checks.{is_yes}
use Rattle.bind_merge.specs.Facts.{Setting, Fact, IsGiven, named, required, cells, there, buses, on_bus, of_space, of_prop}
use Rattle.bind_merge.specs.Files.{FileData}
use Rattle.bind_merge.specs.Holdings.{Holds}
use Rattle.bind_merge.specs.Levels.{EntryData, LevelTable}
use Rattle.bind_merge.specs.Looking.{entry_named}
use Rattle.bind_merge.specs.Merging.{IsMerged}
use Rattle.bind_merge.specs.Ordered.{IsInOrder, SaysAt}
use Rattle.bind_merge.specs.Showing.{Shows, ViewsShow}
use Rattle.bind_merge.specs.Telling.{HasSetting, Tells}
use Rattle.bind_merge.specs.ViewData.{props_in, child_in, spaces_in}
use Rattle.bind_merge.proofs.Telling.{views_tell}

-- ---- the levels from one on

said-below : (levels : List LevelTable) (n : ℕ) (f : Fact) → SaysAt levels n f → SaysAt (drop n levels) zero f
said-below [] n f s = absurd s
said-below (l ∷ ls) zero f s = s
said-below (l ∷ ls) (suc n) f s = said-below ls n f s

below-said : (levels : List LevelTable) (n : ℕ) (f : Fact) → SaysAt (drop n levels) zero f → SaysAt levels n f
below-said [] zero f s = absurd s
below-said [] (suc n) f s = absurd s
below-said (l ∷ ls) zero f s = s
below-said (l ∷ ls) (suc n) f s = below-said ls n f s

order-below : (levels : List LevelTable) (n : ℕ) → IsInOrder levels → IsInOrder (drop n levels)
order-below levels zero o = o
order-below [] (suc n) o = tt
order-below (l ∷ ls) (suc n) o = order-below ls n o.1

said-child : (levels : List LevelTable) (n : ℕ) (f : Fact) → SaysAt levels (suc n) f → SaysAt (drop n levels) (suc zero) f
said-child [] n f s = absurd s
said-child (l ∷ ls) zero f s = s
said-child (l ∷ ls) (suc n) f s = said-child ls n f s

child-said : (levels : List LevelTable) (n : ℕ) (f : Fact) → SaysAt (drop n levels) (suc zero) f → SaysAt levels (suc n) f
child-said [] zero f s = absurd s
child-said [] (suc n) f s = absurd s
child-said (l ∷ ls) zero f s = s
child-said (l ∷ ls) (suc n) f s = child-said ls n f s

child-is : (levels : List LevelTable) (n : ℕ) (shown : List LevelTable) → child_in (drop n levels) ≡ Some shown → shown ≡ drop (suc n) levels
child-is [] zero shown e = absurd cc
child-is [] (suc n) shown e = absurd cc
child-is (l ∷ []) zero shown e = absurd cc
child-is (l ∷ m ∷ ls) zero shown e = cc
child-is (l ∷ ls) (suc n) shown e = child-is ls n shown e

-- ---- what a level shows

abbrev names : List EntryData → List (List ℕ)
names es = map (λ (e : EntryData). e.name) es

given-named : (p : List ℕ) (es : List EntryData) → IsGiven es p named → Contains (names es) p
given-named p [] g = absurd g
given-named p (e ∷ es) (inl g) = (zero, omega arith, g.0)
given-named p (e ∷ es) (inr g) = let c : Contains (names es) p = given-named p es g in (suc c.0, omega (arith, c.1), c.2)

named-given : (p : List ℕ) (es : List EntryData) (k : ℕ) → k < length (names es) → get_or (names es) k p ≡ p → IsGiven es p named
named-given p [] k l h = absurd (omega arith)
named-given p (e ∷ es) zero l h = inl (h, refl)
named-given p (e ∷ es) (suc k) l h = inr (named-given p es k (omega arith) h)

prop-given : (shown : List LevelTable) (p : List ℕ) (s : Setting) → SaysAt shown zero (of_prop p s) → IsGiven (props_in shown) p s
prop-given [] p s h = h
prop-given (l ∷ ls) p s h = h

given-prop : (shown : List LevelTable) (p : List ℕ) (s : Setting) → IsGiven (props_in shown) p s → SaysAt shown zero (of_prop p s)
given-prop [] p s h = h
given-prop (l ∷ ls) p s h = h

yes-gives : (o : Option Bool) → IsTrue (is_yes o) → option_map required o ≡ Some (required true)
yes-gives None t = absurd (let x : false ≡ true = t in cc)
yes-gives (Some b) t = ap (λ x. Some (required x)) t

gives-yes : (o : Option Bool) → option_map required o ≡ Some (required true) → IsTrue (is_yes o)
gives-yes None e = absurd cc
gives-yes (Some b) e = let x : b ≡ true = cc in x

uncells : (o : Option (List (List ℕ))) (v : List (List ℕ)) → option_map cells o ≡ Some (cells v) → o ≡ Some v
uncells None v e = absurd cc
uncells (Some w) v e = let x : w ≡ v = cc in ap Some x

cells-found : (o : Option EntryData) (v : List (List ℕ)) → option_and_then (λ (e : EntryData). e.cells) o ≡ Some v → HasSetting o (cells v)
cells-found None v e = absurd cc
cells-found (Some z) v e = ap (option_map cells) e

found-cells : (o : Option EntryData) (v : List (List ℕ)) → HasSetting o (cells v) → option_and_then (λ (e : EntryData). e.cells) o ≡ Some v
found-cells None v h = absurd h
found-cells (Some z) v h = uncells z.cells v h

child-there : (shown : List LevelTable) → IsSome (child_in shown) → SaysAt shown (suc zero) there
child-there [] h = absurd (let x : false ≡ true = h in cc)
child-there (l ∷ []) h = absurd (let x : false ≡ true = h in cc)
child-there (l ∷ m ∷ ls) h = tt

there-child : (shown : List LevelTable) → SaysAt shown (suc zero) there → IsSome (child_in shown)
there-child [] h = absurd h
there-child (l ∷ []) h = absurd h
there-child (l ∷ m ∷ ls) h = refl

plus-one : (n : ℕ) → suc n ≡ n + 1
plus-one n = omega arith

module _ (files : List FileData) (k : ℕ) (levels : List LevelTable) (m : IsMerged files k levels) (n : ℕ) where
  tells : Tells (drop n levels)
  tells = views_tell (drop n levels) (order-below levels n m.in_order)

  holds : (f : Fact) → SaysAt (drop n levels) zero f → Holds files k n f
  holds f s = m.held n f (below-said levels n f s)

  held : (f : Fact) → Holds files k n f → SaysAt (drop n levels) zero f
  held f h = said-below levels n f (m.all n f h)

  shows : Shows files k n (drop n levels)
  shows = record {
    names = λ p. (
      λ c. holds (of_prop p named) (given-prop (drop n levels) p named (named-given p (props_in (drop n levels)) c.0 c.1 c.2)),
      λ h. given-named p (props_in (drop n levels)) (prop-given (drop n levels) p named (held (of_prop p named) h)),
    );
    prop = λ p s. (
      λ c. holds (of_prop p s) ((tells.prop p s).1 c),
      λ h. (tells.prop p s).0 (held (of_prop p s) h),
    );
    is_required = λ p e is. (
      λ y. holds (of_prop p (required true)) ((tells.prop p (required true)).1
          (subst (λ o. HasSetting o (required true)) (sym is) (yes-gives e.required y))),
      λ h. gives-yes e.required
          (subst (λ o. HasSetting o (required true)) is ((tells.prop p (required true)).0 (held (of_prop p (required true)) h))),
    );
    cells_are = λ s v. (
      λ c. holds (of_space s (cells v)) ((tells.space s (cells v)).1 (cells-found (entry_named s (spaces_in (drop n levels))) v c)),
      λ h. found-cells (entry_named s (spaces_in (drop n levels))) v ((tells.space s (cells v)).0 (held (of_space s (cells v)) h)),
    );
    buses_are = λ v. (λ c. holds (buses v) ((tells.buses_are v).1 c), λ h. (tells.buses_are v).0 (held (buses v) h));
    bus_is = λ v. (λ c. holds (on_bus v) ((tells.bus_is v).1 c), λ h. (tells.bus_is v).0 (held (on_bus v) h));
    has_child = (
      λ c. subst (λ j. Holds files k j there) (plus-one n) (m.held (suc n) there (child-said levels n there (child-there (drop n levels) c))),
      λ h. there-child (drop n levels) (said-child levels n there (m.all (suc n) there (subst (λ j. Holds files k j there) (sym (plus-one n)) h))),
    );
  }

pub views_show : ViewsShow
views_show files k levels m n = (
  shows files k levels m n,
  λ s e. subst (λ j. s ≡ drop j levels) (plus-one n) (child-is levels n s e),
)
