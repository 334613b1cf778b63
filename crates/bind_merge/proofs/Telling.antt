-- What a view tells is what the merged levels say.
use Rattle.std.proofs.Common.{◌≡◌, ◌↔◌, sym, refl, subst, ℕ, suc, List, [], ◌∷◌, Option, Some, None}
use Rattle.bind_merge.specs.Facts.{Setting, Fact, Gives, IsGiven}
use Rattle.bind_merge.specs.Levels.{EntryData, LevelTable}
use Rattle.bind_merge.specs.Looking.{entry_named}
use Rattle.bind_merge.specs.Ordered.{Rises, SaysAt}
use Rattle.bind_merge.specs.ViewData.{child_in}
use Rattle.bind_merge.specs.Telling.{HasSetting, SaysBelow, ViewsTell}
use Rattle.bind_merge.proofs.Looked.{found-given, given-found}

has-given : (p : List ℕ) (es : List EntryData) (s : Setting) (o : Option EntryData) → entry_named p es ≡ o → HasSetting o s → IsGiven es p s
has-given p es s None e h = absurd h
has-given p es s (Some z) e h = found-given p es z s e h

given-has : (p : List ℕ) (es : List EntryData) (s : Setting) → Rises es → IsGiven es p s → HasSetting (entry_named p es) s
given-has p es s r g =
    let f : (z : EntryData) × (entry_named p es ≡ Some z) × Gives z s = given-found p es s r g in
    subst (λ o. HasSetting o s) (sym f.1) f.2

entry-tells : (p : List ℕ) (es : List EntryData) (s : Setting) → Rises es → IsGiven es p s ↔ HasSetting (entry_named p es) s
entry-tells p es s r = (given-has p es s r, has-given p es s (entry_named p es) refl)

none-some : {A : Type 0} (v : A) → None ≡ Some v → ⊥
none-some v e = absurd cc

child-tells : (levels : List LevelTable) (n : ℕ) (f : Fact) → SaysAt levels (suc n) f ↔ SaysBelow (child_in levels) n f
child-tells [] n f = (λ h. h, λ h. h)
child-tells (l ∷ []) n f = (λ h. h, λ h. h)
child-tells (l ∷ m ∷ ls) n f = (λ h. h, λ h. h)

pub views_tell : ViewsTell
views_tell [] o = record {
  prop = λ p s. (λ h. h, λ h. h);
  space = λ p s. (λ h. h, λ h. h);
  buses_are = λ v. (λ h. absurd h, λ h. none-some v h);
  bus_is = λ v. (λ h. absurd h, λ h. none-some v h);
  child = child-tells [];
}
views_tell (l ∷ ls) o = record {
  prop = λ p s. entry-tells p l.props s o.0.1;
  space = λ p s. entry-tells p l.spaces s o.0.0;
  buses_are = λ v. (λ h. h, λ h. h);
  bus_is = λ v. (λ h. h, λ h. h);
  child = child-tells (l ∷ ls);
}
