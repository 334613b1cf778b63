-- What the settings of two entries make, joined.
use Rattle.std.proofs.Common.{◌≡◌, ◌⊎◌, inl, inr, ◌∙◌, sym, ap, refl, Option, Some, None}
use Rattle.std.specs.Option.{option_map}
use Rattle.bind_merge.specs.Facts.{Setting, Kind, its_name, its_type, its_required, its_deprecated, its_default, its_constant, its_choices, its_space, its_cells, type_is, required, deprecated, default, constant, choices, space, cells, kind, setting_at, Gives}
use Rattle.bind_merge.specs.Levels.{EntryData}
use Rattle.bind_merge.specs.Options.{or_else}
use Rattle.bind_merge.specs.Joining.{AgreeOn, Agree, Disagree, joined}

pub some-is : {A : Type 0} {x y : A} → Some x ≡ Some y → x ≡ y
some-is e = cc

map-or : {A B : Type 0} (f : A → B) (x y : Option A) → option_map f (or_else x y) ≡ or_else (option_map f x) (option_map f y)
map-or f None y = refl
map-or f (Some x) y = refl

map-agree : {A B : Type 0} (f : A → B) (x y : Option A) → AgreeOn x y → AgreeOn (option_map f x) (option_map f y)
map-agree f None y h = tt
map-agree f (Some x) None h = tt
map-agree f (Some x) (Some y) h = ap f h

pub setting-joined : (k : Kind) (a b : EntryData) → setting_at k (joined a b) ≡ or_else (setting_at k a) (setting_at k b)
setting-joined its_name a b = refl
setting-joined its_type a b = map-or type_is a.ty b.ty
setting-joined its_required a b = map-or required a.required b.required
setting-joined its_deprecated a b = map-or deprecated a.deprecated b.deprecated
setting-joined its_default a b = map-or default a.default b.default
setting-joined its_constant a b = map-or constant a.constant b.constant
setting-joined its_choices a b = map-or choices a.choices b.choices
setting-joined its_space a b = map-or space a.space b.space
setting-joined its_cells a b = map-or cells a.cells b.cells

agree-at : (k : Kind) (a b : EntryData) → Agree a b → AgreeOn (setting_at k a) (setting_at k b)
agree-at its_name a b h = refl
agree-at its_type a b h = map-agree type_is a.ty b.ty h.ty
agree-at its_required a b h = map-agree required a.required b.required h.required
agree-at its_deprecated a b h = map-agree deprecated a.deprecated b.deprecated h.deprecated
agree-at its_default a b h = map-agree default a.default b.default h.default
agree-at its_constant a b h = map-agree constant a.constant b.constant h.constant
agree-at its_choices a b h = map-agree choices a.choices b.choices h.choices
agree-at its_space a b h = map-agree space a.space b.space h.space
agree-at its_cells a b h = map-agree cells a.cells b.cells h.cells

pub left-or : {A : Type 0} (x y : Option A) (s : A) → x ≡ Some s → or_else x y ≡ Some s
left-or x y s e = rw e refl

pub right-or : {A : Type 0} (x y : Option A) (s : A) → AgreeOn x y → y ≡ Some s → or_else x y ≡ Some s
right-or None y s h e = e
right-or (Some t) (Some u) s h e = ap Some h ∙ e
right-or (Some t) None s h e = absurd cc

pub or-cases : {A : Type 0} (x y : Option A) (s : A) → or_else x y ≡ Some s → (x ≡ Some s) ⊎ (y ≡ Some s)
or-cases None y s e = inr e
or-cases (Some t) y s e = inl e

pub gives-left : (a b : EntryData) (s : Setting) → Gives a s → Gives (joined a b) s
gives-left a b s h = setting-joined (kind s) a b ∙ left-or _ _ s h

pub gives-right : (a b : EntryData) (s : Setting) → Agree a b → Gives b s → Gives (joined a b) s
gives-right a b s h g = setting-joined (kind s) a b ∙ right-or _ _ s (agree-at (kind s) a b h) g

pub gives-cases : (a b : EntryData) (s : Setting) → Gives (joined a b) s → Gives a s ⊎ Gives b s
gives-cases a b s h = or-cases _ _ s (sym (setting-joined (kind s) a b) ∙ h)

-- an entry has one value of a setting
pub gives-one : (a : EntryData) (s t : Setting) → kind s ≡ kind t → Gives a s → Gives a t → s ≡ t
gives-one a s t e g h = some-is (sym g ∙ ap (λ k. setting_at k a) e ∙ h)

-- where the values of one setting differ, the entries disagree
pub differ-at : {A : Type 0} (c : A → Setting) → ((x y : A) → c x ≡ c y → x ≡ y) → (k : Kind) → ((x : A) → kind (c x) ≡ k)
    → (a b : EntryData) (x y : Option A) → setting_at k a ≡ option_map c x → setting_at k b ≡ option_map c y → (AgreeOn x y → ⊥) → Disagree a b
differ-at c inj k is a b None y ga gb h = absurd (h tt)
differ-at c inj k is a b (Some x) None ga gb h = absurd (h tt)
differ-at c inj k is a b (Some x) (Some y) ga gb h = record {
  one = c x;
  other = c y;
  gives_one = ap (λ j. setting_at j a) (is x) ∙ ga;
  gives_other = ap (λ j. setting_at j b) (is y) ∙ gb;
  differ = (is x ∙ sym (is y), λ e. h (inj x y e));
}

-- a test of agreement, field by field
agree-test : {A : Type 0} (x y : Option A) → ((u v : A) → (u ≡ v) ⊎ (u ≡ v → ⊥)) → AgreeOn x y ⊎ (AgreeOn x y → ⊥)
agree-test None y d = inl tt
agree-test (Some x) None d = inl tt
agree-test (Some x) (Some y) d = d x y
