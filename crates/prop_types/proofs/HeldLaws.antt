-- What the view of a merged binding declares is what its file holds.
use Rattle.std.proofs.Common.{◌≡◌, ◌∙◌, ◌⊎◌, ◌<◌, ◌↔◌, ℕ, zero, suc, List, [], ◌∷◌, Option, None, Some, drop, map, length, get_or, option_map, option_and_then, ap, sym, refl, subst, inl, inr, arith}
use Rattle.std.specs.List.{Contains, filter_map, cons_option}
use Rattle.std.proofs.lemmas.Option.{none-some, same_Some}
use Rattle.edt_base.specs.YamlData.{Value}
use Rattle.edt_base.specs.declared.bound.PropType.{PropType}
use Rattle.bind_merge.specs.Facts.{Setting, named, type_is, default, constant, choices}
use Rattle.bind_merge.specs.Files.{FileData}
use Rattle.bind_merge.specs.Levels.{EntryData, LevelTable}
use Rattle.bind_merge.specs.Ordered.{IsBefore, IsInOrder, Rises}
use Rattle.bind_merge.specs.Ordered as entries
use Rattle.bind_merge.specs.Showing.{Shows, ViewsShow}
use Rattle.bind_merge.specs.Telling.{HasSetting}
use Rattle.bind_merge.specs.ViewData.{names_in, prop_in, props_in}
use Rattle.prop_types.specs.Declaring.{declared_at, declared_in, with_settings}
use Rattle.prop_types.specs.Held.{AreInOrder, DeclaredAreHeld, HoldsOf, IsBeforeAll, IsHeld}
use Rattle.prop_types.specs.Typing.{DeclaredData}

-- ---- what stands in lists

abbrev IsIn : {X : Type 0} → List X → X → Type 0
IsIn [] x = ⊥
IsIn (y ∷ ys) x = (y ≡ x) ⊎ IsIn ys x

placed-in : {X : Type 0} (xs : List X) (x : X) (k : ℕ) → k < length xs → get_or xs k x ≡ x → IsIn xs x
placed-in [] x k l h = absurd (omega (arith, l))
placed-in (y ∷ ys) x zero l h = inl h
placed-in (y ∷ ys) x (suc k) l h = inr (placed-in ys x k (omega (arith, l)) h)

contains-in : {X : Type 0} (xs : List X) (x : X) → Contains xs x → IsIn xs x
contains-in xs x c = placed-in xs x c.0 c.1 c.2

in-contains : {X : Type 0} (xs : List X) (x : X) → IsIn xs x → Contains xs x
in-contains [] x h = absurd h
in-contains (y ∷ ys) x (inl h) = (zero, omega arith, h)
in-contains (y ∷ ys) x (inr h) = let c : Contains ys x = in-contains ys x h in (suc c.0, omega (arith, c.1), c.2)

in-mapped : {X Y : Type 0} (f : X → Y) (xs : List X) (y : Y) → IsIn (map f xs) y → (x : X) × (f x ≡ y) × IsIn xs x
in-mapped f [] y h = absurd h
in-mapped f (x ∷ xs) y (inl h) = (x, h, inl refl)
in-mapped {X = X} f (x ∷ xs) y (inr h) = let w : (x : X) × (f x ≡ y) × IsIn xs x = in-mapped f xs y h in (w.0, w.1, inr w.2)

mapped-in : {X Y : Type 0} (f : X → Y) (xs : List X) (x : X) → IsIn xs x → IsIn (map f xs) (f x)
mapped-in f [] x h = absurd h
mapped-in f (z ∷ zs) x (inl h) = inl (ap f h)
mapped-in f (z ∷ zs) x (inr h) = inr (mapped-in f zs x h)

in-filtered : {X Y : Type 0} (g : X → Option Y) (xs : List X) (y : Y) → IsIn (filter_map g xs) y → (x : X) × (g x ≡ Some y)
in-filtered g [] y h = absurd h
in-filtered {X = X} {Y = Y} g (x ∷ xs) y h = by (g x) refl (in-filtered g xs y) h
  where
    by : (o : Option Y) → g x ≡ o → (IsIn (filter_map g xs) y → (z : X) × (g z ≡ Some y)) → IsIn (cons_option o (filter_map g xs)) y
        → (z : X) × (g z ≡ Some y)
    by None e ih h = ih h
    by (Some z) e ih (inl h) = (x, e ∙ ap Some h)
    by (Some z) e ih (inr h) = ih h

filtered-in : {X Y : Type 0} (g : X → Option Y) (xs : List X) (x : X) (y : Y) → g x ≡ Some y → IsIn xs x → IsIn (filter_map g xs) y
filtered-in g [] x y e h = absurd h
filtered-in {Y = Y} g (z ∷ zs) x y e (inl h) = by (g z) (ap g h ∙ e)
  where
    by : (o : Option Y) → o ≡ Some y → IsIn (cons_option o (filter_map g zs)) y
    by None f = absurd (none-some y f)
    by (Some w) f = inl (same_Some w y f)
filtered-in {Y = Y} g (z ∷ zs) x y e (inr h) = by (g z) (filtered-in g zs x y e h)
  where
    by : (o : Option Y) → IsIn (filter_map g zs) y → IsIn (cons_option o (filter_map g zs)) y
    by None ih = ih
    by (Some w) ih = inr ih

-- ---- what a view declares of a name

-- a declared property has the settings of the entry that was found
record IsOf (shown : List LevelTable) (name : List ℕ) (d : DeclaredData) : Type 0 where
  entry : EntryData
  ty : PropType
  found : prop_in name shown ≡ Some entry
  typed : entry.ty ≡ Some ty
  is : with_settings name entry ty ≡ d

declared-of : (shown : List LevelTable) (name : List ℕ) (d : DeclaredData) → declared_at shown name ≡ Some d → IsOf shown name d
declared-of shown name d h = by (prop_in name shown) refl h
  where
    by : (o : Option EntryData) → prop_in name shown ≡ o → option_and_then (λ (e : EntryData). option_map (with_settings name e) e.ty) o ≡ Some d
        → IsOf shown name d
    by None f h = absurd (none-some d h)
    by (Some e) f h = typed e.ty refl h
      where
        typed : (t : Option PropType) → e.ty ≡ t → option_map (with_settings name e) t ≡ Some d → IsOf shown name d
        typed None g h = absurd (none-some d h)
        typed (Some ty) g h = record { entry = e; ty = ty; found = f; typed = g; is = same_Some (with_settings name e ty) d h }

-- a type that was found makes the property declared
abbrev IsSeenAs : List LevelTable → List ℕ → PropType → Type 0
IsSeenAs shown name ty = (e : EntryData) × (prop_in name shown ≡ Some e) × (e.ty ≡ Some ty)

untype : (o : Option PropType) (ty : PropType) → option_map type_is o ≡ Some (type_is ty) → o ≡ Some ty
untype None ty e = absurd (none-some (type_is ty) e)
untype (Some t) ty e = let x : t ≡ ty = cc in ap Some x

seen-as : (shown : List LevelTable) (name : List ℕ) (ty : PropType) → HasSetting (prop_in name shown) (type_is ty) → IsSeenAs shown name ty
seen-as shown name ty h = by (prop_in name shown) refl h
  where
    by : (o : Option EntryData) → prop_in name shown ≡ o → HasSetting o (type_is ty) → IsSeenAs shown name ty
    by None f h = absurd h
    by (Some e) f h = (e, f, untype e.ty ty h)

seen-declared : (shown : List LevelTable) (name : List ℕ) (ty : PropType) (s : IsSeenAs shown name ty) → declared_at shown name ≡ Some (with_settings name s.0 ty)
seen-declared shown name ty s =
    ap (option_and_then (λ (e : EntryData). option_map (with_settings name e) e.ty)) s.1 ∙ ap (option_map (with_settings name s.0)) s.2

-- ---- settings

gives-default : (o : Option Value) (v : Value) → option_map default o ≡ Some (default v) → o ≡ Some v
gives-default None v e = absurd (none-some (default v) e)
gives-default (Some w) v e = let x : w ≡ v = cc in ap Some x

gives-constant : (o : Option Value) (v : Value) → option_map constant o ≡ Some (constant v) → o ≡ Some v
gives-constant None v e = absurd (none-some (constant v) e)
gives-constant (Some w) v e = let x : w ≡ v = cc in ap Some x

gives-choices : (o : Option (List Value)) (vs : List Value) → option_map choices o ≡ Some (choices vs) → o ≡ Some vs
gives-choices None vs e = absurd (none-some (choices vs) e)
gives-choices (Some w) vs e = let x : w ≡ vs = cc in ap Some x

module _ (files : List FileData) (k n : ℕ) (shown : List LevelTable) (s : Shows files k n shown) where
  -- a setting of the entry that was found is one that is held
  of-entry : (name : List ℕ) (e : EntryData) (x : Setting) → prop_in name shown ≡ Some e → HasSetting (Some e) x ↔ HoldsOf files k n name x
  of-entry name e x f = (
    λ h. (s.prop name x).0 (subst (λ o. HasSetting o x) (sym f) h),
    λ h. subst (λ o. HasSetting o x) f ((s.prop name x).1 h),
  )

  held-entry : (name : List ℕ) (e : EntryData) (ty : PropType) → prop_in name shown ≡ Some e → e.ty ≡ Some ty → IsHeld files k n (with_settings name e ty)
  held-entry name e ty f t = record {
    type_as_held = λ u. (
      λ h. (of-entry name e (type_is u) f).0 (ap (option_map type_is) (t ∙ ap Some h)),
      λ h. same_Some ty u (sym t ∙ untype e.ty u ((of-entry name e (type_is u) f).1 h)),
    );
    required_as_held = s.is_required name e f;
    default_as_held = λ v. (
      λ h. (of-entry name e (default v) f).0 (ap (option_map default) h),
      λ h. gives-default e.default v ((of-entry name e (default v) f).1 h),
    );
    constant_as_held = λ v. (
      λ h. (of-entry name e (constant v) f).0 (ap (option_map constant) h),
      λ h. gives-constant e.constant v ((of-entry name e (constant v) f).1 h),
    );
    choices_as_held = λ vs. (
      λ h. (of-entry name e (choices vs) f).0 (ap (option_map choices) h),
      λ h. gives-choices e.choices vs ((of-entry name e (choices vs) f).1 h),
    );
  }

  held-declared : (name : List ℕ) (d : DeclaredData) → IsOf shown name d → IsHeld files k n d
  held-declared name d w = subst (IsHeld files k n) w.is (held-entry name w.entry w.ty w.found w.typed)

  held-one : (d : DeclaredData) → IsIn (declared_in shown) d → IsHeld files k n d
  held-one d h =
      let w : (name : List ℕ) × (declared_at shown name ≡ Some d) = in-filtered (declared_at shown) (names_in shown) d h in
      held-declared w.0 d (declared-of shown w.0 d w.1)

  type-of : (d : DeclaredData) → IsIn (declared_in shown) d → HoldsOf files k n d.name (type_is d.ty)
  type-of d h = ((held-one d h).type_as_held d.ty).0 refl

  name-held : (name : List ℕ) → IsIn (map (λ (d : DeclaredData). d.name) (declared_in shown)) name → (ty : PropType) × HoldsOf files k n name (type_is ty)
  name-held name h =
      let w : (d : DeclaredData) × (d.name ≡ name) × IsIn (declared_in shown) d = in-mapped (λ (d : DeclaredData). d.name) (declared_in shown) name h in
      (w.0.ty, subst (λ p. HoldsOf files k n p (type_is w.0.ty)) w.1 (type-of w.0 w.2))

  held-name : (name : List ℕ) (ty : PropType) → HoldsOf files k n name (type_is ty) → IsIn (map (λ (d : DeclaredData). d.name) (declared_in shown)) name
  held-name name ty h =
      let seen : IsSeenAs shown name ty = seen-as shown name ty ((s.prop name (type_is ty)).1 h) in
      let there : Contains (names_in shown) name = (s.names name).1 ((of-entry name seen.0 named seen.1).0 refl) in
      mapped-in (λ (d : DeclaredData). d.name) (declared_in shown) (with_settings name seen.0 ty)
      (filtered-in (declared_at shown) (names_in shown) name (with_settings name seen.0 ty) (seen-declared shown name ty seen)
      (contains-in (names_in shown) name there))

-- ---- the order

abbrev names-of : List EntryData → List (List ℕ)
names-of es = map (λ (e : EntryData). e.name) es

-- a function that gives a name only a property of that name
abbrev KeepsNames : (List ℕ → Option DeclaredData) → Type 0
KeepsNames g = (name : List ℕ) (d : DeclaredData) → g name ≡ Some d → d.name ≡ name

before-all : (g : List ℕ → Option DeclaredData) → KeepsNames g → (a : List ℕ) (es : List EntryData) → entries.IsBeforeAll a es
    → IsBeforeAll a (filter_map g (names-of es))
before-all g keeps a [] b = tt
before-all g keeps a (e ∷ es) b = by (g e.name) refl (before-all g keeps a es b.1)
  where
    by : (o : Option DeclaredData) → g e.name ≡ o → IsBeforeAll a (filter_map g (names-of es))
        → IsBeforeAll a (cons_option o (filter_map g (names-of es)))
    by None f ih = ih
    by (Some d) f ih = (subst (IsBefore a) (sym (keeps e.name d f)) b.0, ih)

in-order : (g : List ℕ → Option DeclaredData) → KeepsNames g → (es : List EntryData) → Rises es → AreInOrder (filter_map g (names-of es))
in-order g keeps [] r = tt
in-order g keeps (e ∷ es) r = by (g e.name) refl (in-order g keeps es r.1)
  where
    by : (o : Option DeclaredData) → g e.name ≡ o → AreInOrder (filter_map g (names-of es)) → AreInOrder (cons_option o (filter_map g (names-of es)))
    by None f ih = ih
    by (Some d) f ih =
        (subst (λ a. IsBeforeAll a (filter_map g (names-of es))) (sym (keeps e.name d f)) (before-all g keeps e.name es r.0), ih)

order-below : (levels : List LevelTable) (n : ℕ) → IsInOrder levels → IsInOrder (drop n levels)
order-below levels zero o = o
order-below [] (suc n) o = tt
order-below (l ∷ ls) (suc n) o = order-below ls n o.1

top-order : (levels : List LevelTable) → IsInOrder levels → Rises (props_in levels)
top-order [] o = tt
top-order (l ∷ ls) o = o.0.1

same-name : (shown : List LevelTable) (name : List ℕ) (d : DeclaredData) → IsOf shown name d → d.name ≡ name
same-name shown name d w = ap (λ (x : DeclaredData). x.name) (sym w.is)

declared-order : (shown : List LevelTable) → IsInOrder shown → AreInOrder (declared_in shown)
declared-order shown o =
    in-order (declared_at shown) (λ name d h. same-name shown name d (declared-of shown name d h)) (props_in shown) (top-order shown o)

pub declared_held : ViewsShow → DeclaredAreHeld
declared_held views files k levels m n =
    let shown : List LevelTable = drop n levels in
    let s : Shows files k n shown = (views files k levels m n).0 in
    record {
      names = λ name. (
        λ c. name-held files k n shown s name (contains-in (map (λ (d : DeclaredData). d.name) (declared_in shown)) name c),
        λ h. in-contains (map (λ (d : DeclaredData). d.name) (declared_in shown)) name (held-name files k n shown s name h.0 h.1),
      );
      settings = λ d c. held-one files k n shown s d (contains-in (declared_in shown) d c);
      in_order = declared-order shown (order-below levels n m.in_order);
    }
