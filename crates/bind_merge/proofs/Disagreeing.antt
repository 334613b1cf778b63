-- Where the values of one setting differ, entries disagree.
use Rattle.std.proofs.Common.{◌≡◌, ◌↔◌, IsTrue, refl, Bool, true, false}
use Rattle.bind_merge.specs.Facts.{its_type, its_required, its_deprecated, its_default, its_constant, its_choices, its_space, its_cells, type_is, required, deprecated, default, constant, choices, space, cells}
use Rattle.bind_merge.specs.Levels.{EntryData}
use Rattle.bind_merge.specs.Joining.{AgreeOn, Disagree}
use Rattle.bind_merge.proofs.Joined.{differ-at}

pub not-so : {P : Type 0} (r : Bool) → (IsTrue r ↔ P) → r ≡ false → P → ⊥
not-so r h e p = let t : r ≡ true = h.1 p in absurd cc

pub ty_differs : (a b : EntryData) (r : Bool) → (IsTrue r ↔ AgreeOn a.ty b.ty) → r ≡ false → Disagree a b
ty_differs a b r h e = differ-at type_is (λ x y p. cc) its_type (λ x. refl) a b a.ty b.ty refl refl (not-so r h e)

pub required_differs : (a b : EntryData) (r : Bool) → (IsTrue r ↔ AgreeOn a.required b.required) → r ≡ false → Disagree a b
required_differs a b r h e = differ-at required (λ x y p. cc) its_required (λ x. refl) a b a.required b.required refl refl (not-so r h e)

pub deprecated_differs : (a b : EntryData) (r : Bool) → (IsTrue r ↔ AgreeOn a.deprecated b.deprecated) → r ≡ false → Disagree a b
deprecated_differs a b r h e = differ-at deprecated (λ x y p. cc) its_deprecated (λ x. refl) a b a.deprecated b.deprecated refl refl (not-so r h e)

pub default_differs : (a b : EntryData) (r : Bool) → (IsTrue r ↔ AgreeOn a.default b.default) → r ≡ false → Disagree a b
default_differs a b r h e = differ-at default (λ x y p. cc) its_default (λ x. refl) a b a.default b.default refl refl (not-so r h e)

pub constant_differs : (a b : EntryData) (r : Bool) → (IsTrue r ↔ AgreeOn a.constant b.constant) → r ≡ false → Disagree a b
constant_differs a b r h e = differ-at constant (λ x y p. cc) its_constant (λ x. refl) a b a.constant b.constant refl refl (not-so r h e)

pub choices_differ : (a b : EntryData) (r : Bool) → (IsTrue r ↔ AgreeOn a.choices b.choices) → r ≡ false → Disagree a b
choices_differ a b r h e = differ-at choices (λ x y p. cc) its_choices (λ x. refl) a b a.choices b.choices refl refl (not-so r h e)

pub space_differs : (a b : EntryData) (r : Bool) → (IsTrue r ↔ AgreeOn a.space b.space) → r ≡ false → Disagree a b
space_differs a b r h e = differ-at space (λ x y p. cc) its_space (λ x. refl) a b a.space b.space refl refl (not-so r h e)

pub cells_differ : (a b : EntryData) (r : Bool) → (IsTrue r ↔ AgreeOn a.cells b.cells) → r ≡ false → Disagree a b
cells_differ a b r h e = differ-at cells (λ x y p. cc) its_cells (λ x. refl) a b a.cells b.cells refl refl (not-so r h e)

pub ruleset differs = (ty_differs, required_differs, deprecated_differs, default_differs, constant_differs, choices_differ, space_differs, cells_differ)
