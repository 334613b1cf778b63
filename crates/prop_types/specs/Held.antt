-- What the view of a merged binding declares is what its file holds along its includes, filters and child-bindings.
use Rattle.std.specs.Prelude.{◌≡◌, ◌↔◌, ℕ, true, List, [], ◌∷◌, Some, IsTrue, drop, map}
use Rattle.std.specs.List.{Contains}
use Rattle.edt_base.specs.YamlData.{Value}
use Rattle.edt_base.specs.declared.bound.PropType.{PropType}
use Rattle.bind_merge.specs.Facts.{Setting, type_is, required, default, constant, choices, of_prop}
use Rattle.bind_merge.specs.Files.{FileData}
use Rattle.bind_merge.specs.Holdings.{Holds}
use Rattle.bind_merge.specs.Levels.{LevelTable}
use Rattle.bind_merge.specs.Merging.{IsMerged}
use Rattle.bind_merge.specs.Ordered.{IsBefore}
use Rattle.prop_types.specs.Declaring.{declared_in}
use Rattle.prop_types.specs.Typing.{DeclaredData}

-- file k holds a setting of a property n child-binding steps down
abbrev pub HoldsOf : List FileData → ℕ → ℕ → List ℕ → Setting → Type 0
HoldsOf files k n name s = Holds files k n (of_prop name s)

-- each setting of a declared property is the one that the file holds; it is required where the file holds
-- `required: true`
pub record IsHeld (files : List FileData) (k n : ℕ) (d : DeclaredData) : Type 0 where
  pub type_as_held : (ty : PropType) → (d.ty ≡ ty) ↔ HoldsOf files k n d.name (type_is ty)
  pub required_as_held : IsTrue d.required ↔ HoldsOf files k n d.name (required true)
  pub default_as_held : (v : Value) → (d.default ≡ Some v) ↔ HoldsOf files k n d.name (default v)
  pub constant_as_held : (v : Value) → (d.constant ≡ Some v) ↔ HoldsOf files k n d.name (constant v)
  pub choices_as_held : (vs : List Value) → (d.choices ≡ Some vs) ↔ HoldsOf files k n d.name (choices vs)

-- declared properties stand in byte order of their names, no name twice
abbrev pub IsBeforeAll : List ℕ → List DeclaredData → Type 0
IsBeforeAll name [] = Unit {0}
IsBeforeAll name (d ∷ ds) = IsBefore name d.name × IsBeforeAll name ds

abbrev pub AreInOrder : List DeclaredData → Type 0
AreInOrder [] = Unit {0}
AreInOrder (d ∷ ds) = IsBeforeAll d.name ds × AreInOrder ds

-- the declared properties are those of which the file holds a type, with the settings that it holds, in byte order
pub record AreHeld (files : List FileData) (k n : ℕ) (ds : List DeclaredData) : Type 0 where
  pub names : (name : List ℕ) → Contains (map (λ (d : DeclaredData). d.name) ds) name
      ↔ ((ty : PropType) × HoldsOf files k n name (type_is ty))
  pub settings : (d : DeclaredData) → Contains ds d → IsHeld files k n d
  pub in_order : AreInOrder ds

-- what the view declares that is n child-binding steps down in the merged binding of file k
abbrev pub DeclaredAreHeld : Type 0
DeclaredAreHeld = (files : List FileData) (k : ℕ) (levels : List LevelTable) → IsMerged files k levels
    → (n : ℕ) → AreHeld files k n (declared_in (drop n levels))
