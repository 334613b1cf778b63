-- The single facts that a binding can hold at a level, each a key or a setting with its value, and
-- when two of them are two values of one key.
use Rattle.std.specs.Prelude.{◌≡◌, ◌≢◌, ◌⊎◌, ℕ, Bool, List, [], ◌∷◌, Option, Some, IsTrue}
use Rattle.std.specs.Option.{option_map}
use Rattle.edt_base.specs.YamlData.{Value}
use Rattle.edt_base.specs.declared.bound.PropType.{PropType}
use Rattle.bind_merge.specs.Levels.{EntryData, LevelTable}

-- a setting of a property with its value, or the names of a space's cells; `named`: it is there
pub data Setting : Type 0 where
  named : Setting
  type_is : PropType → Setting
  required : Bool → Setting
  deprecated : Bool → Setting
  default : Value → Setting
  constant : Value → Setting
  choices : List Value → Setting
  space : List ℕ → Setting
  cells : List (List ℕ) → Setting

-- the key of a setting
pub data Kind : Type 0 where
  its_name : Kind
  its_type : Kind
  its_required : Kind
  its_deprecated : Kind
  its_default : Kind
  its_constant : Kind
  its_choices : Kind
  its_space : Kind
  its_cells : Kind

abbrev pub kind : Setting → Kind
kind named = its_name
kind (type_is t) = its_type
kind (required b) = its_required
kind (deprecated b) = its_deprecated
kind (default v) = its_default
kind (constant v) = its_constant
kind (choices vs) = its_choices
kind (space s) = its_space
kind (cells ns) = its_cells

-- the setting of a key that an entry has
abbrev pub setting_at : Kind → EntryData → Option Setting
setting_at its_name e = Some named
setting_at its_type e = option_map type_is e.ty
setting_at its_required e = option_map required e.required
setting_at its_deprecated e = option_map deprecated e.deprecated
setting_at its_default e = option_map default e.default
setting_at its_constant e = option_map constant e.constant
setting_at its_choices e = option_map choices e.choices
setting_at its_space e = option_map space e.space
setting_at its_cells e = option_map cells e.cells

-- an entry has this setting
abbrev pub Gives : EntryData → Setting → Type 0
Gives e s = setting_at (kind s) e ≡ Some s

-- one of the entries has this name and this setting
abbrev pub IsGiven : List EntryData → List ℕ → Setting → Type 0
IsGiven [] p s = ⊥
IsGiven (e ∷ es) p s = ((e.name ≡ p) × Gives e s) ⊎ IsGiven es p s

-- a fact at a level: that the level is there, that it has a description, its buses, its bus, a
-- setting of the space of this name, a setting of the property of this name
pub data Fact : Type 0 where
  there : Fact
  described : Fact
  buses : List (List ℕ) → Fact
  on_bus : List ℕ → Fact
  of_space : List ℕ → Setting → Fact
  of_prop : List ℕ → Setting → Fact

-- a level says this
abbrev pub Says : LevelTable → Fact → Type 0
Says l there = Unit {0}
Says l described = IsTrue l.described
Says l (buses names) = l.buses ≡ Some names
Says l (on_bus name) = l.on_bus ≡ Some name
Says l (of_space s x) = IsGiven l.spaces s x
Says l (of_prop p x) = IsGiven l.props p x

-- two values of one key
abbrev pub Differ : Setting → Setting → Type 0
Differ x y = (kind x ≡ kind y) × (x ≢ y)

abbrev pub Clash : Fact → Fact → Type 0
Clash (buses v) (buses w) = v ≢ w
Clash (on_bus v) (on_bus w) = v ≢ w
Clash (of_space s x) (of_space t y) = (s ≡ t) × Differ x y
Clash (of_prop p x) (of_prop q y) = (p ≡ q) × Differ x y
Clash _ _ = ⊥
