-- How what two levels say becomes what one level says.
use Rattle.std.specs.Prelude.{◌≡◌, ◌||◌, ℕ, Bool, true, List, [], ◌∷◌, Option, Some, None, cond, map}
use Rattle.std.specs.List.{filter}
use Rattle.std.specs.Cmp.Lexicographic.{slice_cmp}
use Rattle.std.specs.Ordering.{nat_cmp}
use Rattle.std.specs.declared.cmp.Ordering.TheVariants.{Less, Equal, Greater}
use Rattle.bind_load.specs.RecordData.{FilterLevel}
use Rattle.bind_merge.specs.Facts.{Setting, Fact, Gives, Says, Differ, Clash, IsGiven}
use Rattle.bind_merge.specs.Levels.{EntryData, LevelTable}
use Rattle.bind_merge.specs.Passing.{level_lets}
use Rattle.bind_merge.specs.Options.{or_else}

-- where both are there they are the same
abbrev pub AgreeOn : {A : Type 0} → Option A → Option A → Type 0
AgreeOn (Some x) (Some y) = x ≡ y
AgreeOn _ _ = Unit {0}

-- no setting has two values
pub record Agree (a b : EntryData) : Type 0 where
  pub ty : AgreeOn a.ty b.ty
  pub required : AgreeOn a.required b.required
  pub deprecated : AgreeOn a.deprecated b.deprecated
  pub default : AgreeOn a.default b.default
  pub constant : AgreeOn a.constant b.constant
  pub choices : AgreeOn a.choices b.choices
  pub space : AgreeOn a.space b.space
  pub cells : AgreeOn a.cells b.cells

-- some setting has two values
pub record Disagree (a b : EntryData) : Type 0 where
  pub one : Setting
  pub other : Setting
  pub gives_one : Gives a one
  pub gives_other : Gives b other
  pub differ : Differ one other

-- the settings of both
abbrev pub joined : EntryData → EntryData → EntryData
joined a b = record {
  name = a.name;
  ty = or_else a.ty b.ty;
  required = or_else a.required b.required;
  deprecated = or_else a.deprecated b.deprecated;
  default = or_else a.default b.default;
  constant = or_else a.constant b.constant;
  choices = or_else a.choices b.choices;
  space = or_else a.space b.space;
  cells = or_else a.cells b.cells;
}

-- two lists in byte order become one: entries of one name, which agree, are joined
pub data Joins : List EntryData → List EntryData → List EntryData → Type 0 where
  none_left : (ys : List EntryData) → Joins [] ys ys
  none_right : (xs : List EntryData) → Joins xs [] xs
  left_first : (x : EntryData) (xs : List EntryData) (y : EntryData) (ys zs : List EntryData)
      → slice_cmp nat_cmp x.name y.name ≡ Less → Joins xs (y ∷ ys) zs → Joins (x ∷ xs) (y ∷ ys) (x ∷ zs)
  right_first : (x : EntryData) (xs : List EntryData) (y : EntryData) (ys zs : List EntryData)
      → slice_cmp nat_cmp x.name y.name ≡ Greater → Joins (x ∷ xs) ys zs → Joins (x ∷ xs) (y ∷ ys) (y ∷ zs)
  together : (x : EntryData) (xs : List EntryData) (y : EntryData) (ys zs : List EntryData)
      → slice_cmp nat_cmp x.name y.name ≡ Equal → Agree x y → Joins xs ys zs → Joins (x ∷ xs) (y ∷ ys) (joined x y ∷ zs)

-- two lists give one name two values of one setting
pub record ClashIn (xs ys : List EntryData) : Type 0 where
  pub name : List ℕ
  pub one : Setting
  pub other : Setting
  pub given_one : IsGiven xs name one
  pub given_other : IsGiven ys name other
  pub differ : Differ one other

-- what one level says is what two say, which agree
pub record JoinsLevel (a b l : LevelTable) : Type 0 where
  pub described : l.described ≡ (a.described || b.described)
  pub buses : l.buses ≡ or_else a.buses b.buses
  pub same_buses : AgreeOn a.buses b.buses
  pub on_bus : l.on_bus ≡ or_else a.on_bus b.on_bus
  pub same_bus : AgreeOn a.on_bus b.on_bus
  pub spaces : Joins a.spaces b.spaces l.spaces
  pub props : Joins a.props b.props l.props

-- two levels say two values of one key
pub record ClashOf (a b : LevelTable) : Type 0 where
  pub one : Fact
  pub other : Fact
  pub says_one : Says a one
  pub says_other : Says b other
  pub clash : Clash one other

-- what an included file's entry is to the including file
abbrev pub only_true : Option Bool → Option Bool
only_true None = None
only_true (Some b) = cond b (Some true) None

abbrev pub inherited : EntryData → EntryData
inherited e = record {
  name = e.name;
  ty = e.ty;
  required = only_true e.required;
  deprecated = e.deprecated;
  default = e.default;
  constant = e.constant;
  choices = e.choices;
  space = e.space;
  cells = e.cells;
}

-- what an include hands on of the properties of a level, by this level of its filter
abbrev pub passed_props : Option FilterLevel → List EntryData → List EntryData
passed_props f es = map inherited (filter (λ (e : EntryData). level_lets e.name f) es)

-- and of the level
abbrev pub passed : Option FilterLevel → LevelTable → LevelTable
passed f l = record {
  described = l.described;
  buses = l.buses;
  on_bus = l.on_bus;
  spaces = map inherited l.spaces;
  props = passed_props f l.props;
}
