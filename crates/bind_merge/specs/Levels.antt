-- What one level of a binding says, as plain data: a level of one file's record, or of the merged
-- binding. What stands under a name, be it a property or a space of specifiers, is an entry.
use Rattle.std.specs.Prelude.{ℕ, Bool, List, Option, None, Some, map, is_some}
use Rattle.edt_base.specs.YamlData.{Value}
use Rattle.edt_base.specs.declared.bound.PropType.{PropType}
use Rattle.bind_load.specs.RecordData.{SpecData, LevelData, IncludeData}

-- the settings of a property, or the names of a space's cells
pub record EntryData : Type 0 where
  pub name : List ℕ
  pub ty : Option PropType
  pub required : Option Bool
  pub deprecated : Option Bool
  pub default : Option Value
  pub constant : Option Value
  pub choices : Option (List Value)
  pub space : Option (List ℕ)
  pub cells : Option (List (List ℕ))

-- a level: whether it has a description, its buses, its bus, its spaces and its properties
pub record LevelTable : Type 0 where
  pub described : Bool
  pub buses : Option (List (List ℕ))
  pub on_bus : Option (List ℕ)
  pub spaces : List EntryData
  pub props : List EntryData

abbrev pub prop_entry : (List ℕ × SpecData) → EntryData
prop_entry e = record {
  name = e.0;
  ty = e.1.ty;
  required = e.1.required;
  deprecated = e.1.deprecated;
  default = e.1.default;
  constant = e.1.constant;
  choices = e.1.choices;
  space = e.1.space;
  cells = None;
}

abbrev pub space_entry : (List ℕ × List (List ℕ)) → EntryData
space_entry e = record {
  name = e.0;
  ty = None;
  required = None;
  deprecated = None;
  default = None;
  constant = None;
  choices = None;
  space = None;
  cells = Some e.1;
}

-- what a level of a file's record says by itself
abbrev pub own_table : LevelData → LevelTable
own_table l = record {
  described = is_some l.description;
  buses = l.buses;
  on_bus = l.on_bus;
  spaces = map space_entry l.cells;
  props = map prop_entry l.props;
}

-- a level of a file's record: what it says by itself, and what it includes
pub record OwnData : Type 0 where
  pub table : LevelTable
  pub includes : List IncludeData

abbrev pub own_level : LevelData → OwnData
own_level l = record { table = own_table l; includes = l.includes }
