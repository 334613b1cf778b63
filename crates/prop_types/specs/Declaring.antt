-- What a merged binding declares, as its view shows it.
use Rattle.std.specs.Prelude.{ℕ, List, Option, filter_map, option_and_then, option_map}
use Rattle.edt_base.specs.declared.bound.PropType.{PropType}
use Rattle.bind_merge.specs.Checks.{is_yes}
use Rattle.bind_merge.specs.Levels.{EntryData, LevelTable}
use Rattle.bind_merge.specs.ViewData.{names_in, prop_in}
use Rattle.prop_types.specs.Typing.{DeclaredData}

-- a property of this name and type, with the settings that the view has of it
abbrev pub with_settings : List ℕ → EntryData → PropType → DeclaredData
with_settings name e ty = record {
  name = name;
  ty = ty;
  required = is_yes e.required;
  default = e.default;
  constant = e.constant;
  choices = e.choices;
}

-- the declared property of a name, where the view has it
abbrev pub declared_at : List LevelTable → List ℕ → Option DeclaredData
declared_at levels name = option_and_then (λ (e : EntryData). option_map (with_settings name e) e.ty) (prop_in name levels)

-- what the view declares: the properties that it names, in the order of the names
abbrev pub declared_in : List LevelTable → List DeclaredData
declared_in levels = filter_map (declared_at levels) (names_in levels)
