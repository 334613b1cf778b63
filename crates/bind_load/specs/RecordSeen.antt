-- Records as the code holds them, and the data that they stand for.
use Rattle.std.specs.Prelude.{ℕ, List, [], ◌∷◌, Option, Some, None, map}
use Rattle.std.specs.Option.{option_map}
use Rattle.edt_base.specs.YamlData.{value_of}
use Rattle.bind_load.specs.RecordData.{FilterLevel, IncludeData, SpecData, LevelData}
use Rattle.bind_load.specs.declared.record.BindingRec.{BindingRec, fold-BindingRec}
use Rattle.bind_load.specs.declared.record.BindingRec.TheOpen.{BindingRec-F}
use Rattle.bind_load.specs.declared.record.Filter.{Filter, fold-Filter}
use Rattle.bind_load.specs.declared.record.Filter.TheOpen.{Filter-F}
use Rattle.bind_load.specs.declared.record.Include.{Include}
use Rattle.bind_load.specs.declared.record.PropSpec.{PropSpec}

-- the levels below, where there are some
abbrev pub rest_of : {A : Type 0} → Option (List A) → List A
rest_of None = []
rest_of (Some levels) = levels

abbrev pub filter_layer : Filter-F (List FilterLevel) → List FilterLevel
filter_layer f = record { allow = option_map (λ v. v.items) f.allow; block = option_map (λ v. v.items) f.block }
    ∷ rest_of (option_map (λ c. c.value) f.child)

-- the levels of a filter
abbrev pub filter_of : Filter → List FilterLevel
filter_of = fold-Filter (List FilterLevel) filter_layer

abbrev pub include_of : Include → IncludeData
include_of i = record { name = i.name; filter = filter_of i.filter }

abbrev pub spec_of : PropSpec → SpecData
spec_of s = record {
  ty = s.ty;
  required = s.required;
  deprecated = s.deprecated;
  default = option_map value_of s.default;
  constant = option_map value_of s.constant;
  choices = option_map (λ v. map value_of v.items) s.choices;
  space = s.space;
  description = s.description;
}

abbrev pub prop_of : (List ℕ × PropSpec) → (List ℕ × SpecData)
prop_of e = (e.0, spec_of e.1)

abbrev pub level_layer : BindingRec-F (List LevelData) → List LevelData
level_layer b = record {
  description = b.description;
  compatible = b.compatible;
  buses = option_map (λ v. v.items) b.buses;
  on_bus = b.on_bus;
  cells = map (λ e. (e.0, e.1.items)) b.cells.items;
  includes = map include_of b.includes.items;
  props = map prop_of b.props.items;
}
    ∷ rest_of (option_map (λ c. c.value) b.child)

-- the record of a binding: its levels
abbrev pub record_of : BindingRec → List LevelData
record_of = fold-BindingRec (List LevelData) level_layer
