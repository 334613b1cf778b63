-- A declared property as the code has it.
use Rattle.std.specs.Prelude.{map, option_map}
use Rattle.edt_base.specs.YamlData.{value_of}
use Rattle.prop_types.specs.Typing.{DeclaredData}
use Rattle.prop_types.specs.declared.properties.Declared.{Declared}

abbrev pub seen : Declared → DeclaredData
seen d = record {
  name = d.name.now;
  ty = d.ty;
  required = d.required;
  default = option_map (λ v. value_of v.now) d.default;
  constant = option_map (λ v. value_of v.now) d.constant;
  choices = option_map (λ v. map value_of v.now) d.choices;
}
