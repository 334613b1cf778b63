-- How the program tells parameters, directives and the parts of a body that it reads.
use Rattle.std.specs.Prelude.{◌++◌, List, ℕ, Option, option_map}
use Rattle.c_macro.specs.declared.directive.Params.{Params}
use Rattle.c_macro.specs.declared.directive.Directive.{Directive}
use Rattle.c_macro.specs.declared.directive.Directive.TheVariants as read
use Rattle.c_macro.specs.Directive as directive
use Rattle.c_macro.specs.declared.part.ReadPart.{ReadPart}
use Rattle.c_macro.specs.declared.part.ReadPart.TheVariants as part
use Rattle.c_macro.specs.Bodies as bodies

abbrev pub params_data : Params → directive.Params
params_data p = record { names = p.names.items; variadic = p.variadic; rest = p.rest.now }

abbrev pub directive_data : Directive → directive.Directive
directive_data read.Nothing = directive.Nothing
directive_data (read.Define name m) = directive.Define name.now m
directive_data (read.Undefine name) = directive.Undefine name.now

-- parameters behind these names
abbrev pub behind_names : List (List ℕ) → Option directive.Params → Option directive.Params
behind_names names o = option_map (λ p. let q : directive.Params = record { names = names ++ p.names; variadic = p.variadic; rest = p.rest } in q) o

abbrev pub read_data : ReadPart → bodies.Part
read_data (part.Own t) = bodies.Own t.now
read_data part.Join = bodies.Join
read_data (part.Text s i) = bodies.Text s i
read_data (part.Written s i) = bodies.Written s i
read_data (part.Full s i) = bodies.Full s i
