-- What lines of C text define, and what is known behind definitions.
use Rattle.std.specs.Prelude.{◌≡◌, ◌++◌, ℕ, List, Option, Some, None, drop, false, if◌then◌else◌}
use Rattle.std.specs.List.{All, Contains, filter_map}
use Rattle.std.specs.Map.{lookup}
use Rattle.std.specs.Option.{option_and_then}
use Rattle.std.specs.Str.{bytes_eq}
use Rattle.edt_base.specs.declared.fault.Rule.TheVariants.{C5}
use Rattle.c_tokens.specs.Lexed.{Lexed, lexed}
use Rattle.c_tokens.specs.Lines.{begins_hash}
use Rattle.c_macro.specs.Directive.{Define, Directive, Known, directive_of, first_some, redefined}
use Rattle.c_macro.specs.Expansion.{Macros}
use Rattle.c_macro.specs.MacroData.{Macro}
use Rattle.dt_api.specs.ApiText.{api_lines}

-- a name and its macro
abbrev pub Definition : Type 0
Definition = List ℕ × Macro

abbrev pub defined_as : Option Directive → Option Definition
defined_as (Some (Define name m)) = Some (name, m)
defined_as _ = None

-- what a line of these tokens defines
abbrev pub defined_by : Lexed → Option Definition
defined_by l = if begins_hash l.toks then defined_as (directive_of (drop 1 l.toks)) else None

-- what these lines define, each by itself; a comment defines nothing
abbrev pub definitions_in : List (List ℕ) → List Definition
definitions_in lines = filter_map (λ line. option_and_then defined_by (lexed false line)) lines

-- the definitions of the API text, in its order
abbrev pub api_definitions : List Definition
api_definitions = definitions_in api_lines

-- the API text's macro of a name
abbrev pub api_macro : Macros
api_macro name = lookup (bytes_eq name) api_definitions

-- behind definitions each name has the macro that it had, and one that had none the first of these
pub record IsKnownWith (k : Known) (ds : List Definition) (k' : Known) : Type 0 where
  pub defs : (name : List ℕ) → k'.defs name ≡ first_some (k.defs name) (lookup (bytes_eq name) ds)
  pub locked : (name : List ℕ) → k'.locked name ≡ k.locked name

-- none of these names has another macro
abbrev pub AreAllowed : Known → List Definition → Type 0
AreAllowed k ds = All (λ (d : Definition). redefined (k.defs d.0) d.1 ≡ None) ds

-- one of these names has another macro
pub record HasOther (k : Known) (ds : List Definition) : Type 0 where
  pub name : List ℕ
  pub macro : Macro
  pub there : Contains ds (name, macro)
  pub other : redefined (k.defs name) macro ≡ Some C5

-- the first of these definitions are known, up to some place
pub record AreKnownTo (k : Known) (ds : List Definition) (k' : Known) : Type 0 where
  pub first : List Definition
  pub others : List Definition
  pub whole : ds ≡ first ++ others
  pub known : IsKnownWith k first k'
