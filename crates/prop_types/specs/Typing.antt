-- The typed properties of a node, by what its binding declares; or the first rule that is broken.
use Rattle.std.specs.Prelude.{◌&&◌, ◌||◌, ◌++◌, ℕ, Bool, true, false, not, List, [], ◌∷◌, Option, Some, None, Result, Ok, Err, codes, filter, is_some, nat_eq, option_and_then, slice_get, if◌then◌else◌}
use Rattle.std.specs.List.{list_any, starts_with, ends_with}
use Rattle.std.specs.Option.{option_map_or}
use Rattle.std.specs.Str.{bytes_eq}
use Rattle.edt_base.specs.NodeData.{NodeData}
use Rattle.edt_base.specs.Nodes.{is_okay, prop_at}
use Rattle.edt_base.specs.PropData.{PropData}
use Rattle.edt_base.specs.ValData.{ValData, bool_val}
use Rattle.edt_base.specs.YamlData.{Value}
use Rattle.edt_base.specs.declared.bound.PropType.{PropType}
use Rattle.edt_base.specs.declared.bound.PropType.TheVariants as type
use Rattle.edt_base.specs.declared.fault.Rule.{Rule}
use Rattle.edt_base.specs.declared.fault.Rule.TheVariants as rule
use Rattle.edt_base.specs.declared.node.Part.{Part}
use Rattle.prop_types.specs.Choices.{choices_of}
use Rattle.prop_types.specs.Given.{given, is_constant}
use Rattle.prop_types.specs.Written.{written}

-- a declared property: its name and type, and what the binding says of its value
pub record DeclaredData : Type 0 where
  pub name : List ℕ
  pub ty : PropType
  pub required : Bool
  pub default : Option Value
  pub constant : Option Value
  pub choices : Option (List Value)

-- One property

-- the value of one that isn't written: its default; a boolean's is 0
abbrev pub unwritten : PropType → Option Value → Option ValData
unwritten type.Boolean default = Some (bool_val false)
unwritten ty default = option_and_then (given ty) default

-- the choices of a value, of which there are none without `enum`
abbrev pub choices_in : Option (List Value) → ValData → Option (List (ℕ × List ℕ))
choices_in None val = Some []
choices_in (Some entries) val = choices_of entries val

-- the property with its value, where the value is the constant that is wanted; else V14
abbrev pub with_constant : DeclaredData → ValData → List (ℕ × List ℕ) → Result PropData Rule
with_constant d val choices =
    if option_map_or (λ c. is_constant d.ty c val) d.constant true
    then Ok (record { name = d.name; ty = d.ty; val = val; choices = choices })
    else Err rule.V14

abbrev pub with_choices : DeclaredData → ValData → Option (List (ℕ × List ℕ)) → Result PropData Rule
with_choices d val None = Err rule.V13
with_choices d val (Some choices) = with_constant d val choices

-- the property with its value: V13 where a tested value is no entry of `enum`, then V14
abbrev pub with_value : DeclaredData → ValData → Result PropData Rule
with_value d val = with_choices d val (choices_in d.choices val)

abbrev pub as_one : Result PropData Rule → Result (List PropData) Rule
as_one (Err r) = Err r
as_one (Ok p) = Ok (p ∷ [])

abbrev pub of_written : DeclaredData → Result ValData Rule → Result (List PropData) Rule
of_written d (Err r) = Err r
of_written d (Ok val) = as_one (with_value d val)

abbrev pub of_unwritten : DeclaredData → Option ValData → Result (List PropData) Rule
of_unwritten d None = Ok []
of_unwritten d (Some val) = as_one (with_value d val)

-- a declared property of a node: none where it isn't written and has no default. V11 and V20 of a written value; V10
-- where it isn't written though an okay node has to have it; V13 and V14 of the value, a default's too
abbrev pub typed_one : List NodeData → Bool → DeclaredData → Option (List Part) → Result (List PropData) Rule
typed_one nodes okay d (Some parts) = of_written d (written nodes d.ty parts)
typed_one nodes okay d None =
    if okay && d.required then Err rule.V10 else of_unwritten d (unwritten d.ty d.default)

-- All properties of a node

abbrev pub joined : Result (List PropData) Rule → Result (List PropData) Rule → Result (List PropData) Rule
joined (Err r) more = Err r
joined (Ok some) (Err r) = Err r
joined (Ok some) (Ok more) = Ok (some ++ more)

-- the declared properties of the node at a place, in order, or the first rule that is broken
abbrev pub typed_all : List NodeData → ℕ → List DeclaredData → Result (List PropData) Rule
typed_all nodes id [] = Ok []
typed_all nodes id (d ∷ ds) =
    joined (typed_one nodes (is_okay nodes id) d (prop_at nodes id d.name)) (typed_all nodes id ds)

-- the properties that a node may have though its binding doesn't declare them
unfoldable pub is_standard : List ℕ → Bool
is_standard name = bytes_eq name (codes "compatible") || bytes_eq name (codes "status")
    || bytes_eq name (codes "ranges")
    || bytes_eq name (codes "phandle") || bytes_eq name (codes "interrupt-parent")
    || bytes_eq name (codes "interrupts-extended") || bytes_eq name (codes "device_type")

abbrev pub is_free : List ℕ → Bool
is_free name =
    ends_with nat_eq name (codes "-controller") || starts_with nat_eq name (codes "#") || is_standard name

abbrev pub has_name : List ℕ → DeclaredData → Bool
has_name name d = bytes_eq d.name name

abbrev pub is_declared : List DeclaredData → List ℕ → Bool
is_declared ds name = list_any (has_name name) ds

-- a property is neither declared nor free
abbrev pub is_neither : List DeclaredData → List ℕ × List Part → Bool
is_neither ds p = not (is_declared ds p.0 || is_free p.0)

-- the node at a place has a property that is neither declared nor free
abbrev pub has_undeclared : List NodeData → ℕ → List DeclaredData → Bool
has_undeclared nodes id ds = option_map_or (λ (n : NodeData). list_any (is_neither ds) n.props) (slice_get nodes id)
    false

-- the properties that a node without a binding has where they are written, with their types, in byte order
abbrev pub plain : List ℕ → PropType → DeclaredData
plain name ty =
    record { name = name; ty = ty; required = false; default = None; constant = None; choices = None }

abbrev pub plain_ones : List DeclaredData
plain_ones = plain (codes "compatible") type.StrArray ∷ plain (codes "interrupt-controller") type.Boolean
    ∷ plain (codes "interrupt-names") type.StrArray ∷ plain (codes "interrupts") type.Array
    ∷ plain (codes "label") type.Str ∷ plain (codes "reg") type.Array
    ∷ plain (codes "reg-names") type.StrArray ∷ plain (codes "status") type.Str ∷ []

abbrev pub is_written : List NodeData → ℕ → DeclaredData → Bool
is_written nodes id d = is_some (prop_at nodes id d.name)

-- the typed properties of the node at a place: of what its binding declares, in byte order, after V12 of what is there
-- and isn't declared; of a node without a binding the plain ones that are written
unfoldable pub typed_of : List NodeData → ℕ → Option (List DeclaredData) → Result (List PropData) Rule
typed_of nodes id (Some ds) = if has_undeclared nodes id ds then Err rule.V12 else typed_all nodes id ds
typed_of nodes id None = typed_all nodes id (filter (is_written nodes id) plain_ones)
