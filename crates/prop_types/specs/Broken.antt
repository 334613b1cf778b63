-- What each rule on a declared property says by itself, and what a node's typed properties are in these words: the
-- first property that breaks a rule with the first rule that it breaks, or else the properties that have a value.
use Rattle.std.specs.Prelude.{◌≡◌, ◌⊎◌, ℕ, Bool, true, false, not, List, [], ◌∷◌, Option, Some, None, Ok, Err, IsSomeAnd, map}
use Rattle.std.specs.List.{list_any}
use Rattle.edt_base.specs.NodeData.{NodeData}
use Rattle.edt_base.specs.Nodes.{is_okay, prop_at}
use Rattle.edt_base.specs.PropData.{PropData}
use Rattle.edt_base.specs.ValData.{ValData, int_val, ints_val, u8s_val, str_val, strs_val}
use Rattle.edt_base.specs.YamlData.{Value}
use Rattle.edt_base.specs.declared.fault.Rule.{Rule}
use Rattle.edt_base.specs.declared.fault.Rule.TheVariants as rule
use Rattle.edt_base.specs.declared.node.Part.{Part}
use Rattle.prop_types.specs.Choices.{is_number, is_text}
use Rattle.prop_types.specs.Given.{byte_in, cell_in, is_constant}
use Rattle.prop_types.specs.Typing.{DeclaredData, choices_in, unwritten}
use Rattle.prop_types.specs.Written.{written}

-- the value of a declared property: the written one, else its default, else 0 of a boolean
abbrev pub HasValue : List NodeData → DeclaredData → Option (List Part) → ValData → Type 0
HasValue nodes d (Some parts) val = written nodes d.ty parts ≡ Ok val
HasValue nodes d None val = unwritten d.ty d.default ≡ Some val

-- what `enum` is tested on, each as the test whether an entry equals it: the value of an int or string, each element of
-- an array
abbrev pub tested : ValData → List (Value → Bool)
tested (int_val n) = is_number cell_in n ∷ []
tested (ints_val ns) = map (is_number cell_in) ns
tested (u8s_val bs) = map (is_number byte_in) bs
tested (str_val t) = is_text t ∷ []
tested (strs_val ts) = map is_text ts
tested _ = []

-- some tested value equals no entry
abbrev pub is_outside : List Value → ValData → Bool
is_outside entries val = list_any (λ (equals : Value → Bool). not (list_any equals entries)) (tested val)

-- the value is written, and is refused by this rule
abbrev pub IsRefusedBy : List NodeData → DeclaredData → Option (List Part) → Rule → Type 0
IsRefusedBy nodes d None r = ⊥
IsRefusedBy nodes d (Some parts) r = written nodes d.ty parts ≡ Err r

-- a declared property breaks a rule, whatever it is of the others: its value is of the wrong kind, or a cell is no
-- phandle; it isn't written, though it is required and the node okay; a tested value isn't in `enum`; the value isn't
-- `const`
abbrev pub Breaks : List NodeData → Bool → DeclaredData → Option (List Part) → Rule → Type 0
Breaks nodes okay d parts rule.V11 = IsRefusedBy nodes d parts rule.V11
Breaks nodes okay d parts rule.V20 = IsRefusedBy nodes d parts rule.V20
Breaks nodes okay d parts rule.V10 = (parts ≡ None) × (d.required ≡ true) × (okay ≡ true)
Breaks nodes okay d parts rule.V13 =
    (val : ValData) × HasValue nodes d parts val × IsSomeAnd d.choices (λ entries. is_outside entries val ≡ true)
Breaks nodes okay d parts rule.V14 =
    (val : ValData) × HasValue nodes d parts val × IsSomeAnd d.constant (λ c. is_constant d.ty c val ≡ false)
Breaks nodes okay d parts _ = ⊥

-- the rules in the order in which they are told
abbrev pub in_order : List Rule
in_order = rule.V11 ∷ rule.V20 ∷ rule.V10 ∷ rule.V13 ∷ rule.V14 ∷ []

-- the first of some rules that is broken
abbrev pub IsFirstOf : List Rule → (Rule → Type 0) → Rule → Type 0
IsFirstOf [] broken r = ⊥
IsFirstOf (q ∷ qs) broken r = (broken q × (r ≡ q)) ⊎ ((broken q → ⊥) × IsFirstOf qs broken r)

-- a declared property of the node at a place breaks a rule; it breaks none
abbrev pub BreaksAt : List NodeData → ℕ → DeclaredData → Rule → Type 0
BreaksAt nodes id d r = Breaks nodes (is_okay nodes id) d (prop_at nodes id d.name) r

abbrev pub KeepsAll : List NodeData → ℕ → DeclaredData → Type 0
KeepsAll nodes id d = (r : Rule) → BreaksAt nodes id d r → ⊥

-- of declared properties in order the first rule that is broken: at the first of them that breaks one, the first that
-- this one breaks
abbrev pub IsFirstBroken : List NodeData → ℕ → List DeclaredData → Rule → Type 0
IsFirstBroken nodes id [] r = ⊥
IsFirstBroken nodes id (d ∷ ds) r =
    IsFirstOf in_order (BreaksAt nodes id d) r ⊎ (KeepsAll nodes id d × IsFirstBroken nodes id ds r)

-- the typed property of a declared one: it has its name and type, and a value, with the choices of the value
abbrev pub IsPropOf : List NodeData → ℕ → DeclaredData → PropData → Type 0
IsPropOf nodes id d p = (p.name ≡ d.name) × (p.ty ≡ d.ty) × HasValue nodes d (prop_at nodes id d.name) p.val
    × (choices_in d.choices p.val ≡ Some p.choices)

abbrev pub HasNoValue : List NodeData → ℕ → DeclaredData → Type 0
HasNoValue nodes id d = (val : ValData) → HasValue nodes d (prop_at nodes id d.name) val → ⊥

-- the typed properties of declared ones that break no rule: in order, one of each that has a value
abbrev pub ArePropsOf : List NodeData → ℕ → List DeclaredData → List PropData → Type 0
ArePropsOf nodes id [] props = props ≡ []
ArePropsOf nodes id (d ∷ ds) props = KeepsAll nodes id d × ((HasNoValue nodes id d × ArePropsOf nodes id ds props)
    ⊎ ((p : PropData) × (more : List PropData) × (props ≡ p ∷ more) × IsPropOf nodes id d p
    × ArePropsOf nodes id ds more))
