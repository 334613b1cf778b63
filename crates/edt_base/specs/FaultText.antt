-- What a fault says: its rule's code and its place; and which rules are limits.
use Rattle.std.specs.Prelude.{ℕ, Bool, true, false, List, ◌++◌, codes}
use Rattle.std.specs.Fmt.{decimal}
use Rattle.edt_base.specs.declared.fault.Rule.{Rule}
use Rattle.edt_base.specs.declared.fault.Rule.TheVariants as rule
use Rattle.edt_base.specs.declared.fault.Place.{Place}
use Rattle.edt_base.specs.declared.fault.Place.TheVariants as place
use Rattle.edt_base.specs.declared.fault.Fault.{Fault}

-- the code of a rule is its name
unfoldable pub rule_code : Rule → List ℕ
rule_code rule.S1 = codes "S1"
rule_code rule.S2 = codes "S2"
rule_code rule.S3 = codes "S3"
rule_code rule.S4 = codes "S4"
rule_code rule.S5 = codes "S5"
rule_code rule.S6 = codes "S6"
rule_code rule.V1 = codes "V1"
rule_code rule.V2 = codes "V2"
rule_code rule.V3 = codes "V3"
rule_code rule.V10 = codes "V10"
rule_code rule.V11 = codes "V11"
rule_code rule.V12 = codes "V12"
rule_code rule.V13 = codes "V13"
rule_code rule.V14 = codes "V14"
rule_code rule.V15 = codes "V15"
rule_code rule.V16 = codes "V16"
rule_code rule.V17 = codes "V17"
rule_code rule.V18 = codes "V18"
rule_code rule.V19 = codes "V19"
rule_code rule.V20 = codes "V20"
rule_code rule.V21 = codes "V21"
rule_code rule.V22 = codes "V22"
rule_code rule.V23 = codes "V23"
rule_code rule.V24 = codes "V24"
rule_code rule.V25 = codes "V25"
rule_code rule.V26 = codes "V26"
rule_code rule.V27 = codes "V27"
rule_code rule.V28 = codes "V28"
rule_code rule.V29 = codes "V29"
rule_code rule.V30 = codes "V30"
rule_code rule.V31 = codes "V31"
rule_code rule.V32 = codes "V32"
rule_code rule.V33 = codes "V33"
rule_code rule.V34 = codes "V34"
rule_code rule.V35 = codes "V35"
rule_code rule.V36 = codes "V36"
rule_code rule.V37 = codes "V37"
rule_code rule.V38 = codes "V38"
rule_code rule.Y1 = codes "Y1"
rule_code rule.Y2 = codes "Y2"
rule_code rule.Y3 = codes "Y3"
rule_code rule.Y4 = codes "Y4"
rule_code rule.B1 = codes "B1"
rule_code rule.B2 = codes "B2"
rule_code rule.B3 = codes "B3"
rule_code rule.B4 = codes "B4"
rule_code rule.B5 = codes "B5"
rule_code rule.B6 = codes "B6"
rule_code rule.B7 = codes "B7"
rule_code rule.B8 = codes "B8"
rule_code rule.B9 = codes "B9"
rule_code rule.B10 = codes "B10"
rule_code rule.B11 = codes "B11"
rule_code rule.B12 = codes "B12"
rule_code rule.B13 = codes "B13"
rule_code rule.B14 = codes "B14"
rule_code rule.C1 = codes "C1"
rule_code rule.C2 = codes "C2"
rule_code rule.C3 = codes "C3"
rule_code rule.C4 = codes "C4"
rule_code rule.C5 = codes "C5"
rule_code rule.C6 = codes "C6"
rule_code rule.C7 = codes "C7"
rule_code rule.C8 = codes "C8"
rule_code rule.C9 = codes "C9"
rule_code rule.C10 = codes "C10"
rule_code rule.K1 = codes "K1"
rule_code rule.L1 = codes "L1"
rule_code rule.L2 = codes "L2"
rule_code rule.L3 = codes "L3"
rule_code rule.L4 = codes "L4"
rule_code rule.L5 = codes "L5"
rule_code rule.L6 = codes "L6"
rule_code rule.L7 = codes "L7"
rule_code rule.L8 = codes "L8"
rule_code rule.L9 = codes "L9"
rule_code rule.L10 = codes "L10"

-- a file with a number, a name or a path
abbrev pub place_text : Place → List ℕ
place_text (place.Byte file at) = file ++ codes ":" ++ decimal at
place_text (place.Line file line) = file ++ codes ":" ++ decimal line
place_text (place.File name) = name
place_text (place.Node path) = path

-- the rule's code, a space and the place
abbrev pub fault_text : Fault → List ℕ
fault_text fault = rule_code fault.rule ++ codes " " ++ place_text fault.place

-- the limits: `L1` to `L10`, and `C7` of an expansion
abbrev pub is_limit : Rule → Bool
is_limit rule.L1 = true
is_limit rule.L2 = true
is_limit rule.L3 = true
is_limit rule.L4 = true
is_limit rule.L5 = true
is_limit rule.L6 = true
is_limit rule.L7 = true
is_limit rule.L8 = true
is_limit rule.L9 = true
is_limit rule.L10 = true
is_limit rule.C7 = true
is_limit _ = false
