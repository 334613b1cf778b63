-- The answer of the public call.
use Rattle.std.specs.Prelude.{◌≡◌, ℕ, List, Result, Ok, Err}
use Rattle.edt_base.specs.declared.fault.End.{End}
use Rattle.edt_base.specs.declared.fault.End.TheVariants as ending
use Rattle.edt_base.specs.declared.fault.Fault.{Fault}
use Rattle.edt_base.specs.declared.fault.Place.{Place}
use Rattle.edt_base.specs.declared.fault.Place.TheVariants as place
use Rattle.edt_base.specs.declared.yaml.Yaml.{Yaml}
use Rattle.edt_base.specs.YamlData.{Value, value_of}
use Rattle.yaml_profile.specs.declared.stop.Broken.{Broken}

-- the fault's rule and byte, in this file
abbrev pub IsAt : List ℕ → Place → ℕ → Type 0
IsAt file (place.Byte name byte) at = (name ≡ file) × (byte ≡ at)
IsAt file _ at = ⊥

abbrev pub IsFault : List ℕ → Fault → Broken → Type 0
IsFault file f b = (f.rule ≡ b.rule) × IsAt file f.place b.at

-- the call gave the stated value or refused with the stated fault, unless memory ran out
abbrev pub Reads : List ℕ → Result Yaml End → Result Value Broken → Type 0
Reads file (Ok y) stated = stated ≡ Ok (value_of y)
Reads file (Err (ending.Fault f)) stated = (b : Broken) × (stated ≡ Err b) × IsFault file f b
Reads file (Err (ending.Memory e)) stated = Unit {0}
