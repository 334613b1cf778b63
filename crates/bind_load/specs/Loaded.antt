-- What loading a file's value answers.
use Rattle.std.specs.Prelude.{◌≡◌, ℕ, List, Some, None, Result, Ok, Err}
use Rattle.edt_base.specs.YamlData.{Value}
use Rattle.edt_base.specs.declared.fault.End.{End}
use Rattle.edt_base.specs.declared.fault.End.TheVariants as ending
use Rattle.edt_base.specs.declared.fault.Place.TheVariants as place
use Rattle.edt_base.specs.declared.fault.Rule.{Rule}
use Rattle.bind_load.specs.Rules.{broken_rule}
use Rattle.bind_load.specs.RecordOf.{record_in}
use Rattle.bind_load.specs.RecordSeen.{record_of}
use Rattle.bind_load.specs.declared.record.BindingRec.{BindingRec}

-- a rule broken by a file
abbrev pub broken : Rule → List ℕ → End
broken rule file = ending.Fault (record { rule = rule; place = place.File file })

-- the record of the value exactly where it breaks no rule, and else its first rule at the file; or want of memory
abbrev pub IsLoaded : List ℕ → Value → Result BindingRec End → Type 0
IsLoaded file v (Ok rec) = (broken_rule v ≡ None) × (record_of rec ≡ record_in v)
IsLoaded file v (Err (ending.Fault f)) = (broken_rule v ≡ Some f.rule) × (f.place ≡ place.File file)
IsLoaded file v (Err (ending.Memory e)) = Unit {0}
