-- The listed files, and what reading them gives.
use Rattle.std.specs.Prelude.{ℕ, List, Option, Some, None, Result, Ok, Err, map}
use Rattle.edt_base.specs.YamlData.{Value}
use Rattle.edt_base.specs.declared.fault.Fault.{Fault}
use Rattle.edt_base.specs.declared.fault.Place.TheVariants as place
use Rattle.edt_base.specs.declared.fault.Rule.{Rule}
use Rattle.yaml_profile.specs.Reading.{reading}
use Rattle.yaml_profile.specs.declared.stop.Broken.{Broken}
use Rattle.bind_load.specs.RecordData.{LevelData}
use Rattle.bind_load.specs.RecordOf.{record_in}
use Rattle.bind_load.specs.Rules.{broken_rule}
use Rattle.bind_merge.specs.Files.{FileData, file_fault}

-- a file: its name and its bytes
abbrev pub File : Type 0
File = List ℕ × List ℕ

abbrev pub byte_fault : Broken → List ℕ → Fault
byte_fault b name = record { rule = b.rule; place = place.Byte name b.at }

-- the record of a value, or the first rule of one file that it breaks
abbrev pub record_or : List ℕ → Value → Option Rule → Result (List LevelData) Fault
record_or name v None = Ok (record_in v)
record_or name v (Some rule) = Err (file_fault rule name)

abbrev pub record_from : List ℕ → Result Value Broken → Result (List LevelData) Fault
record_from name (Err b) = Err (byte_fault b name)
record_from name (Ok v) = record_or name v (broken_rule v)

abbrev pub file_data : File → FileData
file_data f = record { name = f.0; content = record_from f.0 (reading f.1) }

abbrev pub read_files : List File → List FileData
read_files files = map file_data files
