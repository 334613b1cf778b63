-- An answer of a run, and what the reads of a job gave.
use Rattle.std.specs.Prelude.{◌≡◌, ◌-◌, ◌++◌, ℕ, List, [], ◌∷◌, Option, Some, None, IfSome, codes, drop, length, map, nat_lt, option_map, take, if◌then◌else◌}
use Rattle.edt_base.specs.declared.fault.Fault.{Fault}
use Rattle.edt_base.specs.declared.fault.Rule.{Rule}
use Rattle.edt_base.specs.declared.fault.Rule.TheVariants as rule
use Rattle.edt_base.specs.declared.fault.Place.TheVariants as place
use Rattle.edt_base.specs.declared.outside.Call.{Call}
use Rattle.edt_base.specs.declared.outside.Call.TheVariants as call
use Rattle.edt_base.specs.FaultText.{fault_text, is_limit}
use Rattle.edt_base.specs.Outside.{content}
use Rattle.edt_run.specs.Job.{JobData}
use Rattle.edt_run.specs.declared.asked.Cmd.{Cmd}
use Rattle.edt_run.specs.declared.asked.Cmd.TheVariants as cmd
use Rattle.edt_run.specs.declared.top.Status.{Status}
use Rattle.edt_run.specs.declared.top.Status.TheVariants as status

-- a status, what the output gains, and the line that the note gains
pub record Answer : Type 0 where
  pub status : Status
  pub text : List ℕ
  pub line : List ℕ

-- the text is written, and the note gets nothing
abbrev pub done : List ℕ → Answer
done text = record { status = status.Done; text = text; line = [] }

-- nothing is written, and the note gets this line
abbrev pub refusal : Status → List ℕ → Answer
refusal said line = record { status = said; text = []; line = line }

-- the line of a fault: its rule and its place
abbrev pub fault_line : Fault → List ℕ
fault_line fault = codes "edt: " ++ (fault_text fault ++ codes "\n")

-- a broken rule is refused with status 1, a limit that is passed with status 6
abbrev pub fault_status : Fault → Status
fault_status fault = if is_limit fault.rule then status.Limit else status.Rule

abbrev pub refused : Fault → Answer
refused fault = refusal (fault_status fault) (fault_line fault)

-- a text is written, and then a fault is refused
abbrev pub refused_behind : List ℕ → Fault → Answer
refused_behind text fault = record { status = fault_status fault; text = text; line = fault_line fault }

abbrev pub usage_line : List ℕ
usage_line = codes "edt: usage\n"

abbrev pub write_line : List ℕ
write_line = codes "edt: write\n"

abbrev pub memory_line : List ℕ
memory_line = codes "edt: memory\n"

-- the line of a call that failed: the file or the folder
abbrev pub read_line : Call → List ℕ
read_line (call.List name) = codes "edt: read " ++ (name ++ codes "\n")
read_line (call.Read name) = codes "edt: read " ++ (name ++ codes "\n")

-- ---- what was read

-- the bytes of a job's sources, in their order
pub record Given : Type 0 where
  pub sources : List (List ℕ)

-- a job's reads gave this: bytes for each source, and where the files tell what they hold, these bytes;
-- an absent name has none
abbrev pub IsGiven : Option (List (List ℕ × List ℕ)) → Option JobData → Given → Type 0
IsGiven held None given = given.sources ≡ []
IsGiven held (Some job) given = (length given.sources ≡ length job.names)
    × IfSome held (λ files. given.sources ≡ map (content files) job.names)

-- ---- the limits on sources

-- how many bytes they have together at most: the sources of a tree, and the files of definitions
abbrev pub source_limit : ℕ
source_limit = 2097152

abbrev pub defs_limit : ℕ
defs_limit = 33554432

-- how many bytes a text to expand has at most
abbrev pub text_limit : ℕ
text_limit = 1048576

-- of names and their bytes, the first with which there are more bytes together than so many
abbrev pub first_above : ℕ → List (List ℕ) → List (List ℕ) → Option (List ℕ)
first_above left (name ∷ names) (source ∷ sources) =
    if nat_lt left (length source) then Some name else first_above (left - length source) names sources
first_above left _ _ = None

-- the fault of too many bytes
abbrev pub too_long : Rule → List ℕ → Fault
too_long limit name = record { rule = limit; place = place.File name }

-- all but the last, and the last alone
abbrev pub but_last : List (List ℕ) → List (List ℕ)
but_last xs = take (length xs - 1) xs

abbrev pub last_alone : List (List ℕ) → List (List ℕ)
last_alone xs = drop (length xs - 1) xs

-- the first of two
abbrev pub or_else : Option Fault → Option Fault → Option Fault
or_else (Some fault) other = Some fault
or_else None other = other

-- the first source with which a limit on bytes is passed, as a fault: of `expand` the last is the text
abbrev pub first_past : Cmd → List (List ℕ) → List (List ℕ) → Option Fault
first_past cmd.Gen names sources = option_map (too_long rule.L1) (first_above source_limit names sources)
first_past cmd.Dts names sources = option_map (too_long rule.L1) (first_above source_limit names sources)
first_past cmd.Expand names sources =
    or_else (option_map (too_long rule.L6) (first_above defs_limit (but_last names) (but_last sources)))
    (option_map (too_long rule.L5) (first_above text_limit (last_alone names) (last_alone sources)))
