-- The steps of a run, as the code takes them: what it wants, and what became of writing it.
use Rattle.std.specs.Prelude.{◌≡◌, ◌++◌, ◌⊎◌, ℕ, Bool, true, List, [], Option, Some, None, IfSome, Contains, length, map, string_bytes, if◌then◌else◌}
use Rattle.edt_base.specs.declared.fault.Fault.{Fault}
use Rattle.edt_base.specs.declared.fault.Rule.{Rule}
use Rattle.edt_base.specs.declared.outside.Call.TheVariants as call
use Rattle.edt_base.specs.Outside.{FilesSeen, SinkSeen, Rose, Wrote, held_of, content}
use Rattle.edt_run.specs.declared.top.Status.{Status}
use Rattle.edt_run.specs.declared.top.Status.TheVariants as status
use Rattle.edt_run.specs.declared.decision.Decision.{Decision}
use Rattle.edt_run.specs.declared.decision.Decision.TheVariants as decision
use Rattle.edt_run.specs.declared.sources.Stop.{Stop}
use Rattle.edt_run.specs.declared.sources.Stop.TheVariants as stop
use Rattle.edt_run.specs.Answer.{Answer, done, refusal, refused, memory_line, read_line, write_line, first_above, first_past, too_long}
use Rattle.edt_run.specs.ExpandAnswer.{IsTextAnswer}
use Rattle.edt_run.specs.declared.asked.Cmd.{Cmd}
use Rattle.c_macro.specs.Table.{known_of}
use Rattle.dts_print.specs.Printed.{printed}
use Rattle.edt_run.specs.Header.{header}
use Rattle.edt_run.specs.Job.{JobData, job_of}
use Rattle.edt_run.specs.Nodes.{forest_of}
use Rattle.edt_run.specs.Promises.{Run, IsAnswerFrom, IsReadLine, KeepsFiles, writes_early}

-- a text is a front of an answer's, cut where memory was wanted: only of a command that writes early there is one
abbrev pub IsCutShort : FilesSeen → Option JobData → List ℕ → Type 0
IsCutShort old job text = (text ≡ []) ⊎ ((answer : Answer) × (rest : List ℕ) × (writes_early job ≡ true)
    × (IsAnswerFrom old job answer) × (answer.text ≡ text ++ rest))

-- why a run wants an answer: a call failed, memory was wanted, or it is the job's
abbrev pub IsWantedAs : FilesSeen → FilesSeen → Option JobData → Status → Answer → Type 0
IsWantedAs old new job status.Read wanted = (wanted.text ≡ []) × IsReadLine old new job wanted.line
IsWantedAs old new job status.Memory wanted = IsCutShort old job wanted.text × (wanted.line ≡ memory_line)
IsWantedAs old new job status.Write wanted = ⊥
IsWantedAs old new job _ wanted = IsAnswerFrom old job wanted

abbrev pub IsWanted : FilesSeen → FilesSeen → Option JobData → Answer → Type 0
IsWanted old new job wanted = IsWantedAs old new job wanted.status wanted

-- the steps: what is wanted, whether the output took it, and whether the note took its line
pub record Ran (r : Run) : Type 0 where
  pub wanted : Answer
  pub written : Bool
  pub noted : Bool
  pub files : KeepsFiles r.files_old r.files_new
  pub idle : job_of r.words ≡ None → r.files_new ≡ r.files_old
  pub cause : IsWanted r.files_old r.files_new (job_of r.words) wanted
  pub output : Wrote r.out_old r.out_new wanted.text written
  pub note : Wrote r.note_old r.note_new (if written then wanted.line else write_line) noted
  pub status : r.status ≡ (if noted then (if written then wanted.status else status.Write) else status.Write)

-- the note took the line and the status stands, or it failed and the status is that of a failed write
pub record IsSaid (old new : SinkSeen) (line : List ℕ) (said result : Status) : Type 0 where
  pub noted : Bool
  pub note : Wrote old new line noted
  pub status : result ≡ (if noted then said else status.Write)

-- ---- what a run decides

-- a fact of each answer that a decision can lead to; the lines of a text are written as they come, which only
-- an early command does
abbrev pub LeadsTo : (early : Bool) → Decision → (Answer → Type 0) → Type 0
LeadsTo early (decision.Header nodes) fact = fact (done (header (forest_of nodes.items)))
LeadsTo early (decision.Source tree) fact = fact (done (printed tree))
LeadsTo early (decision.Lines defs name text) fact = (early ≡ true)
    × ((answer : Answer) → IsTextAnswer (known_of defs) name text answer → fact answer)
LeadsTo early (decision.Refused said) fact = fact (refusal said.status (string_bytes said.line))

-- ---- the sources

-- bytes of names: as many, and those that the files hold where they tell
pub record AreOf (held : Option (List (List ℕ × List ℕ))) (names sources : List (List ℕ)) : Type 0 where
  pub as_many : length sources ≡ length names
  pub told : IfSome held (λ files. sources ≡ map (content files) names)

-- the bytes of sources that have so many bytes together at most
pub record AreTogether (held : Option (List (List ℕ × List ℕ))) (most : ℕ) (names sources : List (List ℕ)) : Type 0 where
  pub of_names : AreOf held names sources
  pub within : first_above most names sources ≡ None

-- sources have more bytes together with this one
pub record AreAbove (held : Option (List (List ℕ × List ℕ))) (most : ℕ) (names : List (List ℕ)) (name : List ℕ) : Type 0 where
  pub sources : List (List ℕ)
  pub of_names : AreOf held names sources
  pub above : first_above most names sources ≡ Some name

-- the bytes of all sources, which are within the limits
pub record AreRead (held : Option (List (List ℕ × List ℕ))) (c : Cmd) (names sources : List (List ℕ)) : Type 0 where
  pub of_names : AreOf held names sources
  pub within : first_past c names sources ≡ None

-- the sources pass a limit
pub record ArePast (held : Option (List (List ℕ × List ℕ))) (c : Cmd) (names : List (List ℕ)) (fault : Fault) : Type 0 where
  pub sources : List (List ℕ)
  pub of_names : AreOf held names sources
  pub past : first_past c names sources ≡ Some fault

-- a read failed, the last that did
abbrev pub IsFailedRead : FilesSeen → FilesSeen → List (List ℕ) → List ℕ → Type 0
IsFailedRead old new names name = Contains names name × Rose old.faults new.faults
    × IfSome new.told (λ t. t.last ≡ Some (call.Read name))

-- why reading sources with one limit stopped
abbrev pub IsGroupStop : FilesSeen → FilesSeen → ℕ → Rule → List (List ℕ) → Stop → Type 0
IsGroupStop old new most limit names (stop.Failed name) = IsFailedRead old new names name
IsGroupStop old new most limit names (stop.TooLong broken name) = (broken ≡ limit) × AreAbove (held_of old) most names name
IsGroupStop old new most limit names (stop.Memory e) = Unit {0}

-- why reading the sources of a job stopped
abbrev pub IsReadStop : FilesSeen → FilesSeen → Cmd → List (List ℕ) → Stop → Type 0
IsReadStop old new c names (stop.Failed name) = IsFailedRead old new names name
IsReadStop old new c names (stop.TooLong limit name) = ArePast (held_of old) c names (too_long limit name)
IsReadStop old new c names (stop.Memory e) = Unit {0}

-- the refusal that follows from it
abbrev pub IsRefusedBy : Stop → Answer → Type 0
IsRefusedBy (stop.Failed name) answer = answer ≡ refusal status.Read (read_line (call.Read name))
IsRefusedBy (stop.TooLong limit name) answer = answer ≡ refused (too_long limit name)
IsRefusedBy (stop.Memory e) answer = ⊥
