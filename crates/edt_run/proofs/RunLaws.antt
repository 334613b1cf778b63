-- What a run decided and what became of writing it make the run.
use Rattle.std.proofs.Common.{◌≡◌, ◌∙◌, ◌++◌, ℕ, Bool, List, [], Option, Some, None, Result, Ok, Err, IfOk, IsTrue, MatchOption, if◌then◌else◌, inl, inr, refl, string_bytes, sym, subst, true, false}
use Rattle.edt_base.specs.declared.outside.Call.TheVariants as call
use Rattle.edt_base.specs.Outside.{FilesSeen, Wrote, held_of}
use Rattle.edt_base.proofs.WriteLaws.{wrote_nothing}
use Rattle.edt_run.specs.declared.sources.Stop.{Stop}
use Rattle.edt_run.specs.declared.sources.Stop.TheVariants as stop
use Rattle.edt_run.specs.declared.top.Status.{Status}
use Rattle.edt_run.specs.declared.top.Status.TheVariants as status
use Rattle.edt_run.specs.Answer.{Answer, done, refusal, refused, usage_line, memory_line, write_line, too_long}
use Rattle.edt_run.specs.declared.decision.Decision.{Decision}
use Rattle.edt_run.specs.declared.decision.Decision.TheVariants as decision
use Rattle.edt_run.specs.declared.refusal.Refusal.{Refusal}
use Rattle.edt_base.specs.declared.fault.Fault.{Fault}
use Rattle.edt_run.specs.ExpandAnswer.{IsTextAnswer}
use Rattle.edt_run.specs.Nodes.{forest_of}
use Rattle.edt_run.specs.Header.{header}
use Rattle.dts_print.specs.Printed.{printed}
use Rattle.c_macro.specs.Directive.{Known}
use Rattle.c_macro.specs.Table.{known_of}
use Rattle.edt_run.specs.Job.{JobData, job_of}
use Rattle.edt_run.specs.Promises.{Run, IsAnswerOf, IsAnswerFrom, KeepsFiles, is_plain, writes_early}
use Rattle.edt_run.specs.Steps.{Ran, IsSaid, IsWanted, IsWantedAs, LeadsTo, AreRead, IsReadStop, IsRefusedBy}
use Rattle.edt_run.proofs.AnswerLaws.{answer_plain, ended_proper}
use Rattle.edt_run.proofs.PromiseLaws.{either, plain_answer}

pub map_ok : {X E : Type 0} (r : Result X E) (P Q : X → Type 0) → ((x : X) → P x → Q x) → IfOk r P → IfOk r Q
map_ok (Ok x) P Q f h = f x h
map_ok (Err e) P Q f h = tt

-- ---- what is wanted

as_answer : (old new : FilesSeen) (job : Option JobData) (said : Status) (w : Answer) → IsTrue (is_plain said) → IsAnswerFrom old job w → IsWantedAs old new job said w
as_answer old new job status.Read w plain h = cc
as_answer old new job status.Write w plain h = cc
as_answer old new job status.Memory w plain h = cc
as_answer old new job status.Done w plain h = h
as_answer old new job status.Rule w plain h = h
as_answer old new job status.Usage w plain h = h
as_answer old new job status.Limit w plain h = h

answered : (old new : FilesSeen) (job : Option JobData) (w : Answer) → IsAnswerFrom old job w → IsWanted old new job w
answered old new job w h = as_answer old new job w.status w (answer_plain job h.0 w h.2) h

-- over sources that were read
pub wanted_over : (old new : FilesSeen) (job : JobData) (sources : List (List ℕ)) (w : Answer) → AreRead (held_of old) job.cmd job.names sources
    → IsAnswerOf job.cmd job.names sources w → IsWanted old new (Some job) w
wanted_over old new job sources w read h =
    let P : Option Fault → Type 0 = λ o. MatchOption o (IsAnswerOf job.cmd job.names sources w) (λ fault. w ≡ refused fault) in
    answered old new (Some job) w (record { sources = sources }, (read.of_names.as_many, read.of_names.told), subst P (sym read.within) h)

-- over sources that couldn't be read, or have too many bytes
pub wanted_stopped : (old new : FilesSeen) (job : JobData) (why : Stop) (w : Answer) → IsReadStop old new job.cmd job.names why → IsRefusedBy why w → IsWanted old new (Some job) w
wanted_stopped old new job (stop.Failed name) w h is =
    subst (λ a. IsWanted old new (Some job) a) (sym is) (refl, (call.Read name, record { is_of_job = h.0; rose = h.1; last = h.2 }, refl))
wanted_stopped old new job (stop.TooLong limit name) w h is =
    let P : Option Fault → Type 0 = λ o. MatchOption o (IsAnswerOf job.cmd job.names h.sources w) (λ fault. w ≡ refused fault) in
    answered old new (Some job) w (record { sources = h.sources }, (h.of_names.as_many, h.of_names.told), subst P (sym h.past) is)
wanted_stopped old new job (stop.Memory e) w h is = absurd is

-- what follows from a fact of each answer of a decision
pub leads_map : (early late : Bool) (d : Decision) (P Q : Answer → Type 0) → (early ≡ true → late ≡ true) → ((a : Answer) → P a → Q a) → LeadsTo early d P → LeadsTo late d Q
leads_map early late (decision.Header nodes) P Q e f h = f (done (header (forest_of nodes.items))) h
leads_map early late (decision.Source tree) P Q e f h = f (done (printed tree)) h
leads_map early late (decision.Lines defs name text) P Q e f h = (e h.0, λ a is. f a (h.1 a is))
leads_map early late (decision.Refused said) P Q e f h = f (refusal said.status (string_bytes said.line)) h

-- words that are no job
wanted_usage : (old new : FilesSeen) (job : Option JobData) → job ≡ None → IsWanted old new job (refusal status.Usage usage_line)
wanted_usage old new job none = subst (λ o. IsAnswerFrom old o (refusal status.Usage usage_line)) (sym none) (record { sources = [] }, refl, refl)

-- ---- the run

kept_out : (r : Run) → r.out_new ≡ r.out_old → Wrote r.out_old r.out_new [] true
kept_out r same = subst (λ s. Wrote r.out_old s [] true) (sym same) (wrote_nothing r.out_old)

-- nothing was to be written, and the note got the line
pub ran_refusal : (r : Run) (said : Status) (line : List ℕ) → IsWanted r.files_old r.files_new (job_of r.words) (refusal said line)
    → (job_of r.words ≡ None → r.files_new ≡ r.files_old) → KeepsFiles r.files_old r.files_new → r.out_new ≡ r.out_old
    → IsSaid r.note_old r.note_new line said r.status → Ran r
ran_refusal r said line cause idle kept same noted = record {
  wanted = refusal said line;
  written = true;
  noted = noted.noted;
  files = kept;
  idle = idle;
  cause = cause;
  output = kept_out r same;
  note = noted.note;
  status = noted.status;
}

-- writing failed, and the note got the line of that
pub ran_write_failed : (r : Run) (wanted : Answer) → IsWanted r.files_old r.files_new (job_of r.words) wanted
    → (job_of r.words ≡ None → r.files_new ≡ r.files_old) → KeepsFiles r.files_old r.files_new → Wrote r.out_old r.out_new wanted.text false
    → IsSaid r.note_old r.note_new write_line status.Write r.status → Ran r
ran_write_failed r wanted cause idle kept output noted = record {
  wanted = wanted;
  written = false;
  noted = noted.noted;
  files = kept;
  idle = idle;
  cause = cause;
  output = output;
  note = noted.note;
  status = noted.status;
}

pub ran_usage : (r : Run) → job_of r.words ≡ None → r.files_new ≡ r.files_old → KeepsFiles r.files_old r.files_new → r.out_new ≡ r.out_old
    → IsSaid r.note_old r.note_new usage_line status.Usage r.status → Ran r
ran_usage r none idle kept same noted = ran_refusal r status.Usage usage_line (wanted_usage r.files_old r.files_new (job_of r.words) none) (λ _. idle) kept same noted

pub ran_memory : (r : Run) → (job_of r.words ≡ None → r.files_new ≡ r.files_old) → KeepsFiles r.files_old r.files_new → r.out_new ≡ r.out_old
    → IsSaid r.note_old r.note_new memory_line status.Memory r.status → Ran r
ran_memory r idle kept same noted = ran_refusal r status.Memory memory_line (inl refl, refl) idle kept same noted

-- what was wanted was written, and the note got the line
pub ran_said : (r : Run) (wanted : Answer) (said : Refusal) → IsWanted r.files_old r.files_new (job_of r.words) wanted
    → (job_of r.words ≡ None → r.files_new ≡ r.files_old) → KeepsFiles r.files_old r.files_new → Wrote r.out_old r.out_new wanted.text true
    → wanted.status ≡ said.status → wanted.line ≡ string_bytes said.line → IsSaid r.note_old r.note_new (string_bytes said.line) said.status r.status → Ran r
ran_said r wanted said cause idle kept output is line noted = record {
  wanted = wanted;
  written = true;
  noted = noted.noted;
  files = kept;
  idle = idle;
  cause = cause;
  output = output;
  note = subst (λ l. Wrote r.note_old r.note_new l noted.noted) (sym line) noted.note;
  status = subst (λ s. r.status ≡ (if noted.noted then s else status.Write)) (sym is) noted.status;
}

-- a text was written, and nothing is to be said
pub ran_done : (r : Run) (text : List ℕ) → IsWanted r.files_old r.files_new (job_of r.words) (done text)
    → (job_of r.words ≡ None → r.files_new ≡ r.files_old) → KeepsFiles r.files_old r.files_new → Wrote r.out_old r.out_new text true
    → IsSaid r.note_old r.note_new [] status.Done r.status → Ran r
ran_done r text cause idle kept output noted = record {
  wanted = done text;
  written = true;
  noted = noted.noted;
  files = kept;
  idle = idle;
  cause = cause;
  output = output;
  note = noted.note;
  status = noted.status;
}

-- a front of an answer's text was written, and then memory was wanted
pub ran_cut : (r : Run) (answer : Answer) (text rest : List ℕ) → writes_early (job_of r.words) ≡ true → IsTrue (is_plain answer.status)
    → IsWanted r.files_old r.files_new (job_of r.words) answer → (job_of r.words ≡ None → r.files_new ≡ r.files_old) → KeepsFiles r.files_old r.files_new
    → answer.text ≡ text ++ rest → Wrote r.out_old r.out_new text true → IsSaid r.note_old r.note_new memory_line status.Memory r.status → Ran r
ran_cut r answer text rest early plain cause idle kept whole output noted = record {
  wanted = record { status = status.Memory; text = text; line = memory_line };
  written = true;
  noted = noted.noted;
  files = kept;
  idle = idle;
  cause = (inr (answer, rest, early, plain_answer r.files_old r.files_new (job_of r.words) answer.status answer plain (either r.files_old r.files_new (job_of r.words) answer.status answer cause), whole), refl);
  output = output;
  note = noted.note;
  status = noted.status;
}

-- the answer over a text tells of it
pub text_plain : (k : Known) (name source : List ℕ) (a : Answer) → IsTextAnswer k name source a → IsTrue (is_plain a.status)
text_plain k name source a h = subst (λ (x : Answer). IsTrue (is_plain x.status)) (sym h.3) (ended_proper name h.0 h.1).plain

pub is_job : (words : List (List ℕ)) (job : JobData) {T : Type 0} → Some job ≡ job_of words → job_of words ≡ None → T
is_job words job named none = let e : Some job ≡ None = named ∙ none in cc
