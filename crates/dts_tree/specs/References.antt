-- The references of statements: all name nodes, or the first that doesn't is refused.
use Rattle.std.specs.Prelude.{◌≡◌, ℕ, List, [], Result, Ok, Err, IsOk, slice_index_or, ⊤}
use Rattle.edt_base.specs.declared.fault.End.{End}
use Rattle.edt_base.specs.declared.fault.End.TheVariants as ending
use Rattle.edt_base.specs.declared.fault.Fault.{Fault}
use Rattle.edt_base.specs.declared.fault.Place.TheVariants as place
use Rattle.edt_base.specs.declared.fault.Rule.TheVariants as rule
use Rattle.dts_tree.specs.Reading.{Unnamed}

-- what is refused: S3, at the reference's byte of its source, by the name of the source
abbrev pub unnamed_fault : List (List ℕ) → ℕ → ℕ → Fault
unnamed_fault files source at = record { rule = rule.S3; place = place.Byte (slice_index_or files source []) at }

abbrev pub or_fault : {X : Type 0} → List (List ℕ) → Result X Unnamed → Result X Fault
or_fault files (Ok x) = Ok x
or_fault files (Err u) = Err (unnamed_fault files u.source u.at)

-- the answer is what is wanted, or memory was
abbrev pub Answers : {X : Type 0} → Result X Fault → Result X End → Type 0
Answers wanted (Ok x) = wanted ≡ Ok x
Answers wanted (Err (ending.Fault f)) = wanted ≡ Err f
Answers wanted (Err (ending.Memory e)) = ⊤

-- the same of an answer that says only whether there is something
abbrev pub Tells : {X T : Type 0} → Result X Fault → Result T End → Type 0
Tells wanted (Ok x) = IsOk wanted
Tells wanted (Err (ending.Fault f)) = wanted ≡ Err f
Tells wanted (Err (ending.Memory e)) = ⊤

-- the answer, seen so, is what is wanted, or memory was
abbrev pub AnswersAs : {X T : Type 0} → Result T End → (T → X) → Result X Fault → Type 0
AnswersAs (Ok x) seen wanted = wanted ≡ Ok (seen x)
AnswersAs (Err (ending.Fault f)) seen wanted = wanted ≡ Err f
AnswersAs (Err (ending.Memory e)) seen wanted = ⊤

-- the end of a call is this fault, or want of memory
abbrev pub IsFault : Fault → End → Type 0
IsFault wanted (ending.Fault f) = wanted ≡ f
IsFault wanted (ending.Memory e) = ⊤
