use Rattle.std.proofs.Common.{Err, List, Ok, subst, ℕ}
use Rattle.yaml_profile.specs.Reading.{reading}
use Rattle.yaml_profile.specs.Reads.{Reads}
use Rattle.bind_merge.proofs.ReadAnswers.{read-bad, read-good}
use Rattle.bind_merge.proofs.reading.read_file.Goals as goal

pub returns-in_ok-loaded-in-Ok : goal.returns-in_ok-loaded-in-Ok
returns-in_ok-loaded-in-Ok c =
    read-good c.args.name.now (reading c.args.bytes.now) c.in-Ok.value c.in_ok-loaded-in-Ok.loaded
    (subst (λ (src : List ℕ). Reads c.args.name.now (Ok c.in-Ok.value) (reading src)) c.as_slice.ensures c.in-Ok.ensures.exact) c.in_ok-loaded-in-Ok.ensures

pub returns-in_ok-fault_of-in-Err : goal.returns-in_ok-fault_of-in-Err
returns-in_ok-fault_of-in-Err c =
    read-bad c.args.name.now (reading c.args.bytes.now) c.in-Err.end _
    (subst (λ (src : List ℕ). Reads c.args.name.now (Err c.in-Err.end) (reading src)) c.as_slice.ensures c.in-Err.ensures.exact) c.in_ok-fault_of-in-Err.ensures
