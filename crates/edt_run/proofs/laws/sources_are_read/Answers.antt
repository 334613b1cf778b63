use Rattle.edt_run.proofs.SmallLaws.{sound, complete}
use Rattle.edt_run.proofs.laws.sources_are_read.Goals as goal

pub returns : goal.returns
returns c = record { sound = sound; complete = complete }
