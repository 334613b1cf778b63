use Rattle.dt_names.proofs.Told.{names_told}
use Rattle.dt_names.proofs.laws.names_are_told.Goals as goal

pub returns : goal.returns
returns c = names_told
