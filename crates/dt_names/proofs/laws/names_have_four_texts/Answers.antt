use Rattle.dt_names.proofs.Alike.{names_have_texts}
use Rattle.dt_names.proofs.laws.names_have_four_texts.Goals as goal

pub returns : goal.returns
returns c = names_have_texts
