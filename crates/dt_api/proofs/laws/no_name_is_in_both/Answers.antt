use Rattle.dt_api.proofs.NoBoth.{no_name_is_in_both}
use Rattle.dt_api.proofs.laws.no_name_is_in_both.Goals as goal

pub returns : goal.returns
returns c = no_name_is_in_both
