use Rattle.c_macro.proofs.MoveLaws.{expands_elsewhere as law}
use Rattle.c_macro.proofs.laws.an_expansion_costs_the_same_everywhere.Goals as goal

pub returns : goal.returns
returns c = law
