use Rattle.c_macro.proofs.GlueLaws.{words_are_joined as law}
use Rattle.c_macro.proofs.laws.words_are_joined.Goals as goal

pub returns : goal.returns
returns c = law
