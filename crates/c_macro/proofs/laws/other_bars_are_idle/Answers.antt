use Rattle.c_macro.proofs.BarLaws.{other_bars_are_idle as law}
use Rattle.c_macro.proofs.laws.other_bars_are_idle.Goals as goal

pub returns : goal.returns
returns c = law
