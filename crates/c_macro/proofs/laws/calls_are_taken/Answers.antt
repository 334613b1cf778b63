use Rattle.c_macro.proofs.CallLaws.{calls_are_taken as law}
use Rattle.c_macro.proofs.laws.calls_are_taken.Goals as goal

pub returns : goal.returns
returns c = law
