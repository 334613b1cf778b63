use Rattle.c_macro.proofs.SetLaws.{empty_is}
use Rattle.c_macro.proofs.sets.Sets.empty.Goals as goal

pub returns-clause-none : goal.returns-clause-none
returns-clause-none c = empty_is c.args.self.now
