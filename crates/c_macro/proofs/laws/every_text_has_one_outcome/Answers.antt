use Rattle.c_macro.proofs.OneOutcome.{one_outcome}
use Rattle.c_macro.proofs.laws.every_text_has_one_outcome.Goals as goal

pub returns : goal.returns
returns c = one_outcome
