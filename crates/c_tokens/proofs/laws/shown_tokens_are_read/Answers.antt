use Rattle.c_tokens.proofs.EndLaws.{shown_tokens_are_read as law}
use Rattle.c_tokens.proofs.laws.shown_tokens_are_read.Goals as goal

pub returns : goal.returns
returns c = law
