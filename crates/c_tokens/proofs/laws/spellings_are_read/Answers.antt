use Rattle.c_tokens.proofs.EndLaws.{spellings_are_read as law}
use Rattle.c_tokens.proofs.laws.spellings_are_read.Goals as goal

pub returns : goal.returns
returns c = law
