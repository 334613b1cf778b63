use Rattle.c_tokens.proofs.CountLaws.{numbers_count_newlines as law}
use Rattle.c_tokens.proofs.laws.numbers_count_newlines.Goals as goal

pub returns : goal.returns
returns c = law
