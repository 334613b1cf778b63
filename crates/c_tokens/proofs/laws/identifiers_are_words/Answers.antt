use Rattle.c_tokens.proofs.WordLaws.{identifiers_are_words as law}
use Rattle.c_tokens.proofs.laws.identifiers_are_words.Goals as goal

pub returns : goal.returns
returns c = law
