use Rattle.c_tokens.proofs.WordLaws.{identifiers_grow as law}
use Rattle.c_tokens.proofs.laws.identifiers_grow.Goals as goal

pub returns : goal.returns
returns c = law
