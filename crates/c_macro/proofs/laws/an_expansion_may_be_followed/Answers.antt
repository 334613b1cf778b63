use Rattle.c_macro.proofs.FollowLaws.{expands_before as law}
use Rattle.c_macro.proofs.laws.an_expansion_may_be_followed.Goals as goal

pub returns : goal.returns
returns c = law
