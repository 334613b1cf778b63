use Rattle.c_macro.proofs.FollowLaws.{idle_tokens_stay as law}
use Rattle.c_macro.proofs.laws.idle_tokens_stay.Goals as goal

pub returns : goal.returns
returns c = law
