use Rattle.std.proofs.Common.{subst}
use Rattle.pha_nexus.proofs.MatchLaws.{IsBusAt, good_match, match_of_child, match_of_root}
use Rattle.pha_nexus.proofs.laws.a_match_follows_from_the_parents.Goals as goal

pub returns : goal.returns
returns c = record {
  root = match_of_root;
  child = match_of_child;
  bus = λ t lib id bus well e. subst (IsBusAt t.nodes lib id) e (good_match t lib id well).1;
}
