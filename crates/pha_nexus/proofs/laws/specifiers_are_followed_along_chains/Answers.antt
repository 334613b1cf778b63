use Rattle.pha_nexus.proofs.ChainLaws.{breaks_are_followed, ends_are_followed, followed_breaks, followed_ends}
use Rattle.pha_nexus.proofs.laws.specifiers_are_followed_along_chains.Goals as goal

pub returns : goal.returns
returns c = record { ends = followed_ends; each_end = ends_are_followed; breaks = followed_breaks; each_break = breaks_are_followed }
