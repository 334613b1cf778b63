-- The law, by its lemmas.
use Rattle.dts_tree.proofs.DeedLaws.{uncovered_done, uncovered_deleted}
use Rattle.dts_tree.proofs.laws.deeds_stay_until_they_are_covered.Goals as goal

pub returns : goal.returns
returns c = record { done = uncovered_done; deleted = uncovered_deleted }
