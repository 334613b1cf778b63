use Rattle.bind_merge.proofs.own.+push_levels.Given as goal

abbrev pub decreases-push_levels : goal.decreases-push_levels
decreases-push_levels l = goal.size-push_levels l
