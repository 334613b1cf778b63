use Rattle.std.proofs.Common.{◌≡◌, drop}
use Rattle.bind_merge.specs.Checks.{level_rule}
use Rattle.bind_merge.specs.Options.{first_some}
use Rattle.bind_merge.proofs.checks.merged_rule.Given as goal

abbrev pub invariant-loop-level : goal.invariant-loop-level
invariant-loop-level l = first_some level_rule (drop l.level-index l.levels) ≡ first_some level_rule l.levels
