use Rattle.std.proofs.Common.{◌≡◌, drop}
use Rattle.bind_merge.specs.Inner.Heights.{all_low}
use Rattle.bind_merge.proofs.resolve.has_height.Given as goal

abbrev pub invariant-loop-level : goal.invariant-loop-level
invariant-loop-level l = all_low l.names l.resolved l.height l.levels ≡ all_low l.names l.resolved l.height (drop l.level-index l.levels)
