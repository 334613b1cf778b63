use Rattle.std.proofs.Common.{◌≡◌, ◌<◌}
use Rattle.c_macro.specs.NumberData.{numbers_of, sets_count}
use Rattle.c_macro.proofs.numbers.NumberSets.has.Given as goal

abbrev pub invariant-loop-at : goal.invariant-loop-at
invariant-loop-at l = (l.at < sets_count l.self) × (numbers_of l.self l.at l.left ≡ numbers_of l.self l.set l.number)

abbrev pub decreases-loop-at : goal.decreases-loop-at
decreases-loop-at l = l.at
