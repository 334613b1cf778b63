use Rattle.std.proofs.Common.{◌+◌}
use Rattle.c_macro.proofs.numbers.NumberSets.+with.Given as goal

abbrev pub decreases-with : goal.decreases-with
decreases-with l = l.set + l.number
