use Rattle.std.proofs.Common.{◌+◌}
use Rattle.c_macro.proofs.numbers.NumberSets.+either.Given as goal

abbrev pub decreases-either : goal.decreases-either
decreases-either l = l.a + l.b
