use Rattle.std.proofs.Common.{◌+◌}
use Rattle.c_macro.proofs.numbers.NumberSets.+common.Given as goal

abbrev pub decreases-common : goal.decreases-common
decreases-common l = l.a + l.b
