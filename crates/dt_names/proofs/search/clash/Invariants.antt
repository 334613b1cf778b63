use Rattle.std.proofs.Common.{length}
use Rattle.dt_names.specs.Facts.{facts}
use Rattle.dt_names.specs.Inner.Scanned.{IsScanned}
use Rattle.dt_names.proofs.search.clash.Given as goal

abbrev pub invariant-loop-doubles : goal.invariant-loop-doubles
invariant-loop-doubles l = IsScanned (facts l.b) l.labels.left l.labels.texts l.keys.keys l.held.items l.doubles.items

abbrev pub decreases-loop-doubles : goal.decreases-loop-doubles
decreases-loop-doubles l = length l.labels.left
