use Rattle.std.proofs.Common.{◌≡◌, ◌++◌, length}
use Rattle.edt_base.specs.Cells.{cells_of}
use Rattle.pha_nexus.specs.Passing.{blended}
use Rattle.pha_nexus.proofs.passing.blended.Given as goal

abbrev pub invariant-loop-cell : goal.invariant-loop-cell
invariant-loop-cell l = l.sent.items ++ blended l.owns (cells_of l.pass) l.others
    ≡ l.initial.sent.items ++ blended l.own (cells_of l.initial.pass) l.other

abbrev pub decreases-loop-cell : goal.decreases-loop-cell
decreases-loop-cell l = length l.owns
