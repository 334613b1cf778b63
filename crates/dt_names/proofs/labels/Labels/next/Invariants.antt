use Rattle.std.proofs.Common.{◌≡◌, ◌++◌, length}
use Rattle.dt_names.specs.Inner.Keys.{Keeps}
use Rattle.dt_names.specs.Inner.Kept.{AreKept, HasEntry}
use Rattle.dt_names.specs.Inner.Parts.{sections_left}
use Rattle.dt_names.specs.Inner.Sections.{joined}
use Rattle.dt_names.proofs.labels.Labels.next.Given as goal

abbrev pub invariant-loop-known : goal.invariant-loop-known
invariant-loop-known l =
    AreKept l.self-inside.texts l.self-inside.here
    × HasEntry l.self-inside.texts l.self-inside.entry l.self-inside.here.rows
    × (l.self-inside.here.rows ++ joined (sections_left l.self-inside.here.rest) ≡ l.fn.self.left)
    × Keeps l.fn.self.texts l.self-inside.texts

abbrev pub decreases-loop-known : goal.decreases-loop-known
decreases-loop-known l = length (sections_left l.self-inside.here.rest)
