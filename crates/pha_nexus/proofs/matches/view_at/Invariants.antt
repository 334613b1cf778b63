use Rattle.std.proofs.Common.{◌≡◌, ◌-◌}
use Rattle.bind_merge.specs.LibraryData.{levels_of}
use Rattle.pha_nexus.specs.Matching.{steps_down}
use Rattle.pha_nexus.proofs.matches.view_at.Given as goal

abbrev pub invariant-loop : goal.invariant-loop
invariant-loop l = steps_down (l.steps - l.counter) l.view ≡ steps_down l.steps (levels_of l.lib.bindings l.fn.file)
