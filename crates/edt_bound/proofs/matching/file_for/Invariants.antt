use Rattle.std.proofs.Common.{◌≡◌, drop}
use Rattle.pha_nexus.specs.Matching.{file_for}
use Rattle.edt_bound.proofs.matching.file_for.Given as goal

abbrev pub invariant-loop-bus : goal.invariant-loop-bus
invariant-loop-bus l = file_for l.lib (drop l.bus-index l.buses) l.compat ≡ file_for l.lib l.buses l.compat
