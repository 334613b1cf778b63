use Rattle.std.proofs.Common.{◌≡◌, drop}
use Rattle.pha_nexus.specs.Matching.{first_file}
use Rattle.edt_bound.proofs.matching.first_file.Given as goal

abbrev pub invariant-loop-compat : goal.invariant-loop-compat
invariant-loop-compat l = first_file l.lib l.buses (drop l.compat-index l.compats) ≡ first_file l.lib l.buses l.compats
