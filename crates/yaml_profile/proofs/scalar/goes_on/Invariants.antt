use Rattle.std.proofs.Common.{◌≡◌, drop, false}
use Rattle.yaml_profile.specs.Scalars.{goes_on}
use Rattle.yaml_profile.proofs.scalar.goes_on.Given as goal

abbrev pub invariant-loop-c : goal.invariant-loop-c
invariant-loop-c l = goes_on l.behind_e (drop l.c-index l.text) ≡ goes_on false l.text
