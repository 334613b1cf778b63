use Rattle.std.proofs.Common.{◌≡◌, drop}
use Rattle.yaml_profile.specs.Scalars.{spelled}
use Rattle.yaml_profile.proofs.scalar.spelled.Given as goal

abbrev pub invariant-loop-c : goal.invariant-loop-c
invariant-loop-c l = spelled l.base l.so_far (drop l.c-index l.digits) ≡ spelled l.base 0 l.digits
