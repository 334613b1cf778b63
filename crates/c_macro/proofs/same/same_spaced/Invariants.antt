use Rattle.std.proofs.Common.{◌≡◌, length}
use Rattle.c_macro.specs.Directive.{same_spaced}
use Rattle.c_macro.proofs.same.same_spaced.Given as goal

abbrev pub invariant-loop-t : goal.invariant-loop-t
invariant-loop-t l = same_spaced l.a l.b ≡ same_spaced l.initial.a l.initial.b

abbrev pub decreases-loop-t : goal.decreases-loop-t
decreases-loop-t l = length l.a
