use Rattle.std.proofs.Common.{◌≡◌, length}
use Rattle.c_macro.specs.Directive.{same_names}
use Rattle.c_macro.proofs.same.same_names.Given as goal

abbrev pub invariant-loop-x : goal.invariant-loop-x
invariant-loop-x l = same_names l.a l.b ≡ same_names l.initial.a l.initial.b

abbrev pub decreases-loop-x : goal.decreases-loop-x
decreases-loop-x l = length l.a
