use Rattle.std.proofs.Common.{◌≡◌, length}
use Rattle.c_macro.specs.Directive.{some_params}
use Rattle.c_macro.specs.Reading.{behind_names}
use Rattle.c_macro.proofs.directive.some_params.Given as goal

abbrev pub invariant-loop-left : goal.invariant-loop-left
invariant-loop-left l = behind_names l.names.items (some_params l.left) ≡ some_params l.toks

abbrev pub decreases-loop-left : goal.decreases-loop-left
decreases-loop-left l = length l.left
