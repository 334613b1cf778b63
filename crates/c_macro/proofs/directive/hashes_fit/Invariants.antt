use Rattle.std.proofs.Common.{◌≡◌, length}
use Rattle.c_macro.specs.Directive.{hashes_fit}
use Rattle.c_macro.proofs.directive.hashes_fit.Given as goal

abbrev pub invariant-loop-tok : goal.invariant-loop-tok
invariant-loop-tok l = hashes_fit l.places l.left ≡ hashes_fit l.places l.body

abbrev pub decreases-loop-tok : goal.decreases-loop-tok
decreases-loop-tok l = length l.left
