use Rattle.std.proofs.Common.{◌≡◌, length}
use Rattle.edt_base.specs.Forms.{form_of}
use Rattle.dt_names.proofs.held.same_form.Given as goal

abbrev pub invariant-loop-x : goal.invariant-loop-x
invariant-loop-x l = form_of l.left ≡ form_of l.right → form_of l.a ≡ form_of l.b

abbrev pub decreases-loop-x : goal.decreases-loop-x
decreases-loop-x l = length l.left
