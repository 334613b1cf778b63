use Rattle.std.proofs.Common.{◌≡◌, ◌++◌, List, ℕ, length, true}
use Rattle.edt_base.specs.Forms.{form_of}
use Rattle.edt_base.specs.Put.{Put}
use Rattle.head_write.proofs.text.put_form.Given as goal

-- the form so far was put, and that of what is left is the rest
abbrev pub invariant-loop-left : goal.invariant-loop-left
invariant-loop-left g l =
    (text : List ℕ) × (text ++ form_of l.left ≡ form_of l.text)
    × Put (g.S.Sink.seen l.initial.out) (g.S.Sink.seen l.out) l.initial.block l.block text true

abbrev pub decreases-loop-left : goal.decreases-loop-left
decreases-loop-left g l = length l.left
