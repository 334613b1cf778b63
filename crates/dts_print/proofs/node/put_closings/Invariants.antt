use Rattle.std.proofs.Common.{◌≡◌, ◌++◌, List, ℕ, true}
use Rattle.edt_base.specs.Put.{Put}
use Rattle.dts_print.specs.Inner.Steps.{closings}
use Rattle.dts_print.proofs.node.put_closings.Given as goal

-- the lines so far were put, and those that are left are the rest
abbrev pub invariant-loop-depth : goal.invariant-loop-depth
invariant-loop-depth g l =
    (text : List ℕ) × (text ++ closings l.depth l.left ≡ closings l.opened l.left)
    × Put (g.S.Sink.seen l.initial.out) (g.S.Sink.seen l.out) l.initial.block l.block text true

abbrev pub decreases-loop-depth : goal.decreases-loop-depth
decreases-loop-depth g l = l.depth
