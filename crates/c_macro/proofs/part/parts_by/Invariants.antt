use Rattle.std.proofs.Common.{◌≡◌, ◌++◌, length, map}
use Rattle.c_macro.specs.Bodies.{parts}
use Rattle.c_macro.specs.Pending.{part_data}
use Rattle.c_macro.proofs.part.parts_by.Given as goal

abbrev pub invariant-loop-tok : goal.invariant-loop-tok
invariant-loop-tok l = map part_data l.made.items ++ parts l.calls l.places l.right l.left ≡ parts l.calls l.places l.initial.right l.body

abbrev pub decreases-loop-tok : goal.decreases-loop-tok
decreases-loop-tok l = length l.left
