use Rattle.std.proofs.Common.{length}
use Rattle.c_macro.specs.Machine.{Listing}
use Rattle.c_macro.proofs.machine.todos_of.Given as goal

abbrev pub invariant-loop-row : goal.invariant-loop-row
invariant-loop-row l = Listing l.needs l.initial.args.items l.args.items l.todo.items

abbrev pub decreases-loop-row : goal.decreases-loop-row
decreases-loop-row l = length l.args.items
