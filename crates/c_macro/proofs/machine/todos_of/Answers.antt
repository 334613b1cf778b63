use Rattle.std.proofs.Common.{rules}
use Rattle.c_macro.proofs.MachineLaws.{listing_goes, listing_ends}
use Rattle.c_macro.proofs.machine.todos_of.Goals as goal

pub loop-row-preserved : goal.loop-row-preserved
loop-row-preserved c =
    listing_goes c.args.needs.now c.args.args.items c.loop-row.args.items c.pop.new.self.items c.in-Some.row c.loop-row.todo.items c.push.new.self.items c.in_ok-todo_of.field-0
    c.loop-row.invariant c.in-Some.ensures.items c.in_ok-push.ensures.items (rw c.as_slice-number.ensures.value at c.in_ok-todo_of.ensures.is) c.in_ok-todo_of.ensures.known c.in_ok-todo_of.ensures.size

pub returns-clause-known : goal.returns-clause-known
returns-clause-known c = λ s h. (c.loop-row.invariant.known s h).1

pub returns-clause-is : goal.returns-clause-is
returns-clause-is c = λ s ps count n fits. listing_ends c.args.needs.now c.args.args.items c.loop-row.args.items c.loop-row.todo.items c.loop-row.invariant (search rules) s ps count n fits
