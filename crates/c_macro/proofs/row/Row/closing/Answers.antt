use Rattle.c_macro.proofs.RowLaws.{seeking_unclosed, seeking_comma, seeking_item}
use Rattle.c_macro.proofs.row.Row.closing.Goals as goal

pub returns-in-Unclosed : goal.returns-in-Unclosed
returns-in-Unclosed c = seeking_unclosed c.args.self.now c.loop-left.left c.loop-left.invariant (rw c.in-Unclosed.is at c.step.ensures)

pub loop-left-preserved-in-Comma : goal.loop-left-preserved-in-Comma
loop-left-preserved-in-Comma c = seeking_comma c.args.self.now c.loop-left.left c.skip.new.self c.loop-left.invariant (rw c.in-Comma.is at c.step.ensures) c.skip.ensures

pub loop-left-preserved : goal.loop-left-preserved
loop-left-preserved c = seeking_item c.args.self.now c.loop-left.left c.skip-in-Item.new.self c.in-Item.count c.loop-left.invariant (rw c.in-Item.is at c.step.ensures) c.skip-in-Item.ensures
