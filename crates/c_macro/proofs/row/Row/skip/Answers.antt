use Rattle.c_macro.proofs.RowLaws.{skipped}
use Rattle.c_macro.proofs.row.Row.skip.Goals as goal

pub returns : goal.returns
returns c = skipped c.self.inside.from c.self.inside.to c.args.count _ c.args.self.now c.self.view_is
