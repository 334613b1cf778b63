use Rattle.bind_merge.proofs.Libraries.{found_some, one_found}
use Rattle.bind_merge.proofs.library.Library.find.Goals as goal

pub returns-in-Some-clause-bound : goal.returns-in-Some-clause-bound
returns-in-Some-clause-bound c =
    found_some c.args.self.now c.args.compat.now _ c.find.result
    (one_found c.self.inside.files.items c.self.inside.loaded c.args.self.now c.self.view_is c.self.invariant.1 c.in-Some.loaded c.in-Some.is c.args.compat.now _ c.find.result c.find.ensures)
