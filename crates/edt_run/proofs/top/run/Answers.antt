use Rattle.edt_run.proofs.PromiseLaws.{keeps}
use Rattle.edt_run.proofs.top.run.Goals as goal

pub returns : goal.returns
returns g c = keeps _ c.carry_out.ensures
