use Rattle.edt_run.proofs.PromiseLaws.{ends_with_answer}
use Rattle.edt_run.proofs.laws.sure_runs_end_with_the_answer.Goals as goal

pub returns : goal.returns
returns c = ends_with_answer
