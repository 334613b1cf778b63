use Rattle.edt_run.proofs.AnswerLaws.{one_answer}
use Rattle.edt_run.proofs.laws.one_answer.Goals as goal

pub returns : goal.returns
returns c = one_answer
