use Rattle.edt_base.proofs.ValueLaws.{utf8_yes, utf8_no}
use Rattle.edt_base.proofs.strings.utf8_text.Goals as goal

pub returns-in-Ok : goal.returns-in-Ok
returns-in-Ok c = utf8_yes c.args.bytes.now c.in-Ok.text.now c.in-Ok.ensures.cases.0 c.in-Ok.ensures.cases.1

pub returns-in-Err : goal.returns-in-Err
returns-in-Err c = utf8_no c.args.bytes.now c.in-Err.ensures.cases.0
