use Rattle.edt_base.specs.YamlData.{value_of}
use Rattle.bind_merge.proofs.ReadAnswers.{load-bad, load-good}
use Rattle.bind_merge.proofs.reading.record_of.Goals as goal

pub returns-in_ok-own_levels-in-Ok : goal.returns-in_ok-own_levels-in-Ok
returns-in_ok-own_levels-in-Ok c =
    load-good c.args.name.now (value_of c.args.value.now) c.in-Ok.rec _ c.in-Ok.ensures c.in_ok-own_levels-in-Ok.ensures

pub returns-in_ok-fault_of-in-Err : goal.returns-in_ok-fault_of-in-Err
returns-in_ok-fault_of-in-Err c =
    load-bad c.args.name.now (value_of c.args.value.now) c.in-Err.end _ c.in-Err.ensures c.in_ok-fault_of-in-Err.ensures
