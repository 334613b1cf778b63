-- What is handed on is settled; what ended before has no tree.
use Rattle.dts_tree.specs.Outcome.{drafted}
use Rattle.dts_tree.proofs.Handing.{ends_before, goes_on}
use Rattle.dts_tree.proofs.building.build.Goals as goal

pub returns-in-Ok : goal.returns-in-Ok
returns-in-Ok c = goes_on (drafted c.args.files.now.items c.args.scripts.now.items) _ _ c.in-Ok.ensures.drafted c.finish.ensures

pub returns-in-Err : goal.returns-in-Err
returns-in-Err c = ends_before _ (drafted c.args.files.now.items c.args.scripts.now.items) _ c.in-Err.ensures.drafted
