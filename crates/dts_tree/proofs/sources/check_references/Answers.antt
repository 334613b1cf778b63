-- What was carried out follows the definitions.
use Rattle.dts_tree.specs.Inner.Machine.{carried_all, reader_start}
use Rattle.dts_tree.specs.Reading.{read_all, start}
use Rattle.dts_tree.proofs.Following.{all_follow, start_stands}
use Rattle.dts_tree.proofs.Referring.{tells_ok, tells_err}
use Rattle.dts_tree.proofs.sources.check_references.Goals as goal

pub returns-in-Ok : goal.returns-in-Ok
returns-in-Ok c =
    tells_ok c.args.files.now.items (carried_all 0 reader_start c.args.scripts.now.items) (read_all 0 start c.args.scripts.now.items) _
    (all_follow c.args.scripts.now.items 0 reader_start start start_stands) c.in-Ok.ensures

pub returns : goal.returns
returns c =
    tells_err (Unit {0}) c.args.files.now.items (carried_all 0 reader_start c.args.scripts.now.items) (read_all 0 start c.args.scripts.now.items) _
    (all_follow c.args.scripts.now.items 0 reader_start start start_stands) c.in-Err.ensures
