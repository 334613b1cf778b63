use Rattle.edt_base.specs.NodeData.{has_path}
use Rattle.edt_base.proofs.IndexLemmas.{found_position, paths_only}
use Rattle.edt_base.proofs.index.Index.find.Goals as goal

pub returns : goal.returns
returns c =
    found_position (has_path c.args.path.now) c.args.nodes.now (paths_only c.args.nodes.now c.requires.apart c.args.path.now) c.find_path.result c.find_path.ensures
