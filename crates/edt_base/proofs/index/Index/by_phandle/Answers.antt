use Rattle.edt_base.specs.NodeData.{has_phandle}
use Rattle.edt_base.proofs.IndexLemmas.{found_position, phandles_only}
use Rattle.edt_base.proofs.index.Index.by_phandle.Goals as goal

pub returns : goal.returns
returns c =
    found_position (has_phandle c.args.number) c.args.nodes.now (phandles_only c.args.nodes.now c.requires.apart c.args.number) c.find_phandle.result c.find_phandle.ensures
