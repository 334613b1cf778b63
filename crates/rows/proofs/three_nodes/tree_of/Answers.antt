use Rattle.rows.proofs.ThreeNodes.{are_well_formed}
use Rattle.rows.proofs.three_nodes.tree_of.Goals as goal

pub grown-requires : goal.grown-requires
grown-requires c = are_well_formed c.in_ok-nodes.nodes.items c.args.top.entries c.args.middle.entries c.args.low.entries c.in_ok-nodes.ensures c.requires.top c.requires.middle c.requires.low
