use Rattle.rows.proofs.ThreeNodes.{alone_with}
use Rattle.rows.proofs.three_nodes.grown.Goals as goal

pub new-requires-3 : goal.new-requires-3
new-requires-3 c = alone_with c.args.nodes.items c.new.result.items c.new-2.result.items c.requires c.new.ensures.items c.new-2.ensures.items
