use Rattle.std.proofs.Common.{sym}
use Rattle.dt_names.proofs.Drops.{drop_past, stands_at}
use Rattle.dt_names.proofs.child_place.node_from.Goals as goal

pub returns-in-Some : goal.returns-in-Some
returns-in-Some c = stands_at c.args.bound.now.tree.nodes c.args.index _ c.tree_is_well_formed.ensures.few (sym c.in-Some.ensures)

pub returns-in-None : goal.returns-in-None
returns-in-None c = drop_past c.args.bound.now.tree.nodes c.args.index (sym c.in-None.ensures)
