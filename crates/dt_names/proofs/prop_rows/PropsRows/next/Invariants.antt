use Rattle.std.proofs.Common.{◌≡◌, ◌++◌, [], length, unwrap_or}
use Rattle.std.specs.List.{flat_map}
use Rattle.edt_base.specs.Nodes.{path_at}
use Rattle.dt_names.specs.Facts.{prop_facts}
use Rattle.dt_names.proofs.prop_rows.PropsRows.next.Given as goal

abbrev pub invariant-loop-self : goal.invariant-loop-self
invariant-loop-self l = unwrap_or l.self-inside.prop [] ++ flat_map (prop_facts l.self-inside.bound.now.tree.nodes l.self-inside.owner (path_at l.self-inside.bound.now.tree.nodes l.self-inside.owner)) l.self-inside.rest.now ≡ l.fn.self

abbrev pub decreases-loop-self : goal.decreases-loop-self
decreases-loop-self l = length l.self-inside.rest.now
