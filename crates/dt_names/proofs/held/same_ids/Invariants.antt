use Rattle.std.proofs.Common.{map, length}
use Rattle.dt_names.specs.Clash.{AreSame}
use Rattle.dt_names.specs.Facts.{id_at}
use Rattle.dt_names.proofs.held.same_ids.Given as goal

abbrev pub invariant-loop-x : goal.invariant-loop-x
invariant-loop-x l = AreSame (map (id_at l.a.tree.nodes) l.first) (map (id_at l.b.tree.nodes) l.second) → AreSame (map (id_at l.a.tree.nodes) l.left) (map (id_at l.b.tree.nodes) l.right)

abbrev pub decreases-loop-x : goal.decreases-loop-x
decreases-loop-x l = length l.first
