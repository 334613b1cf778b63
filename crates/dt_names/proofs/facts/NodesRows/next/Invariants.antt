use Rattle.std.proofs.Common.{◌≡◌, ◌++◌, ◌-◌, [], length, drop, unwrap_or}
use Rattle.dt_names.specs.Facts.{each, titled_node}
use Rattle.dt_names.proofs.facts.NodesRows.next.Given as goal

abbrev pub invariant-loop-self : goal.invariant-loop-self
invariant-loop-self l = unwrap_or l.self-inside.node [] ++ each (titled_node l.self-inside.bound.now) l.self-inside.index (drop l.self-inside.index l.self-inside.bound.now.tree.nodes) ≡ l.fn.self

abbrev pub decreases-loop-self : goal.decreases-loop-self
decreases-loop-self l = length l.self-inside.bound.now.tree.nodes - l.self-inside.index
