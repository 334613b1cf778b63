use Rattle.std.proofs.Common.{◌≡◌, ◌++◌, ◌-◌, length, codes, drop, map}
use Rattle.dt_names.specs.Facts.{each, label_facts, link}
use Rattle.dt_names.proofs.tree_rows.LabelRows.next.Given as goal

abbrev pub invariant-loop-label : goal.invariant-loop-label
invariant-loop-label l = map (λ label. link l.self-inside.bound.now.tree.nodes (codes "DT_N_NODELABEL_") (label, l.self-inside.owner)) l.self-inside.labels.now ++ each (label_facts l.self-inside.bound.now.tree.nodes) l.self-inside.index (drop l.self-inside.index l.self-inside.bound.now.tree.nodes) ≡ l.fn.self

abbrev pub decreases-loop-label : goal.decreases-loop-label
decreases-loop-label l = length l.self-inside.bound.now.tree.nodes - l.self-inside.index
