use Rattle.std.proofs.Common.{◌≡◌, ◌++◌, [], length, unwrap_or}
use Rattle.std.specs.List.{flat_map}
use Rattle.dt_names.specs.Facts.{inst_facts}
use Rattle.dt_names.proofs.inst_rows.InstRows.next.Given as goal

abbrev pub invariant-loop-self : goal.invariant-loop-self
invariant-loop-self l = unwrap_or l.self-inside.places [] ++ (l.self-inside.okay ++ flat_map (inst_facts l.self-inside.bound.now.tree.nodes) l.self-inside.rest.now) ≡ l.fn.self

abbrev pub decreases-loop-self : goal.decreases-loop-self
decreases-loop-self l = length l.self-inside.rest.now
