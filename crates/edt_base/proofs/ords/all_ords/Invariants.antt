use Rattle.std.proofs.Common.{◌≡◌, ◌++◌, map, drop}
use Rattle.edt_base.specs.Ords.{ords_of}
use Rattle.edt_base.proofs.ords.all_ords.Given as goal

abbrev pub invariant-loop-node : goal.invariant-loop-node
invariant-loop-node l = l.ords.items ++ map (ords_of l.nodes) (drop l.node-index l.nodes) ≡ map (ords_of l.nodes) l.nodes
