use Rattle.std.proofs.Common.{◌≡◌, ◌++◌, map, drop}
use Rattle.edt_base.specs.Ids.{id_size}
use Rattle.edt_base.proofs.id_len.id_lens.Given as goal

abbrev pub invariant-loop-node : goal.invariant-loop-node
invariant-loop-node l = l.lens.items ++ map (λ n. id_size n.path) (drop l.node-index l.nodes) ≡ map (λ n. id_size n.path) l.nodes
