use Rattle.std.proofs.Common.{◌≡◌, map, take, List, ℕ, Bor}
use Rattle.edt_run.specs.Nodes.{name_of}
use Rattle.edt_run.proofs.apart.names_of.Given as goal

abbrev pub invariant-loop-node : goal.invariant-loop-node
invariant-loop-node l = map {A = Bor (List ℕ)} {B = List ℕ} (λ b. b.now) l.names.items ≡ map name_of (take l.node-index l.nodes)
