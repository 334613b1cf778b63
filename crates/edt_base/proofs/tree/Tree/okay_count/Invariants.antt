use Rattle.std.proofs.Common.{◌≡◌, ◌+◌, ◌≤◌, length}
use Rattle.edt_base.specs.Nodes.{okay_of}
use Rattle.edt_base.proofs.tree.Tree.okay_count.Given as goal

abbrev pub invariant-loop-id : goal.invariant-loop-id
invariant-loop-id l = (l.count + length (okay_of l.self.nodes l.left) ≡ length (okay_of l.self.nodes l.ids)) × (l.count + length l.left ≤ length l.ids)

abbrev pub decreases-loop-id : goal.decreases-loop-id
decreases-loop-id l = length l.left
