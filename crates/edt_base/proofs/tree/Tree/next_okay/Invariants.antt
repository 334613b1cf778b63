use Rattle.std.proofs.Common.{◌≡◌, length}
use Rattle.edt_base.specs.Nodes.{okay_of}
use Rattle.edt_base.proofs.tree.Tree.next_okay.Given as goal

abbrev pub invariant-loop-id : goal.invariant-loop-id
invariant-loop-id l = okay_of l.self.nodes l.left ≡ okay_of l.self.nodes l.ids

abbrev pub decreases-loop-id : goal.decreases-loop-id
decreases-loop-id l = length l.left
