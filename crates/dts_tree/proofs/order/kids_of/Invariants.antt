use Rattle.std.proofs.Common.{◌≡◌, drop}
use Rattle.dts_tree.specs.Inner.Grown.{kids_from, kids_of}
use Rattle.dts_tree.proofs.order.kids_of.Given as goal

abbrev pub invariant-loop-slot : goal.invariant-loop-slot
invariant-loop-slot l = kids_from l.keep l.nodes l.slot l.lists.items (drop l.slot l.spots) ≡ kids_of l.spots l.keep l.nodes
