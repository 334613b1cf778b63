use Rattle.std.proofs.Common.{◌≡◌, length}
use Rattle.edt_base.specs.Nodes.{okay_of}
use Rattle.dt_names.specs.Inner.Places.{places_in}
use Rattle.dt_names.proofs.list.next_okay_place.Given as goal

abbrev pub invariant-loop-place : goal.invariant-loop-place
invariant-loop-place l = okay_of l.bound.tree.nodes (places_in l.left) ≡ okay_of l.bound.tree.nodes (places_in l.fn.places)

abbrev pub decreases-loop-place : goal.decreases-loop-place
decreases-loop-place l = length (places_in l.left)
