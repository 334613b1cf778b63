use Rattle.std.proofs.Common.{◌≡◌, ◌<◌, length}
use Rattle.pha_nexus.specs.Chain.{followed, followed_within}
use Rattle.pha_nexus.proofs.following.go_along.Given as goal

abbrev pub invariant-loop-map : goal.invariant-loop-map
invariant-loop-map l = (followed_within l.left l.t.nodes l.space l.at l.carried.items
    ≡ followed l.t.nodes l.space l.initial.at l.initial.carried.items)
    × (l.at < length l.t.nodes)

abbrev pub decreases-loop-map : goal.decreases-loop-map
decreases-loop-map l = l.left
