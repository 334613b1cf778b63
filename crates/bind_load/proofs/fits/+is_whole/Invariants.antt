use Rattle.std.proofs.Common.{◌≡◌, drop}
use Rattle.bind_load.specs.Inner.Seen.{items_of, pairs_of}
use Rattle.bind_load.specs.Forms.{are_whole, are_whole_pairs}
use Rattle.bind_load.proofs.fits.+is_whole.Given as goal

abbrev pub decreases-is_whole : goal.decreases-is_whole
decreases-is_whole l = goal.size-is_whole l

abbrev pub invariant-loop-item : goal.invariant-loop-item
invariant-loop-item l = are_whole (items_of (drop l.item-index l.item-items)) ≡ are_whole (items_of l.item-items)

abbrev pub invariant-loop-value : goal.invariant-loop-value
invariant-loop-value l = are_whole_pairs (pairs_of (drop l.value-index l.value-items)) ≡ are_whole_pairs (pairs_of l.value-items)
