-- The names of the slots so far, behind the path of the one that is reached, are the path.
use Rattle.std.proofs.Common.{◌≡◌, reverse, fold}
use Rattle.dts_tree.specs.Inner.Grown.{with_slash, text_of}
use Rattle.dts_tree.proofs.names.chain_of.Given as goal

abbrev pub invariant-loop-at : goal.invariant-loop-at
invariant-loop-at l = fold (with_slash l.spots) (text_of l.spots l.at) (reverse l.chain.items) ≡ text_of l.spots l.slot

abbrev pub decreases-loop-at : goal.decreases-loop-at
decreases-loop-at l = l.at
