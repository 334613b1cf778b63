-- What is left of the slots, behind the text so far, is the path.
use Rattle.std.proofs.Common.{◌≡◌, reverse, fold, length, string_bytes}
use Rattle.dts_tree.specs.Inner.Grown.{with_slash, text_of}
use Rattle.dts_tree.proofs.names.slot_text.Given as goal

abbrev pub invariant-loop-at : goal.invariant-loop-at
invariant-loop-at l = fold (with_slash l.spots) (string_bytes l.text) (reverse l.chain.items) ≡ text_of l.spots l.slot

abbrev pub decreases-loop-at : goal.decreases-loop-at
decreases-loop-at l = length l.chain.items
