use Rattle.std.proofs.Common.{◌≡◌, map, take}
use Rattle.dts_tree.specs.Inner.Left.{slot_draft}
use Rattle.dts_tree.proofs.parts.drafts.Given as goal

abbrev pub invariant-loop-slot : goal.invariant-loop-slot
invariant-loop-slot l = l.drafts.items ≡ map (slot_draft l.known.finder l.known.grown l.known.props.items l.places.items) (take l.slot-index l.kept)
