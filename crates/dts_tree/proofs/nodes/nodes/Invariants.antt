use Rattle.std.proofs.Common.{◌≡◌, ◌++◌, All}
use Rattle.std.specs.Vec.Iter.{into_iter_items}
use Rattle.std.specs.Iterator.Adapters.{zip_first, zip_second}
use Rattle.dts_tree.specs.Inner.Nodes.{nodes_from, HasLowParent}
use Rattle.dts_tree.proofs.nodes.nodes.Given as goal

abbrev pub invariant-loop-draft : goal.invariant-loop-draft
invariant-loop-draft l =
    (goal.iterator-loop-draft).can_next l.draft-iterator × (goal.iterator-loop-draft).is_finite l.draft-iterator
    × (l.nodes.items ++ nodes_from (into_iter_items (zip_first (zip_first l.draft-iterator))) (into_iter_items (zip_second (zip_first l.draft-iterator))) (into_iter_items (zip_second l.draft-iterator))
    ≡ nodes_from l.fn.drafts.items l.fn.all.items l.fn.children.items)
    × All HasLowParent (into_iter_items (zip_first (zip_first l.draft-iterator)))
