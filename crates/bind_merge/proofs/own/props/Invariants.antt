use Rattle.std.proofs.Common.{◌≡◌, ◌++◌, map}
use Rattle.std.specs.Vec.Iter.{into_iter_items}
use Rattle.bind_load.specs.RecordSeen.{prop_of}
use Rattle.bind_merge.specs.Levels.{prop_entry}
use Rattle.bind_merge.proofs.own.props.Given as goal

abbrev pub invariant-loop-name : goal.invariant-loop-name
invariant-loop-name l =
    (goal.iterator-loop-name).can_next l.name-iterator × (goal.iterator-loop-name).is_finite l.name-iterator
    × (l.entries.items ++ map prop_entry (map prop_of (into_iter_items l.name-iterator)) ≡ map prop_entry (map prop_of l.fn.specs.items))
