use Rattle.std.proofs.Common.{◌≡◌, ◌++◌, map}
use Rattle.std.specs.Vec.Iter.{into_iter_items}
use Rattle.bind_merge.specs.Levels.{space_entry}
use Rattle.bind_merge.proofs.own.spaces.Given as goal

abbrev pub invariant-loop-space : goal.invariant-loop-space
invariant-loop-space l =
    (goal.iterator-loop-space).can_next l.space-iterator × (goal.iterator-loop-space).is_finite l.space-iterator
    × (l.entries.items ++ map space_entry (map (λ e. (e.0, e.1.items)) (into_iter_items l.space-iterator)) ≡ map space_entry (map (λ e. (e.0, e.1.items)) l.fn.cells.items))
