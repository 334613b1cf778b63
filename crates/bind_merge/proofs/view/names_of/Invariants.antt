use Rattle.std.proofs.Common.{◌≡◌, ◌++◌, map, drop}
use Rattle.bind_merge.specs.Levels.{EntryData}
use Rattle.bind_merge.proofs.view.names_of.Given as goal

abbrev pub invariant-loop-entry : goal.invariant-loop-entry
invariant-loop-entry l =
    map (λ n. n.now) l.names.items ++ map (λ (e : EntryData). e.name) (drop l.entry-index l.entries) ≡ map (λ (e : EntryData). e.name) l.entries
