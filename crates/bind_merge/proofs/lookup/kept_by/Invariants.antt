use Rattle.std.proofs.Common.{◌≡◌, ◌++◌, drop}
use Rattle.std.specs.List.{filter}
use Rattle.bind_merge.specs.Levels.{EntryData}
use Rattle.bind_merge.specs.Looking.{is_kept}
use Rattle.bind_merge.proofs.lookup.kept_by.Given as goal

abbrev pub invariant-loop-entry : goal.invariant-loop-entry
invariant-loop-entry l =
    l.kept.items ++ filter (λ (e : EntryData). is_kept l.among l.names e.name) (drop l.entry-index l.entries) ≡ filter (λ (e : EntryData). is_kept l.among l.names e.name) l.entries
