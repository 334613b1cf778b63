use Rattle.std.proofs.Common.{◌≤◌, Bool, List, length, drop}
use Rattle.bind_load.specs.RecordSeen.{filter_of}
use Rattle.bind_merge.specs.Levels.{LevelTable}
use Rattle.bind_merge.specs.Adding.{Comes}
use Rattle.bind_merge.specs.Filtering.{filters_of}
use Rattle.bind_merge.proofs.table.include.Given as goal

abbrev pub invariant-loop-level : goal.invariant-loop-level
invariant-loop-level l = record {
  next_in : l.next ≤ length l.levels.items;
  comes : (b : Bool) (us : List LevelTable) → Comes b l.levels.items l.next (drop l.level-index l.included) (filters_of l.left) us
      → Comes b l.initial.levels.items l.at l.included (filter_of l.filter) us;
}
