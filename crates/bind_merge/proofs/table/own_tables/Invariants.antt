use Rattle.std.proofs.Common.{drop}
use Rattle.bind_merge.proofs.TablesOf.{SoFar}
use Rattle.bind_merge.proofs.table.own_tables.Given as goal

abbrev pub invariant-loop-level : goal.invariant-loop-level
invariant-loop-level l = SoFar l.own (drop l.level-index l.own) l.levels.items
