use Rattle.std.proofs.Common.{◌≡◌, ◌≤◌, true, length, drop}
use Rattle.std.specs.List.{list_all}
use Rattle.bind_merge.specs.Inner.Resolving.{is_ready, own_includes}
use Rattle.bind_merge.proofs.Bringing.{Going}
use Rattle.bind_merge.proofs.merging.merged.Given as goal

abbrev pub invariant-loop-level : goal.invariant-loop-level
invariant-loop-level l = record {
  at_is : l.at ≡ l.level-index;
  at_in : length l.own ≤ length l.levels.items;
  ready : list_all (is_ready l.names l.resolved) (own_includes l.level-index (drop l.level-index l.own)) ≡ true;
  going : Going l.names l.resolved l.initial.levels.items (own_includes 0 l.own) l.levels.items (own_includes l.level-index (drop l.level-index l.own));
}
