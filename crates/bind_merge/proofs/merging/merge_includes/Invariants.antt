use Rattle.std.proofs.Common.{◌≡◌, ◌≤◌, true, length, map, drop}
use Rattle.std.specs.List.{list_all}
use Rattle.bind_load.specs.RecordSeen.{include_of}
use Rattle.bind_merge.specs.Files.{at_level}
use Rattle.bind_merge.specs.Inner.Resolving.{is_ready}
use Rattle.bind_merge.proofs.Bringing.{Going}
use Rattle.bind_merge.proofs.merging.merge_includes.Given as goal

abbrev pub invariant-loop-included : goal.invariant-loop-included
invariant-loop-included l = record {
  at_in : l.at ≤ length l.levels.items;
  ready : list_all (is_ready l.names l.resolved) (at_level l.at (map include_of (drop l.included-index l.includes))) ≡ true;
  going : Going l.names l.resolved l.initial.levels.items (at_level l.at (map include_of l.includes)) l.levels.items (at_level l.at (map include_of (drop l.included-index l.includes)));
}
