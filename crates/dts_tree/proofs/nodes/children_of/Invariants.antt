use Rattle.std.proofs.Common.{◌≡◌, length, map, take}
use Rattle.std.specs.List.{range_with_len}
use Rattle.dts_tree.specs.Final.{below_from}
use Rattle.dts_tree.proofs.nodes.children_of.Given as goal

abbrev pub invariant-loop-place : goal.invariant-loop-place
invariant-loop-place l = l.lists.items ≡ map (below_from 0 (take l.place l.drafts)) (range_with_len 0 (length l.drafts))
