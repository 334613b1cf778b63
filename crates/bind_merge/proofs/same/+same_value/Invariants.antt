use Rattle.std.proofs.Common.{◌≡◌, map, drop}
use Rattle.edt_base.specs.YamlData.{value_of, pair_of, pairs_from, items_from}
use Rattle.bind_merge.specs.Same.{same, same_items, same_pairs}
use Rattle.bind_merge.proofs.same.+same_value.Given as goal

abbrev pub decreases-same_value : goal.decreases-same_value
decreases-same_value l = goal.size-same_value l

abbrev pub invariant-loop-key : goal.invariant-loop-key
invariant-loop-key l =
    same_pairs (pairs_from (map pair_of (drop l.key-index l.key-items))) (pairs_from (map pair_of l.left)) ≡ same (value_of l.a) (value_of l.b)

abbrev pub invariant-loop-value : goal.invariant-loop-value
invariant-loop-value l =
    same_items (items_from (map value_of (drop l.value-index l.value-items))) (items_from (map value_of l.left)) ≡ same (value_of l.a) (value_of l.b)
