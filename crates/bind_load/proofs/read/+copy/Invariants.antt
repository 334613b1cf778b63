use Rattle.std.proofs.Common.{◌≡◌, map, take}
use Rattle.edt_base.specs.YamlData.{value_of, pair_of}
use Rattle.bind_load.proofs.read.+copy.Given as goal

abbrev pub decreases-copy : goal.decreases-copy
decreases-copy l = goal.size-copy l

abbrev pub invariant-loop-key : goal.invariant-loop-key
invariant-loop-key l = map pair_of l.copied.items ≡ map pair_of (take l.key-index l.key-items)

abbrev pub invariant-loop-item : goal.invariant-loop-item
invariant-loop-item l = map value_of l.copied.items ≡ map value_of (take l.item-index l.item-items)
