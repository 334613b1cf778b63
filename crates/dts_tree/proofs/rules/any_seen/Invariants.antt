use Rattle.std.proofs.Common.{◌≡◌, ◌+◌, ◌-◌, ◌^◌, [], map, drop, take, min, find, fold, sum_by, nat_lt}
use Rattle.dts_tree.specs.Inner.Grown.{len_at, most, size_from, has_large, value_at, shared_from, any_seen, wants, wanted_parts, wanted_by, wanted_from, below_in}
use Rattle.dts_tree.proofs.rules.any_seen.Given as goal

abbrev pub invariant-loop-label : goal.invariant-loop-label
invariant-loop-label l = any_seen l.seen (drop l.label-index l.labels) ≡ any_seen l.seen l.labels
