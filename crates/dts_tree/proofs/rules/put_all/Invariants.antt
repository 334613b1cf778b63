use Rattle.std.proofs.Common.{◌≡◌, ◌+◌, ◌-◌, ◌^◌, [], map, drop, take, min, find, fold, sum_by, nat_lt}
use Rattle.dts_tree.specs.Live.{with_new}
use Rattle.std.specs.Str.{bytes_eq}
use Rattle.dts_tree.proofs.rules.put_all.Given as goal

abbrev pub invariant-loop-label : goal.invariant-loop-label
invariant-loop-label l = fold (with_new bytes_eq) l.seen (drop l.label-index l.labels) ≡ fold (with_new bytes_eq) l.initial.seen l.labels
