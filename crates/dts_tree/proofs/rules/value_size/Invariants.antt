use Rattle.std.proofs.Common.{◌≡◌, ◌+◌, ◌-◌, ◌^◌, [], map, drop, take, min, find, fold, sum_by, nat_lt}
use Rattle.dts_tree.specs.Inner.Grown.{len_at, most, size_from, has_large, value_at, shared_from, any_seen, wants, wanted_parts, wanted_by, wanted_from, below_in}
use Rattle.dts_parse.specs.ActForm.{part_data}
use Rattle.dts_tree.proofs.rules.value_size.Given as goal

abbrev pub invariant-loop-part : goal.invariant-loop-part
invariant-loop-part l = size_from l.finder l.lens l.size (map part_data (drop l.part-index l.parts)) ≡ size_from l.finder l.lens 0 (map part_data l.parts)
