use Rattle.std.proofs.Common.{◌≡◌, map, drop}
use Rattle.edt_base.specs.YamlData.{value_of}
use Rattle.bind_merge.specs.Same.{same_list}
use Rattle.bind_merge.proofs.same.same_values.Given as goal

abbrev pub invariant-loop-value : goal.invariant-loop-value
invariant-loop-value l =
    same_list (map value_of (drop l.value-index l.a)) (map value_of l.left) ≡ same_list (map value_of l.a) (map value_of l.b)
