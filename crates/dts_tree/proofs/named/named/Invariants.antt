use Rattle.std.proofs.Common.{◌≡◌, ◌++◌}
use Rattle.std.specs.List.{filter_map}
use Rattle.dts_tree.specs.Final.{naming_with}
use Rattle.dts_tree.specs.Inner.Naming.{finder}
use Rattle.dts_tree.proofs.named.named.Given as goal

abbrev pub invariant-loop-name : goal.invariant-loop-name
invariant-loop-name l =
    (goal.iterator-loop-name).can_next l.name-iterator × (goal.iterator-loop-name).is_finite l.name-iterator
    × (l.pairs.items ++ filter_map (naming_with (finder l.paths)) l.name-iterator ≡ filter_map (naming_with (finder l.paths)) l.props)
