use Rattle.std.proofs.Common.{◌≡◌}
use Rattle.edt_base.specs.NodeData.{prop_of}
use Rattle.dts_tree.proofs.values.Props.get.Given as goal

abbrev pub invariant-loop-key : goal.invariant-loop-key
invariant-loop-key l =
    (goal.iterator-loop-key).can_next l.key-iterator × (goal.iterator-loop-key).is_finite l.key-iterator
    × (prop_of l.name l.key-iterator ≡ prop_of l.name l.self)
