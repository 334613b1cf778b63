use Rattle.std.proofs.Common.{◌≡◌, map, take}
use Rattle.dts_tree.specs.Final.{prop_value}
use Rattle.dts_tree.proofs.values.written_props.Given as goal

abbrev pub invariant-loop-prop : goal.invariant-loop-prop
invariant-loop-prop l = l.written ≡ map (prop_value l.drafts l.numbers) (take l.prop-index l.props)
