use Rattle.std.proofs.Common.{◌≡◌, drop}
use Rattle.dts_tree.specs.Final.{draft_prop}
use Rattle.dts_tree.proofs.phandles.draft_prop.Given as goal

abbrev pub invariant-loop-prop : goal.invariant-loop-prop
invariant-loop-prop l = draft_prop l.name (drop l.prop-index l.props) ≡ draft_prop l.name l.props
