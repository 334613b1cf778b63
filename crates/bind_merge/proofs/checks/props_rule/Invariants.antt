use Rattle.std.proofs.Common.{◌≡◌, drop}
use Rattle.bind_merge.specs.Checks.{prop_rule}
use Rattle.bind_merge.specs.Options.{first_some}
use Rattle.bind_merge.proofs.checks.props_rule.Given as goal

abbrev pub invariant-loop-prop : goal.invariant-loop-prop
invariant-loop-prop l = first_some prop_rule (drop l.prop-index l.props) ≡ first_some prop_rule l.props
