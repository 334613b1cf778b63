use Rattle.rows.specs.ThreeNodes.{IsPlain}
use Rattle.rows.proofs.three_nodes.is_plain.Given as goal

abbrev pub invariant-loop-name : goal.invariant-loop-name
invariant-loop-name l =
    (goal.iterator-loop-name).can_next l.name-iterator × (goal.iterator-loop-name).is_finite l.name-iterator
    × (IsPlain l.name-iterator → IsPlain l.props.entries)
