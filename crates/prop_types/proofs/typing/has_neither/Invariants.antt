use Rattle.std.proofs.Common.{◌≡◌, ◌||◌, ℕ, List, not}
use Rattle.std.specs.List.{list_any}
use Rattle.edt_base.specs.declared.node.Part.{Part}
use Rattle.prop_types.specs.Inner.Places.{has_name}
use Rattle.prop_types.specs.Typing.{is_free}
use Rattle.prop_types.proofs.typing.has_neither.Given as goal

abbrev pub invariant-loop-name : goal.invariant-loop-name
invariant-loop-name l =
    (goal.iterator-loop-name).can_next l.name-iterator × (goal.iterator-loop-name).is_finite l.name-iterator
    × (list_any (λ (p : List ℕ × List Part). not (has_name l.types p.0 || is_free p.0)) l.name-iterator
    ≡ list_any (λ (p : List ℕ × List Part). not (has_name l.types p.0 || is_free p.0)) l.node.props)
