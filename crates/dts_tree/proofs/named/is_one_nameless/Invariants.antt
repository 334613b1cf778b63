use Rattle.std.proofs.Common.{◌≡◌, ℕ, List}
use Rattle.std.specs.Prelude.{is_none}
use Rattle.std.specs.List.{list_any}
use Rattle.edt_base.specs.declared.node.Part.{Part}
use Rattle.dts_tree.specs.Final.{named_with}
use Rattle.dts_tree.specs.Inner.Naming.{finder}
use Rattle.dts_tree.proofs.named.is_one_nameless.Given as goal

abbrev pub invariant-loop-value : goal.invariant-loop-value
invariant-loop-value l =
    (goal.iterator-loop-value).can_next l.value-iterator × (goal.iterator-loop-value).is_finite l.value-iterator
    × (list_any (λ (p : List ℕ × List Part). is_none (named_with (finder l.paths) p.1)) l.value-iterator
    ≡ list_any (λ (p : List ℕ × List Part). is_none (named_with (finder l.paths) p.1)) l.props)
