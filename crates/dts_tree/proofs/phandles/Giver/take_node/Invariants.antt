use Rattle.std.proofs.Common.{◌≡◌, ℕ, List, drop}
use Rattle.std.specs.Prelude.{fold}
use Rattle.std.specs.List.{flat_map}
use Rattle.dts_tree.specs.Drafts.{DraftPartData}
use Rattle.dts_tree.specs.Final.{given_to, part_refs, node_refs}
use Rattle.dts_tree.proofs.phandles.Giver.take_node.Given as goal

abbrev pub invariant-loop-prop : goal.invariant-loop-prop
invariant-loop-prop l =
    fold given_to l.self (flat_map (λ (p : List ℕ × List DraftPartData). flat_map part_refs p.1) (drop l.prop-index l.draft.props))
    ≡ fold given_to l.initial.self (node_refs l.draft)
