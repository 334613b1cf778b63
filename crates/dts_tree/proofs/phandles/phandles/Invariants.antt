use Rattle.std.proofs.Common.{◌≡◌, drop, map}
use Rattle.std.specs.Prelude.{fold}
use Rattle.dts_tree.specs.Final.{given_to, refs, written}
use Rattle.dts_tree.proofs.phandles.phandles.Given as goal

abbrev pub invariant-loop-draft : goal.invariant-loop-draft
invariant-loop-draft l = fold given_to l.giver (refs (drop l.draft-index l.drafts)) ≡ fold given_to (map written l.drafts) (refs l.drafts)
