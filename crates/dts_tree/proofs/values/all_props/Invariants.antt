use Rattle.std.proofs.Common.{◌≡◌, ◌++◌, ℕ, None, map, drop}
use Rattle.std.specs.Prelude.{slice_index_or}
use Rattle.std.specs.List.{enumerate_from}
use Rattle.dts_tree.specs.Drafts.{DraftData}
use Rattle.dts_tree.specs.Final.{props_of, props_with}
use Rattle.dts_tree.proofs.values.all_props.Given as goal

abbrev pub invariant-loop-place : goal.invariant-loop-place
invariant-loop-place l =
    l.all.items ++ map (λ (e : ℕ × DraftData). props_of l.drafts l.numbers e.1 (slice_index_or l.numbers e.0 None)) (enumerate_from l.place (drop l.place l.drafts))
    ≡ props_with l.drafts l.numbers
