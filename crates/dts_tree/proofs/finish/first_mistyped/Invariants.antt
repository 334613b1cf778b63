use Rattle.std.proofs.Common.{◌≡◌, drop}
use Rattle.dts_tree.specs.Rules.{first_mistyped}
use Rattle.dts_tree.proofs.finish.first_mistyped.Given as goal

abbrev pub invariant-loop-place : goal.invariant-loop-place
invariant-loop-place l = first_mistyped (drop l.place l.drafts) (drop l.place l.all) ≡ first_mistyped l.drafts l.all
