use Rattle.std.proofs.Common.{take}
use Rattle.dts_tree.specs.Inner.Naming.{AreFound}
use Rattle.dts_tree.proofs.named.paths_of.Given as goal

abbrev pub invariant-loop-place : goal.invariant-loop-place
invariant-loop-place l = AreFound (take l.place l.drafts) l.paths
