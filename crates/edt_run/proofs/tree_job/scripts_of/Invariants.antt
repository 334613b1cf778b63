use Rattle.edt_run.proofs.TreeLaws.{IsAlong}
use Rattle.edt_run.proofs.tree_job.scripts_of.Given as goal

abbrev pub invariant-loop-i : goal.invariant-loop-i
invariant-loop-i l = IsAlong l.names l.sources l.i l.scripts.items
