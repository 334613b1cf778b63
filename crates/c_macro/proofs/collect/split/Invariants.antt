use Rattle.std.proofs.Common.{length}
use Rattle.c_macro.specs.Collecting.{Splitting}
use Rattle.c_macro.proofs.collect.split.Given as goal

abbrev pub invariant-loop-taking : goal.invariant-loop-taking
invariant-loop-taking l = Splitting l.fn.row l.fn.commas l.taking

abbrev pub decreases-loop-taking : goal.decreases-loop-taking
decreases-loop-taking l = length l.taking.left
