use Rattle.std.proofs.Common.{◌≤◌, ◌+◌, ◌-◌, length, drop}
use Rattle.bind_merge.proofs.JoinSteps.{Goes}
use Rattle.bind_merge.proofs.entries.joined.Given as goal

abbrev pub invariant-loop-i : goal.invariant-loop-i
invariant-loop-i l = record {
  i_in : l.i ≤ length l.a;
  j_in : l.j ≤ length l.b;
  goes : Goes l.a l.b (drop l.i l.a) (drop l.j l.b) l.out.items;
}

abbrev pub decreases-loop-i : goal.decreases-loop-i
decreases-loop-i l = (length l.a - l.i) + (length l.b - l.j)
