use Rattle.std.proofs.Common.{◌≤◌, ◌-◌, length}
use Rattle.bind_merge.proofs.Halving.{Between}
use Rattle.bind_merge.proofs.lookup.look.Given as goal

abbrev pub invariant-loop-low : goal.invariant-loop-low
invariant-loop-low l = record {
  low_in : l.low ≤ l.high;
  high_in : l.high ≤ length l.entries;
  between : Between l.name l.entries l.low l.high;
}

abbrev pub decreases-loop-low : goal.decreases-loop-low
decreases-loop-low l = l.high - l.low
