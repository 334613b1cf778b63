use Rattle.std.proofs.Common.{◌≡◌, ◌≤◌, ◌<◌, ◌+◌, ◌-◌, ℕ, true, length}
use Rattle.dts_tree.specs.Final.{is_taken}
use Rattle.dts_tree.proofs.phandles.Giver.least_free.Given as goal

abbrev pub invariant-loop-self : goal.invariant-loop-self
invariant-loop-self l = record {
  from : l.self-inside.next ≤ l.n;
  below : (k : ℕ) → 1 ≤ k → k < l.n → is_taken l.self-inside.numbers.items k ≡ true;
}

abbrev pub decreases-loop-self : goal.decreases-loop-self
decreases-loop-self l = length l.self-inside.numbers.items + 2 - l.n
