use Rattle.std.proofs.Common.{◌≡◌, ℕ, take, map}
use Rattle.std.specs.Ordering.{nat_cmp}
use Rattle.std.specs.BTreeSet.{contains}
use Rattle.dts_tree.specs.Final.{is_taken, written}
use Rattle.dts_tree.proofs.phandles.Giver.new.Given as goal

abbrev pub invariant-loop-draft : goal.invariant-loop-draft
invariant-loop-draft l = record {
  numbers : l.numbers.items ≡ map written (take l.draft-index l.drafts);
  taken : (k : ℕ) → contains nat_cmp l.taken k ≡ is_taken l.numbers.items k;
}
