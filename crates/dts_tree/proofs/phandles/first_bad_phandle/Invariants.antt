use Rattle.std.proofs.Common.{◌≡◌, ℕ, [], take, drop, map}
use Rattle.std.specs.Ordering.{nat_cmp}
use Rattle.std.specs.BTreeSet.{contains}
use Rattle.dts_tree.specs.Final.{is_taken, written}
use Rattle.dts_tree.specs.Rules.{first_bad_phandle}
use Rattle.dts_tree.proofs.phandles.first_bad_phandle.Given as goal

abbrev pub invariant-loop-draft : goal.invariant-loop-draft
invariant-loop-draft l = record {
  rest : first_bad_phandle (take l.draft-index l.drafts) (drop l.draft-index l.drafts) ≡ first_bad_phandle [] l.drafts;
  seen : (k : ℕ) → contains nat_cmp l.seen k ≡ is_taken (map written (take l.draft-index l.drafts)) k;
}
