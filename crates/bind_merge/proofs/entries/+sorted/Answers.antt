use Rattle.std.proofs.Common.{◌≡◌, ◌++◌, sym, subst, take-append-drop}
use Rattle.std.specs.Option.{option_map}
use Rattle.bind_merge.specs.Joining.{ClashIn}
use Rattle.bind_merge.specs.Adding.{IsSortedOf}
use Rattle.bind_merge.specs.Answering.{JoinsOr, SortedOr}
use Rattle.bind_merge.proofs.Sorting.{sorted-short, sorted-halves, clash-front, clash-back}
use Rattle.bind_merge.proofs.entries.+sorted.Goals as goal

pub returns-then-entries-lt2 : goal.returns-then-entries-lt2
returns-then-entries-lt2 t c =
    subst (λ r. IsSortedOf c.args.entries.now r) (sym c.in_ok-share_all.ensures) (sorted-short c.args.entries.now c.if-entries-lt2.true)

pub returns-in_default : goal.returns-in_default
returns-in_default t c =
    let e : c.split_at.result.0.now ++ c.split_at.result.1.now ≡ c.args.entries.now =
    rw (c.split_at.ensures.front, c.split_at.ensures.back) (take-append-drop _ c.args.entries.now) in
    let k : ClashIn c.split_at.result.0.now c.split_at.result.0.now = rw c.in_default.is at c.in_ok-front.ensures in
    subst (λ r. ClashIn r r) e (clash-front c.split_at.result.0.now c.split_at.result.1.now k)

pub returns-in_default-2 : goal.returns-in_default-2
returns-in_default-2 t c =
    let e : c.split_at.result.0.now ++ c.split_at.result.1.now ≡ c.args.entries.now =
    rw (c.split_at.ensures.front, c.split_at.ensures.back) (take-append-drop _ c.args.entries.now) in
    let k : ClashIn c.split_at.result.1.now c.split_at.result.1.now = rw c.in_default-2.is at c.in_ok-back.ensures in
    subst (λ r. ClashIn r r) e (clash-back c.split_at.result.0.now c.split_at.result.1.now k)

pub returns : goal.returns
returns t c =
    let e : c.split_at.result.0.now ++ c.split_at.result.1.now ≡ c.args.entries.now =
    rw (c.split_at.ensures.front, c.split_at.ensures.back) (take-append-drop _ c.args.entries.now) in
    let f : IsSortedOf c.split_at.result.0.now c.in-Some.front.items = rw c.in-Some.is at c.in_ok-front.ensures in
    let b : IsSortedOf c.split_at.result.1.now c.in-Some-2.back.items = rw c.in-Some-2.is at c.in_ok-back.ensures in
    let j : JoinsOr c.in-Some.front.items c.in-Some-2.back.items (option_map (λ v. v.items) c.in_ok-all.all) =
    rw (c.as_slice.ensures.value, c.as_slice-2.ensures.value) at c.in_ok-all.ensures in
    subst (λ r. SortedOr r (option_map (λ v. v.items) c.in_ok-all.all)) e
    (sorted-halves c.split_at.result.0.now c.split_at.result.1.now c.in-Some.front.items c.in-Some-2.back.items f b _ j)
